-- The hypotheses of demand 3 can be met: a file, the fold made in it, and a meaning with steps that write and that stop, of
-- which all facts are true. The fold brings a call into `o.x = v`, while another call of the same kind, label and flags does
-- change what `o.x` gives. Direct evals, patterns, usings and kind 6 statements are as any other meaning has them; the file has
-- none (HiddenSteps has files with some). Assumes nothing.
use Prim.Native.Nat.{ℕ, ◌+◌}
use mathlib.Core.Bool.{Bool, true, false, cond, ◌&&◌, ◌||◌, and-false, false≢true}
use mathlib.Core.List.{List, [], ◌∷◌}
use mathlib.Core.Path.{◌≡◌, refl, sym, ap, subst, ◌∙◌}
use lib.Dec.{eqb}
use borrow.Author.Tests.{eqb-false, ne_eqb}
use Rattle.records.specs.Limits.{no_number}
use Rattle.records.specs.Script.{flags_of}
use Rattle.records.specs.Tree.{Tree, Trees, node, none, more, count}
use Rattle.records.specs.Count.{target_name as target_of, first_target, name_read}
use Rattle.records.specs.Refusal.{refusal}
use Rattle.records.specs.File.{Const, given, Statement, declaration, expression, File, declarators_in, all_declarators, initializer_tree, initializer_trees, statement_trees, all_trees, print}
use Rattle.records.specs.declared.layout.NameFacts.{NameFacts}
use Rattle.theory_runs.specs.Store.{Store, set}
use Rattle.theory_runs.specs.Hand.{static, Beside, nothing, bare_eval, target_name, opaque_target, member, Given, only, first_or, last_or}
use Rattle.theory_runs.specs.Step.{Role, value, target, Origin, of_node, of_declarator, of_other, Step}
use Rattle.theory_runs.specs.Meaning.{Act, done, stops, Meaning}
use Rattle.theory_runs.specs.Form.{cleared, is_marked, is_member, is_delete, form, order, childless, is_name, is_chain, is_plain, is_assignment, choice_of, first_role, origin_of}
use Rattle.theory_runs.specs.State.{State, Out, gave, cut, stop, bind}
use Rattle.theory_runs.specs.Run.{takes, then, is_read, kept, listed, acted, caught, gathered, chosen, in_turn, stepped, queued, held, after_first, own, beside, finished, run_node, run}
use Rattle.theory_runs.specs.Script.{sets, binds, declares_bare, declares_with, run_declarator, run_declarators, gives, run_statement, run_statements, Ran, whole, ran, begin, run_file}
use Rattle.theory_runs.specs.Shapes.{some_in, declared_in, shape_p, first_declared, shape_q, eval_whole, some_eval, shape_r, shape_s}
use Rattle.theory_runs.specs.InHand.{sort_of, same_beside, is_nothing, beside_of, may_keep, are_values, may_have}
use Rattle.theory_runs.specs.Makes.{Asked, choice, step, is_marked_step, is_made, some, makes_own, asks, some_turn, role_number, same_origin, makes_here, makes_in, makes_marked, makes_declarator, makes_statement, makes}
use Rattle.walk_rules.specs.Context.{context_of, facts_of}
use Rattle.walk_rules.specs.Unsettled.{scope_of, climb, read_crosses_function_boundary}
use Rattle.theory_runs.specs.Demand.{folded, both-ended, SameRun}
use Rattle.theory_runs.specs.Facts.{is_target_of, aims, through_by, through, is_of_node, AgreeBut, ActsAlike, both-done, both-stop, Each, FoldKeeps, this_step, Facts}
use Rattle.statements_rules.specs.Declarators.{is_using}
use Rattle.statements_rules.specs.Trace.{Fold}
use Rattle.statements_rules.specs.Fold.{fold_file}
use Rattle.statements_rules.proofs.Computed.{computed}

-- The file: `const v = f(); o.x = v; g();`. Names: 0 v, 1 f, 2 g, 3 o.
abbrev pub nd : ℕ → ℕ → ℕ → Trees → Tree
nd kind flags label kids = node (record { kind = kind; flags = flags; label = label; position = 0 }) kids

abbrev pub name : ℕ → Tree
name a = nd 4 0 a none

abbrev pub call : ℕ → Tree
call a = nd 14 1 0 (more (name a) none)

abbrev pub property : Tree
property = nd 10 0 7 (more (name 3) none)

abbrev pub assigned : Tree → Tree
assigned t = nd 20 0 0 (more property (more t none))

abbrev pub facts : List NameFacts
facts =
    record { flags = 17; scope = 0; reads = 1; writes = 0 } ∷ record { flags = 1; scope = 0; reads = 0; writes = 0 }
    ∷ record { flags = 1; scope = 0; reads = 0; writes = 0 } ∷ record { flags = 1; scope = 0; reads = 0; writes = 0 } ∷ []

abbrev pub file_of : List NameFacts → List Statement → File
file_of names ss = record { options = 0; current_scope = 0; this_scope = no_number; names = names; scopes = record { parent = no_number; flags = 0 } ∷ []; frames = []; statements = ss }

abbrev pub statements : List Statement
statements =
    declaration Const (record { name = 0; initializer = given (call 1) } ∷ [])
    ∷ expression (assigned (name 0))
    ∷ expression (call 2)
    ∷ []

abbrev script : File
script = file_of facts statements

-- `o.x = f(); g();`, and the fold that was made
abbrev result : File
result = file_of facts (expression (assigned (call 1)) ∷ expression (call 2) ∷ [])

abbrev pub trace : List Fold
trace = record { name = 0; initializer = call 1; into = assigned (name 0); before = declaration Const [] ∷ [] } ∷ []

-- The rest of the store: what `o.x` holds, and a count.
abbrev pub Bench : Type 0
Bench = ℕ × ℕ

-- the value of a callee
unfoldable pub callee : List (Given ℕ) → ℕ
callee hs = (first_or 0 hs).value

-- A member reads what `o.x` holds, `this` is fixed, every other step reads the count.
unfoldable pub looks : Origin → Bench → ℕ
looks (of_node kind label flags role) r = cond (eqb kind 10) r.0 (cond (eqb kind 5) 3 r.1)
looks (of_declarator k a) r = r.1
looks of_other r = r.1

-- An assignment sets `o.x`; a call of the value 12 adds to it; every other node's step counts.
unfoldable pub changes : Origin → List (Given ℕ) → Bench → Bench
changes (of_node kind label flags role) hs r =
    cond (eqb kind 20) (last_or 0 hs, r.1) (cond (eqb kind 14 && eqb (callee hs) 12) (r.0 + 50, r.1) (r.0, r.1 + 1))
changes (of_declarator k a) hs r = r
changes of_other hs r = r

-- A call of the value 13 stops.
unfoldable pub halts : Origin → List (Given ℕ) → Bool
halts (of_node kind label flags role) hs = eqb kind 14 && eqb (callee hs) 13
halts (of_declarator k a) hs = false
halts of_other hs = false

-- A step that is made through a name writes the last value in hand to it.
unfoldable pub writes : Step ℕ → (ℕ → ℕ) → ℕ → ℕ
writes x names a = cond (through a x) (last_or 0 x.hand) (names a)

unfoldable pub acts : Bool → Step ℕ → Store ℕ Bench → Act ℕ Bench
acts true x s = stops
acts false x s = done s.rest.1 (record { names = writes x s.names; rest = changes x.origin x.hand s.rest })

-- A direct eval has bare `eval` in hand. Its steps and choices, and those of patterns, usings and kind 6 statements, are as any
-- other meaning has them.
unfoldable pub is_direct : Beside ℕ → Bool
is_direct nothing = false
is_direct bare_eval = true
is_direct (target_name a) = false
is_direct (opaque_target l) = false
is_direct (member o k) = false

unfoldable pub is_free : Origin → List (Given ℕ) → Bool
is_free (of_node kind label flags role) hs = is_direct (first_or 0 hs).beside
is_free (of_declarator k a) hs = true
is_free of_other hs = true

unfoldable pub bench : Meaning ℕ Bench → Meaning ℕ Bench
bench free = record {
  undefined = 0;
  constant = λ x. last_or 0 x.hand;
  reads = λ x s. cond (is_free x.origin x.hand) (free.reads x s) (looks x.origin s.rest);
  chooses = λ x s. cond (is_free x.origin x.hand) (free.chooses x s) (eqb s.rest.1 0);
  acts = λ x s. cond (is_free x.origin x.hand) (free.acts x s) (acts (halts x.origin x.hand) x s);
}

abbrev pub start : Store ℕ Bench
start = record { names = λ a. 10 + a; rest = (40, 0) }

-- the state that a part of a run leaves, and the value that it gave
unfoldable pub state_of : {A : Type 0} → Out ℕ Bench A → State ℕ Bench
unfolding begin
state_of (gave a s) = s
state_of (cut s) = s
state_of (stop l) = begin start

unfoldable pub value_of : Out ℕ Bench (Given ℕ) → ℕ
value_of (gave x s) = x.value
value_of (cut s) = 0
value_of (stop l) = 0

unfoldable store_of : Act ℕ Bench → Store ℕ Bench → Store ℕ Bench
store_of (done w s) u = s
store_of stops u = u

-- what a run comes to, computed
unfoldable pub runs : Meaning ℕ Bench → Tree → Role → State ℕ Bench → Out ℕ Bench (Given ℕ)
unfolding cleared is_marked is_member is_delete form order childless is_name is_chain is_plain is_assignment choice_of first_role origin_of bind takes then is_read kept listed acted caught gathered chosen in_turn stepped queued held after_first own beside finished run_node run first_or last_or set flags_of callee looks changes halts is_target_of aims through_by writes is_direct is_free acts bench
runs free t role s = run facts (bench free) t role s

unfoldable pub ran_of : Meaning ℕ Bench → File → Ran ℕ Bench
unfolding runs sets binds declares_bare declares_with run_declarator run_declarators gives run_statement run_statements whole ran begin run_file
ran_of free f = run_file (bench free) f start

-- a choice between two values, of which the test says that it is the second
second : (b : Bool) (w u : ℕ) → b ≡ false → cond b w u ≡ u
second true w u e = absurd (false≢true (sym e))
second false w u e = refl

either : (b : Bool) (w u u' : ℕ) → u ≡ u' → cond b w u ≡ cond b w u'
either true w u u' e = refl
either false w u u' e = e

-- what a file makes, computed
unfoldable pub made : Asked → File → Step ℕ → Bool
unfolding cleared is_marked is_member is_delete form order childless is_name is_chain is_plain is_assignment choice_of first_role origin_of kept beside first_or last_or takes then is_read flags_of sort_of same_beside is_nothing beside_of may_keep are_values may_have is_marked_step is_made some makes_own asks some_turn role_number same_origin is_using makes_here makes_in makes_marked makes_declarator makes_statement makes
made d f x = makes d f x

-- Before and after the folded call `o.x` holds 40.
pub kept_here : (free : Meaning ℕ Bench) → FoldKeeps facts (bench free) start (record { name = 0; initializer = call 1; into = assigned (name 0); before = declaration Const [] ∷ [] })
unfolding runs state_of value_of run_declarators run_statement run_statements begin
kept_here free s s' x before through-it =
    let here : begin start ≡ s = ap state_of before in
    let there : ◌≡◌ {A = ℕ} 40 s'.store.rest.0 = ap (λ o. (state_of o).store.rest.0) (subst (λ u. run facts (bench free) (call 1) value u ≡ gave x s') (sym here) through-it) in
    let same : s.store.rest.0 ≡ s'.store.rest.0 = ap (λ u. u.store.rest.0) (sym here) ∙ there in
    ((λ p q r y y' u u' e e'. ap value_of (sym e) ∙ same ∙ ap value_of e'), (((λ p q r. absurd (false≢true p)), ((tt, tt), tt)), ((tt, tt), tt)))

-- Stores that differ at one name alone.
alike-by : (b : Bool) (a : ℕ) (x : Step ℕ) (s s' : Store ℕ Bench) → AgreeBut a s s' → ActsAlike a (acts b x s) (acts b x (record { names = s'.names; rest = s.rest }))
unfolding acts writes
alike-by true a x s s' h = both-stop
alike-by false a x s s' h = both-done (record { names = λ n e. either (through n x) _ _ _ (h.names n e); rest = refl })

alike : (b : Bool) (a : ℕ) (x : Step ℕ) (s s' : Store ℕ Bench) → AgreeBut a s s' → ActsAlike a (acts b x s) (acts b x s')
alike b a x s s' h = subst (λ r. ActsAlike a (acts b x s) (acts b x (record { names = s'.names; rest = r }))) h.rest (alike-by b a x s s' h)

-- A step through nothing of a name doesn't write it.
unwritten-by : (b : Bool) (a : ℕ) (x : Step ℕ) (s : Store ℕ Bench) → through a x ≡ false → (store_of (acts b x s) s).names a ≡ s.names a
unfolding acts store_of writes
unwritten-by true a x s e = refl
unwritten-by false a x s e = second (through a x) _ _ e

-- what is asked of a step or choice that is as the other meaning has it: it reads no name
abbrev pub Unread : Meaning ℕ Bench → Asked → Step ℕ → Type 0
Unread free choice x = (a : ℕ) (s s' : Store ℕ Bench) → AgreeBut a s s' → free.chooses x s ≡ free.chooses x s'
Unread free (step false) x = (a : ℕ) (s s' : Store ℕ Bench) → AgreeBut a s s' → free.reads x s ≡ free.reads x s'
Unread free (step true) x = (a : ℕ) (s s' : Store ℕ Bench) → AgreeBut a s s' → ActsAlike a (free.acts x s) (free.acts x s')

-- The facts are true for statements that make no direct eval, and no declarator's or kind 6 statement's step that reads a name.
module _ (free : Meaning ℕ Bench) (names : List NameFacts) (ss : List Statement)
    (no-eval : (d : Asked) (o : Origin) (w : ℕ) (hs : List (Given ℕ)) → makes d (file_of names ss) (record { origin = o; hand = record { value = w; beside = bare_eval } ∷ hs }) ≡ false)
    (unread : (d : Asked) (x : Step ℕ) → makes d (file_of names ss) x ≡ true → is_of_node x.origin ≡ false → Unread free d x) where
  abbrev f : File
  f = file_of names ss

  no_direct : (d : Asked) (o : Origin) (w : ℕ) (b : Beside ℕ) (hs : List (Given ℕ)) → makes d f (record { origin = o; hand = record { value = w; beside = b } ∷ hs }) ≡ true → is_direct b ≡ false
  unfolding is_direct
  no_direct d o w nothing hs e = refl
  no_direct d o w bare_eval hs e = sym e ∙ no-eval d o w hs
  no_direct d o w (target_name a) hs e = refl
  no_direct d o w (opaque_target l) hs e = refl
  no_direct d o w (member v k) hs e = refl

  -- a node's step is as it is here
  bound : (d : Asked) (o : Origin) (hs : List (Given ℕ)) → makes d f (record { origin = o; hand = hs }) ≡ true → is_of_node o ≡ true → is_free o hs ≡ false
  unfolding is_free is_direct first_or is_of_node
  bound d (of_node kind label flags role) [] e n = refl
  bound d (of_node kind label flags role) (h ∷ hs) e n = no_direct d (of_node kind label flags role) h.value h.beside hs e
  bound d (of_declarator k a) hs e n = sym n
  bound d of_other hs e n = sym n

  free-unread : (d : Asked) (x : Step ℕ) → makes d f x ≡ true → is_free x.origin x.hand ≡ true → Unread free d x
  free-unread d x k u = by (is_of_node x.origin) refl
    where
      by : (n : Bool) → is_of_node x.origin ≡ n → Unread free d x
      by true e = absurd (false≢true (sym (bound d x.origin x.hand k e) ∙ u))
      by false e = unread d x k e

  reads-alike : (a : ℕ) (x : Step ℕ) → makes (step false) f x ≡ true → (s s' : Store ℕ Bench) → AgreeBut a s s' → (bench free).reads x s ≡ (bench free).reads x s'
  unfolding bench
  reads-alike a x k s s' g = by (is_free x.origin x.hand) refl
    where
      by : (u : Bool) → is_free x.origin x.hand ≡ u → cond u (free.reads x s) (looks x.origin s.rest) ≡ cond u (free.reads x s') (looks x.origin s'.rest)
      by true e = free-unread (step false) x k e a s s' g
      by false e = ap (looks x.origin) g.rest

  chooses-alike : (a : ℕ) (x : Step ℕ) → makes choice f x ≡ true → (s s' : Store ℕ Bench) → AgreeBut a s s' → (bench free).chooses x s ≡ (bench free).chooses x s'
  unfolding bench
  chooses-alike a x k s s' g = by (is_free x.origin x.hand) refl
    where
      by : (u : Bool) → is_free x.origin x.hand ≡ u → cond u (free.chooses x s) (eqb s.rest.1 0) ≡ cond u (free.chooses x s') (eqb s'.rest.1 0)
      by true e = free-unread choice x k e a s s' g
      by false e = ap (λ r. eqb r.1 0) g.rest

  acts-alike : (a : ℕ) (x : Step ℕ) → makes (step true) f x ≡ true → (s s' : Store ℕ Bench) → AgreeBut a s s' → ActsAlike a ((bench free).acts x s) ((bench free).acts x s')
  unfolding bench
  acts-alike a x k s s' g = by (is_free x.origin x.hand) refl
    where
      by : (u : Bool) → is_free x.origin x.hand ≡ u → ActsAlike a (cond u (free.acts x s) (acts (halts x.origin x.hand) x s)) (cond u (free.acts x s') (acts (halts x.origin x.hand) x s'))
      by true e = free-unread (step true) x k e a s s' g
      by false e = alike (halts x.origin x.hand) a x s s' g

  unwritten : (a : ℕ) (x : Step ℕ) → makes (step true) f x ≡ true → is_of_node x.origin ≡ true → through a x ≡ false → (s s' : Store ℕ Bench) (w : ℕ) → (bench free).acts x s ≡ done w s' → s'.names a ≡ s.names a
  unfolding bench store_of
  unwritten a x k n e s s' w h = ap (λ act. (store_of act s).names a) (sym (rw (bound (step true) x.origin x.hand k n) at h)) ∙ unwritten-by (halts x.origin x.hand) a x s e

  this_fixed : (label flags : ℕ) (s s' : Store ℕ Bench) → (bench free).reads (this_step label flags) s' ≡ (bench free).reads (this_step label flags) s
  unfolding bench looks is_free is_direct first_or
  this_fixed label flags s s' = refl

  pub true_of : (folds : List Fold) → Each (FoldKeeps names (bench free) start) folds → Facts f folds (bench free) start
  true_of folds kept = record {
    reads_hidden = λ a h x k e s s' g. reads-alike a x k s s' g;
    chooses_hidden = λ a h x k e s s' g. chooses-alike a x k s s' g;
    acts_hidden = λ a h x k e s s' g. acts-alike a x k s s' g;
    writes_hidden = λ a h x k n e s s' w g. unwritten a x k n e s s' w g;
    settled-kept = λ a h x k n e s s' w g. unwritten a x k n e s s' w g;
    this-kept = λ h x k n s s' w g label flags i. this_fixed label flags s s';
    targets-kept = kept;
  }

-- The file makes no direct eval, and no step of a pattern, a using or a kind 6 statement; so its facts are true whatever these
-- do.
script-no_eval : (d : Asked) (o : Origin) (w : ℕ) (hs : List (Given ℕ)) → makes d script (record { origin = o; hand = record { value = w; beside = bare_eval } ∷ hs }) ≡ false
unfolding made
script-no_eval choice o w hs = refl
script-no_eval (step b) o w hs = refl

nodes-alone : (d : Asked) (o : Origin) (hs : List (Given ℕ)) → is_of_node o ≡ false → makes d script (record { origin = o; hand = hs }) ≡ false
unfolding made is_of_node
nodes-alone d (of_node kind label flags role) hs e = absurd (false≢true (sym e))
nodes-alone choice (of_declarator k a) hs e = simp and-false
nodes-alone (step b) (of_declarator k a) hs e = simp and-false
nodes-alone choice of_other hs e = simp and-false
nodes-alone (step b) of_other hs e = simp and-false

pub met : (free : Meaning ℕ Bench) → Facts script trace (bench free) start
met free = true_of free facts statements script-no_eval (λ d x k e. absurd (false≢true (sym (nodes-alone d x.origin x.hand e) ∙ k))) trace (kept_here free, tt)

-- The file is accepted, this is its fold, and it has none of the four shapes.
pub accepted : refusal (print script) 1000 ≡ 0
unfolding computed
accepted = refl

folds_so : ((fold_file script).file ≡ result) × ((fold_file script).trace ≡ trace)
unfolding computed
folds_so = (refl, refl)

pub shapeless : (shape_p script ≡ false) × (shape_q script ≡ false) × (shape_r script ≡ false) × (shape_s script ≡ false)
unfolding some_in declared_in shape_p first_declared shape_q eval_whole some_eval shape_r shape_s context_of facts_of scope_of climb read_crosses_function_boundary name_read target_of first_target flags_of count declarators_in all_declarators initializer_tree initializer_trees statement_trees all_trees
shapeless = (refl, refl, refl, refl)

-- a node's step through no name, with this in hand
abbrev did : ℕ → ℕ → List (Given ℕ) → Step ℕ
did kind flags hs = record { origin = of_node kind 0 flags value; hand = hs }

-- Both runs call `f`, assign, call `g`; `o.x` gave 40 to the assignment.
abbrev steps-made : List (Step ℕ)
steps-made = did 14 1 (only 11 ∷ []) ∷ did 20 0 (record { value = 40; beside = member 13 (static 7) } ∷ only 0 ∷ []) ∷ did 14 1 (only 12 ∷ []) ∷ []

script-steps : (free : Meaning ℕ Bench) → (run_file (bench free) script start).steps ≡ steps-made
unfolding ran_of
script-steps free = refl

result-steps : (free : Meaning ℕ Bench) → (run_file (bench free) result start).steps ≡ steps-made
unfolding ran_of
result-steps free = refl

-- no name but v is folded
not_v : (a : ℕ) → folded script result a ≡ false → eqb a 0 ≡ false
unfolding folded declared_in declarators_in all_declarators
not_v a e = ne_eqb a 0 (λ z. eqb-false 0 a (two (eqb 0 a) e) (sym z))
  where
    two : (b : Bool) → (b || false) && true ≡ false → b ≡ false
    two true h = h
    two false h = refl

-- The two runs are the same.
pub same : (free : Meaning ℕ Bench) → SameRun script result (run_file (bench free) script start) (run_file (bench free) result start)
unfolding ran_of
same free = record { steps = refl; values = refl; end = both-ended (λ a e. second (eqb a 0) _ _ (not_v a e)) refl }

-- The call of `g`, of the same kind, label and flags as that of `f`, changes what `o.x` gives.
changed_by_g : (free : Meaning ℕ Bench) → (value_of (run facts (bench free) property target (begin start)) ≡ 40) × (value_of (run facts (bench free) property target (state_of (run facts (bench free) (call 2) value (begin start)))) ≡ 90)
unfolding runs state_of value_of begin
changed_by_g free = (refl, refl)
