-- The hypotheses of demand 3 for the repeat can be met, and they have to speak of every run: a file of three runs, whose second run
-- brings a call into `o.x = ..`. With `f` for the callee all facts are true of Witness's meaning. With `g`, whose call changes
-- `o.x`, they are true where they speak of the first run's folds alone, and the run of the last result isn't that of the file.
-- Assumes nothing.
use Prim.Native.Nat.{ℕ}
use native.Mathlib.Omega.{arith}
use mathlib.Core.Bool.{false, and-false, false≢true}
use mathlib.Core.List.{List, [], ◌∷◌, ◌++◌}
use mathlib.Core.Path.{◌≡◌, refl, sym, ap, subst, ◌∙◌}
use Rattle.records.specs.Tree.{Tree, none, more}
use Rattle.records.specs.Refusal.{refusal}
use Rattle.records.specs.Script.{flags_of}
use Rattle.records.specs.File.{Const, given, Declarator, Statement, declaration, File, declarators_in, all_declarators, print}
use Rattle.records.specs.declared.layout.NameFacts.{NameFacts}
use Rattle.statements_rules.specs.Trace.{Fold}
use Rattle.statements_rules.specs.Steady.{same_bytes, at_rest, run_before, repeat_fold, steady_bytes}
use Rattle.statements_rules.proofs.Computed.{computed}
use Rattle.theory_runs.specs.Hand.{bare_eval, Given, first_or}
use Rattle.theory_runs.specs.Step.{value, target, Origin, of_node, of_declarator, of_other, Step}
use Rattle.theory_runs.specs.Meaning.{Meaning}
use Rattle.theory_runs.specs.State.{gave}
use Rattle.theory_runs.specs.Run.{run}
use Rattle.theory_runs.specs.Script.{run_declarators, run_statement, run_statements, begin, run_file}
use Rattle.theory_runs.specs.Shapes.{eval_whole, some_eval, shape_r}
use Rattle.theory_runs.specs.Makes.{Asked, choice, step, makes}
use Rattle.theory_runs.specs.Facts.{is_of_node, FoldKeeps, Facts}
use Rattle.theory_runs.specs.Steady.{folds_of}
use Rattle.theory_runs.proofs.Witness.{nd, name, call, property, assigned, facts, file_of, Bench, bench, start, state_of, value_of, runs, ran_of, made, true_of}

-- The file: `const v = f(); const r = 1, p = (o.x = [v, r]);`, or with `g` for `f`. Names: 0 v, 1 f, 2 g, 3 o, 4 r, 5 p.
abbrev names : List NameFacts
names = facts ++ record { flags = 17; scope = 0; reads = 1; writes = 0 } ∷ record { flags = 17; scope = 0; reads = 0; writes = 0 } ∷ []

abbrev literal : Tree
literal = nd 1 0 0 none

abbrev pair : Tree → Tree → Tree
pair t u = nd 21 0 0 (more t (more u none))

abbrev declarator : ℕ → Tree → Declarator
declarator a t = record { name = a; initializer = given t }

abbrev statements : ℕ → List Statement
statements callee =
    declaration Const (declarator 0 (call callee) ∷ [])
    ∷ declaration Const (declarator 4 literal ∷ declarator 5 (assigned (pair (name 0) (name 4))) ∷ [])
    ∷ []

abbrev script : ℕ → File
script callee = file_of names (statements callee)

-- `const p = (o.x = [f(), 1]);`
abbrev result : ℕ → File
result callee = file_of names (declaration Const (declarator 5 (assigned (pair (call callee) literal)) ∷ []) ∷ [])

-- the fold of the first run, and that of the second
abbrev first : ℕ → Fold
first callee = record {
  name = 4;
  initializer = literal;
  into = assigned (pair (name 0) (name 4));
  before = declaration Const (declarator 0 (call callee) ∷ []) ∷ declaration Const [] ∷ [];
}

abbrev second : ℕ → Fold
second callee = record { name = 0; initializer = call callee; into = assigned (pair (name 0) literal); before = declaration Const [] ∷ [] }

-- both files are accepted
pub accepted : (refusal (print (script 1)) 1000 ≡ 0) × (refusal (print (script 2)) 1000 ≡ 0)
unfolding computed
accepted = (refl, refl)

-- and have no shape R
plain : (shape_r (script 1) ≡ false) × (shape_r (script 2) ≡ false)
unfolding eval_whole some_eval shape_r flags_of declarators_in all_declarators
plain = (refl, refl)

-- three runs are made of each, with these folds, and this is what is left
runs-made : ((steady_bytes (print (script 1)) 1000).runs ≡ 3) × ((steady_bytes (print (script 2)) 1000).runs ≡ 3)
unfolding computed same_bytes at_rest run_before repeat_fold steady_bytes
runs-made = (refl, refl)

folds-made : (folds_of 3 (script 1) ≡ first 1 ∷ second 1 ∷ []) × (folds_of 3 (script 2) ≡ first 2 ∷ second 2 ∷ [])
unfolding computed folds_of
folds-made = (refl, refl)

left : ((steady_bytes (print (script 1)) 1000).result ≡ print (result 1)) × ((steady_bytes (print (script 2)) 1000).result ≡ print (result 2))
unfolding computed same_bytes at_rest run_before repeat_fold steady_bytes
left = (refl, refl)

-- neither makes a direct eval, or a step of a pattern, a using or a kind 6 statement
no_eval_1 : (d : Asked) (o : Origin) (w : ℕ) (hs : List (Given ℕ)) → makes d (script 1) (record { origin = o; hand = record { value = w; beside = bare_eval } ∷ hs }) ≡ false
unfolding made
no_eval_1 choice o w hs = refl
no_eval_1 (step b) o w hs = refl

no_eval_2 : (d : Asked) (o : Origin) (w : ℕ) (hs : List (Given ℕ)) → makes d (script 2) (record { origin = o; hand = record { value = w; beside = bare_eval } ∷ hs }) ≡ false
unfolding made
no_eval_2 choice o w hs = refl
no_eval_2 (step b) o w hs = refl

nodes-alone : (callee : ℕ) (d : Asked) (o : Origin) (hs : List (Given ℕ)) → is_of_node o ≡ false → makes d (script callee) (record { origin = o; hand = hs }) ≡ false
unfolding made is_of_node
nodes-alone callee d (of_node kind label flags role) hs e = absurd (false≢true (sym e))
nodes-alone callee choice (of_declarator k a) hs e = simp and-false
nodes-alone callee (step b) (of_declarator k a) hs e = simp and-false
nodes-alone callee choice of_other hs e = simp and-false
nodes-alone callee (step b) of_other hs e = simp and-false

-- The first run brings a literal into the assignment: it changes nothing.
kept-first : (callee : ℕ) (free : Meaning ℕ Bench) → FoldKeeps names (bench free) start (first callee)
unfolding runs state_of value_of
kept-first callee free s s' x before through-it =
    let same : s ≡ s' = ap state_of through-it in
    ((λ p q r y y' u u' e e'. ap value_of (sym e) ∙ ap (λ z. value_of (run names (bench free) property target z)) same ∙ ap value_of e'), (((λ p. absurd (false≢true p)), ((tt, tt), tt)), (((λ p. absurd (false≢true p)), ((tt, tt), ((tt, tt), tt))), tt)))

-- The second brings the call of `f`: `o.x` holds 40 before and after it.
kept_second : (free : Meaning ℕ Bench) → FoldKeeps names (bench free) start (second 1)
unfolding runs state_of value_of run_declarators run_statement run_statements begin
kept_second free s s' x before through-it =
    let here : begin start ≡ s = ap state_of before in
    let there : ◌≡◌ {A = ℕ} 40 s'.store.rest.0 = ap (λ o. (state_of o).store.rest.0) (subst (λ u. run names (bench free) (call 1) value u ≡ gave x s') (sym here) through-it) in
    let same : s.store.rest.0 ≡ s'.store.rest.0 = ap (λ u. u.store.rest.0) (sym here) ∙ there in
    ((λ p q r y y' u u' e e'. ap value_of (sym e) ∙ same ∙ ap value_of e'), (((λ p. absurd (false≢true p)), ((tt, tt), tt)), (((λ p. absurd (false≢true p)), ((tt, tt), ((tt, tt), tt))), tt)))

-- So the facts are true of the file that calls `f`, for every run; of the file that calls `g`, for the first.
pub met : (free : Meaning ℕ Bench) → Facts (script 1) (folds_of 3 (script 1)) (bench free) start
met free =
    subst (λ folds. Facts (script 1) folds (bench free) start) (sym folds-made.0)
    (true_of free names (statements 1) no_eval_1 (λ d x k e. absurd (false≢true (sym (nodes-alone 1 d x.origin x.hand e) ∙ k))) (first 1 ∷ second 1 ∷ []) (kept-first 1 free, (kept_second free, tt)))

first-met : (free : Meaning ℕ Bench) → Facts (script 2) (folds_of 1 (script 2)) (bench free) start
first-met free =
    subst (λ folds. Facts (script 2) folds (bench free) start) (sym first-folds)
    (true_of free names (statements 2) no_eval_2 (λ d x k e. absurd (false≢true (sym (nodes-alone 2 d x.origin x.hand e) ∙ k))) (first 2 ∷ []) (kept-first 2 free, tt))
  where
    first-folds : folds_of 1 (script 2) ≡ first 2 ∷ []
    first-folds = unfold computed folds_of in refl

-- what the target gave to the assignment, which is the second step
unfoldable target_gave : List (Step ℕ) → ℕ
unfolding first_or
target_gave [] = 0
target_gave (x ∷ []) = 0
target_gave (x ∷ y ∷ rest) = (first_or 0 y.hand).value

-- There it gave 90 before, and gives 40 in the last result.
not_same : (free : Meaning ℕ Bench) → (run_file (bench free) (script 2) start).steps ≡ (run_file (bench free) (result 2) start).steps → ⊥
unfolding ran_of target_gave
not_same free e = let z : ◌≡◌ {A = ℕ} 90 40 = ap target_gave e in omega arith

-- So a clause on the first run's folds alone would be too weak.
pub first_run_too_few : (free : Meaning ℕ Bench) → Facts (script 2) (folds_of 1 (script 2)) (bench free) start × ((run_file (bench free) (script 2) start).steps ≡ (run_file (bench free) (result 2) start).steps → ⊥)
first_run_too_few free = (first-met free, not_same free)
