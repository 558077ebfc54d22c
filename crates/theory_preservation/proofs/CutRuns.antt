-- Trees and programs whose every step and choice the file can make run alike under the meaning and under the one that is cut
-- down to the file.
use Prim.Native.Nat.{ℕ}
use mathlib.Core.Bool.{Bool, true, false, cond, ◌&&◌, ◌||◌, beq}
use mathlib.Core.List.{List, [], ◌∷◌}
use mathlib.Core.Path.{◌≡◌, refl, ap, ap₂, ◌∙◌, subst}
use Rattle.records.specs.Tree.{Node, Tree, Trees, node, none, more}
use Rattle.records.specs.File.{DeclarationKind, Var, Let, Const, Using, AwaitUsing, Initializer, bare, given, Declarator, Statement, declaration, expression, other, File}
use Rattle.records.specs.declared.layout.NameFacts.{NameFacts}
use Rattle.statements_rules.specs.Trace.{Fold}
use Rattle.theory_runs.specs.Store.{Store}
use Rattle.theory_runs.specs.Hand.{Given, Hand, only}
use Rattle.theory_runs.specs.Step.{Role, value, target, Origin, of_declarator, of_other, Step}
use Rattle.theory_runs.specs.Meaning.{Meaning}
use Rattle.theory_runs.specs.Form.{cleared, is_marked, Choice, never, logical, conditional, optionally, Form, constant, name, target_name, leaf, chain, property, importing, sequence, assignment, stepping, form, order, is_chain, is_plain, choice_of, first_role}
use Rattle.theory_runs.specs.State.{State, Out, gave, bind}
use Rattle.theory_runs.specs.Run.{Turn, all, takes, then, resolved, is_read, gathered, chosen, stepped, queued, held, after_first, own, beside, finished, run_node, run, run_children, run_others}
use Rattle.theory_runs.specs.Script.{is_pattern, sets, gives, binds, declares_bare, declares_with, run_declarator, run_declarators, run_statement, run_statements, begin}
use Rattle.theory_runs.specs.InHand.{sort_of, are_values, is_nothing, may_have}
use Rattle.theory_runs.specs.Makes.{Asked, choice, step, is_marked_step, is_made, makes_own, asks, some_turn, makes_in, makes_marked, makes_declarator, makes_statement, makes}
use Rattle.statements_rules.specs.Declarators.{is_using}
use Rattle.theory_runs.specs.Facts.{Each, TargetSame, TargetsSame, AllTargetsSame, FoldKeeps}
use Rattle.records.proofs.Tests.{clash}
use Rattle.theory_preservation.proofs.Tests.{or_left, or_right}
use Rattle.theory_preservation.proofs.Ends.{ends_same, step_of}
use Rattle.theory_preservation.proofs.Passing.{bind-same}
use Rattle.theory_preservation.proofs.Same.{in_turn_same, goes_same, hand_of}
use Rattle.theory_preservation.proofs.Cut.{cut_to}
use Rattle.theory_preservation.proofs.Hands.{choice-fits, gathered-fits, given-fits, hand-fits}
use Rattle.theory_preservation.proofs.Within.{same-origin, Within, WithinForest, WithinDeclarator, declarator-made, WithinDeclarators, WithinProgram, WithinFold, node-steps, node-children, row_first, row-others, initializer-within, first_part, other-parts}

same_self : (b : Bool) → beq b b ≡ true
same_self true = refl
same_self false = refl

-- a chain makes no step of its own
no_chain : (marked : Bool) (names : List NameFacts) (f : Form) (n : Node) (role : Role) → makes_own marked names f n role ≡ true → is_chain f ≡ false
unfolding makes_own is_chain order
no_chain marked names constant n role e = refl
no_chain marked names name n role e = refl
no_chain marked names target_name n role e = refl
no_chain marked names leaf n role e = refl
no_chain marked names chain n role e = clash false refl e
no_chain marked names property n role e = refl
no_chain marked names importing n role e = refl
no_chain marked names sequence n role e = refl
no_chain marked names (assignment true) n role e = refl
no_chain marked names (assignment false) n role e = refl
no_chain marked names (stepping c) n role e = refl

module _ {Value Rest : Type 0} (f : File) (m : Meaning Value Rest) where
  abbrev names : List NameFacts
  names = f.names

  abbrev m' : Meaning Value Rest
  m' = cut_to f m

  abbrev S : Type 0
  S = State Value Rest

  abbrev Others : Type 0
  Others = Turn → S → Out Value Rest (Hand Value)

  -- a step that the file makes, marked or not
  stepped-cut : (b : Bool) (x : Step Value) (s : S) → makes (step b) f x ≡ true → stepped m b x s ≡ stepped m' b x s
  unfolding stepped cut_to
  stepped-cut true x s e = rw e
  stepped-cut false x s e = rw e

  queued-cut : (x : Step Value) (s : S) → makes (step false) f x ≡ true → queued m x s ≡ queued m' x s
  unfolding queued cut_to
  queued-cut x s e = rw e

  held_cut : (b : Bool) (n : Node) (x : Step Value) (s : S) → (b ≡ false → makes (step (is_marked n)) f x ≡ true) → held m b n x s ≡ held m' b n x s
  unfolding held
  held_cut true n x s h = refl
  held_cut false n x s h = stepped-cut (is_marked n) x s (h refl)

  own-cut : (F : Form) (n : Node) (role : Role) (x : Step Value) (s : S) → ((b : Bool) → makes_own b names F n role ≡ true → makes (step b) f x ≡ true) → own names m F n role x s ≡ own names m' F n role x s
  unfolding own makes_own
  own-cut constant n role x s h = unfold cut_to in refl
  own-cut name n role x s h = held_cut (resolved names n.label) n x s (λ e. h (is_marked n) (rw (e, same_self (is_marked n))))
  own-cut target_name n role x s h = held_cut (resolved names n.label && is_read role) n x s (λ e. h (is_marked n) (rw (e, same_self (is_marked n))))
  own-cut leaf n role x s h = stepped-cut (is_marked n) x s (h (is_marked n) (same_self (is_marked n)))
  own-cut chain n role x s h = unfold cut_to in refl
  own-cut property n role x s h = unfold cut_to in refl
  own-cut importing n role x s h = queued-cut x s (h false refl)
  own-cut sequence n role x s h = unfold cut_to in refl
  own-cut (assignment c) n role x s h = stepped-cut true x s (h true refl)
  own-cut (stepping c) n role x s h = stepped-cut (is_marked n) x s (h (is_marked n) (same_self (is_marked n)))

  beside-cut : (F : Form) (n : Node) (hs : Hand Value) → beside names m.undefined F n hs ≡ beside names m'.undefined F n hs
  unfolding beside cut_to
  beside-cut F n hs = refl

  -- the own step of a node that has this in hand
  abbrev Made : Node → Role → Hand Value → Type 0
  Made n role hs = (b : Bool) → makes_own b names (form n) n role ≡ true → makes (step b) f (step_of n role hs) ≡ true

  finished-cut : (n : Node) (role : Role) (hs : Hand Value) (s : S) → Made n role hs → finished names m (form n) n role hs s ≡ finished names m' (form n) n role hs s
  unfolding finished
  finished-cut n role hs s h = ap₂ (λ o b. bind o (λ w s'. gave (record { value = w; beside = b }) s')) (own-cut (form n) n role (step_of n role hs) s h) (beside-cut (form n) n hs)

  chosen-cut : (c : Choice) (b b' : Bool) (others : Others) (s : S) → (is_made c ≡ true → b ≡ b') → chosen c b others s ≡ chosen c b' others s
  unfolding is_made chosen
  chosen-cut never b b' others s h = refl
  chosen-cut logical b b' others s h = rw (h refl)
  chosen-cut conditional b b' others s h = rw (h refl)
  chosen-cut optionally b b' others s h = rw (h refl)

  chooses-cut : (x : Step Value) (s : S) → makes choice f x ≡ true → m.chooses x s.store ≡ m'.chooses x s.store
  unfolding cut_to
  chooses-cut x s e = rw e

  after_first-cut : (n : Node) (role : Role) (others : Others) (x : Given Value) (s : S) → (is_made (choice_of (form n)) ≡ true → makes choice f (step_of n role (hand_of (form n) n x ∷ [])) ≡ true) → after_first m (form n) n role others x s ≡ after_first m' (form n) n role others x s
  unfolding after_first
  after_first-cut n role others x s h =
      ap (λ o. bind o (λ hs s'. gave (hand_of (form n) n x ∷ hs) s'))
      (chosen-cut (choice_of (form n)) _ _ others s (λ e. chooses-cut (step_of n role (hand_of (form n) n x ∷ [])) s (h e)))

  -- what a node is asked, with this in hand
  abbrev Steps : Node → Role → Trees → Type 0
  Steps n role ts = (d : Asked) (hs : Hand Value) → asks d names (form n) n role ≡ true → some_turn d (choice_of (form n)) (λ w. may_have names n w ts hs) ≡ true → makes d f (step_of n role hs) ≡ true

  mutual
    unfolding run run_node asks

    -- the run of a tree
    run-cut : (t : Tree) (role : Role) → Within Value f role t → (s : S) → run names m t role s ≡ run names m' t role s
    run-cut (node n ts) role h s =
        ap (λ o. bind (gathered (form (cleared n)) o s) (finished names m (form (cleared n)) (cleared n) role)) (children-cut ts (cleared n) role (node-steps Value f n ts role h) (node-children Value f n ts role h) s)
        ∙ ends_same (gathered-fits Value names m' (cleared n) ts _ s (hand-fits Value names m' ts (cleared n) role s)) (λ hs s' e.
        finished-cut (cleared n) role hs s' (λ b g. node-steps Value f n ts role h (step b) hs g (e.1 (no_chain b names (form (cleared n)) (cleared n) role g) b)))

    children-cut : (ts : Trees) (n : Node) (role : Role) → Steps n role ts → WithinForest Value f (first_role (form n) n role) ts → (s : S) → run_children names m ts (form n) n role s ≡ run_children names m' ts (form n) n role s
    children-cut none n role h g s = refl
    children-cut (more t ts) n role h g s =
        ap (λ o. bind o (after_first m (form n) n role (λ w s'. run_others names m ts w s'))) (run-cut t (first_role (form n) n role) (row_first Value f t ts (first_role (form n) n role) g) s)
        ∙ ends_same (given-fits Value names m' t (first_role (form n) n role) s) (λ x s' e.
        after_first-cut n role (λ w s''. run_others names m ts w s'') x s' (λ k. h choice (hand_of (form n) n x ∷ []) k (choice-fits Value names m' n t ts x e))
        ∙ goes_same m' (form n) n role (λ w s''. run_others names m' ts w s'') (λ w s''. run_others names m ts w s'') (λ w s''. others-cut ts (row-others Value f t ts (first_role (form n) n role) g) w s'') x s')

    others-cut : (ts : Trees) → WithinForest Value f value ts → (w : Turn) (s : S) → run_others names m ts w s ≡ run_others names m' ts w s
    others-cut none g w s = refl
    others-cut (more t ts) g w s = ap₂ (cond (takes w)) (in_turn_same _ _ _ _ (λ s'. run-cut t value (row_first Value f t ts value g) s') (λ s'. others-cut ts (row-others Value f t ts value g) (then w) s') s) (others-cut ts (row-others Value f t ts value g) (then w) s)

  -- the marked step of a declarator or of a kind 6 statement
  marked-here : (o : Origin) (ts : Trees) (hs : Hand Value) → are_values all ts hs ≡ true → makes_marked names (step true) (record { origin = o; hand = hs }) o ts ≡ true
  unfolding makes_marked is_marked_step
  marked-here o ts hs e = rw (e, same-origin o)

  no_values : are_values {Value = Value} all none [] ≡ true
  unfolding are_values
  no_values = refl

  one_value : (t : Tree) (w : Value) → are_values all (more t none) (only w ∷ []) ≡ true
  unfolding are_values takes then is_nothing sort_of
  one_value t w = refl

  abbrev bound : DeclarationKind → ℕ → Hand Value → Step Value
  bound k a hs = record { origin = of_declarator k a; hand = hs }

  binds-cut : (k : DeclarationKind) (a : ℕ) (hs : Hand Value) (s : S) → makes (step true) f (bound k a hs) ≡ true → binds m k a hs s ≡ binds m' k a hs s
  unfolding binds
  binds-cut k a hs s e = ap (λ o. bind o (λ w s'. gave tt s')) (stepped-cut true (bound k a hs) s e)

  bare-made : (k : DeclarationKind) (a : ℕ) → is_using k ≡ true → WithinDeclarator Value f k a bare → makes (step true) f (bound k a []) ≡ true
  unfolding makes_declarator
  bare-made k a e h = h (step true) (bound k a []) (rw (e, marked-here (of_declarator k a) none [] no_values))

  bare-cut : (k : DeclarationKind) (a : ℕ) (s : S) → WithinDeclarator Value f k a bare → declares_bare m k a s ≡ declares_bare m' k a s
  unfolding declares_bare is_using
  bare-cut Var a s h = refl
  bare-cut Let a s h = unfold cut_to in refl
  bare-cut Const a s h = refl
  bare-cut Using a s h = binds-cut Using a [] s (bare-made Using a refl h)
  bare-cut AwaitUsing a s h = binds-cut AwaitUsing a [] s (bare-made AwaitUsing a refl h)

  with_made : (k : DeclarationKind) (a : ℕ) (t : Tree) (w : Value) → (is_using k || is_pattern a) ≡ true → WithinDeclarator Value f k a (given t) → makes (step true) f (bound k a (only w ∷ [])) ≡ true
  unfolding makes_declarator
  with_made k a t w e h = h (step true) (bound k a (only w ∷ [])) (or_right (makes_in names (step true) (bound k a (only w ∷ [])) t value) _ (rw (e, marked-here (of_declarator k a) (more t none) (only w ∷ []) (one_value t w))))

  pattern_cut : (b : Bool) (k : DeclarationKind) (a : ℕ) (t : Tree) (w : Value) (s : S) → is_pattern a ≡ b → WithinDeclarator Value f k a (given t) → cond b (binds m k a (only w ∷ []) s) (sets a w s) ≡ cond b (binds m' k a (only w ∷ []) s) (sets a w s)
  pattern_cut true k a t w s e h = binds-cut k a (only w ∷ []) s (with_made k a t w (or_right (is_using k) (is_pattern a) e) h)
  pattern_cut false k a t w s e h = refl

  using_cut : (k : DeclarationKind) (a : ℕ) (t : Tree) (w : Value) (s : S) → is_using k ≡ true → WithinDeclarator Value f k a (given t) → binds m k a (only w ∷ []) s ≡ binds m' k a (only w ∷ []) s
  using_cut k a t w s e h = binds-cut k a (only w ∷ []) s (with_made k a t w (or_left (is_using k) (is_pattern a) e) h)

  with_cut : (k : DeclarationKind) (a : ℕ) (t : Tree) (w : Value) (s : S) → WithinDeclarator Value f k a (given t) → declares_with m k a w s ≡ declares_with m' k a w s
  unfolding declares_with is_using
  with_cut Var a t w s h = pattern_cut (is_pattern a) Var a t w s refl h
  with_cut Let a t w s h = pattern_cut (is_pattern a) Let a t w s refl h
  with_cut Const a t w s h = pattern_cut (is_pattern a) Const a t w s refl h
  with_cut Using a t w s h = using_cut Using a t w s refl h
  with_cut AwaitUsing a t w s h = using_cut AwaitUsing a t w s refl h

  declarator-cut : (k : DeclarationKind) (a : ℕ) (i : Initializer) (s : S) → WithinDeclarator Value f k a i → run_declarator names m k a i s ≡ run_declarator names m' k a i s
  unfolding run_declarator
  declarator-cut k a bare s h = bare-cut k a s h
  declarator-cut k a (given t) s h =
      ap (λ o. bind o (λ x s'. declares_with m k a x.value s')) (run-cut t value (initializer-within Value f k a t h) s)
      ∙ bind-same (run names m' t value s) _ _ (λ x s'. with_cut k a t x.value s' h)

  declarators-cut : (k : DeclarationKind) (ds : List Declarator) (s : S) → WithinDeclarators Value f k ds → run_declarators names m k ds s ≡ run_declarators names m' k ds s
  unfolding run_declarators
  declarators-cut k [] s h = refl
  declarators-cut k (d ∷ ds) s h =
      ap (λ o. bind o (λ u s'. run_declarators names m k ds s')) (declarator-cut k d.name d.initializer s (first_part Value f (declarator-made Value f k) d ds h))
      ∙ bind-same (run_declarator names m' k d.name d.initializer s) _ _ (λ u s'. declarators-cut k ds s' (other-parts Value f (declarator-made Value f k) d ds h))

  -- statements
  statement-cut : (t : Statement) (s : S) → ((d : Asked) (x : Step Value) → makes_statement names d x t ≡ true → makes d f x ≡ true) → run_statement names m t s ≡ run_statement names m' t s
  unfolding run_statement makes_statement
  statement-cut (declaration k ds) s h = declarators-cut k ds s h
  statement-cut (expression t) s h = ap (λ o. bind o (λ x s'. gives x.value s')) (run-cut t value h s)
  statement-cut other s h = ap (λ o. bind o (λ w s'. gives w s')) (stepped-cut true (record { origin = of_other; hand = [] }) s (h (step true) (record { origin = of_other; hand = [] }) (marked-here of_other none [] no_values)))

  pub statements-cut : (P : List Statement) (s : S) → WithinProgram Value f P → run_statements names m P s ≡ run_statements names m' P s
  unfolding run_statements
  statements-cut [] s h = refl
  statements-cut (t ∷ ts) s h =
      ap (λ o. bind o (λ u s'. run_statements names m ts s')) (statement-cut t s (first_part Value f (makes_statement names) t ts h))
      ∙ bind-same (run_statement names m' t s) _ _ (λ u s'. statements-cut ts s' (other-parts Value f (makes_statement names) t ts h))

  -- what is asked of the targets
  plain_role : (n : Node) (role : Role) → is_plain (form n) ≡ true → first_role (form n) n role ≡ target
  unfolding first_role
  plain_role n role e = rw e

  target-cut : (n : Node) (role : Role) (ts : Trees) (a : ℕ) (s s' : S) → WithinForest Value f (first_role (form n) n role) ts → TargetSame names m (form n) ts a s s' → TargetSame names m' (form n) ts a s s'
  target-cut n role none a s s' g h = tt
  target-cut n role (more t ts) a s s' g h = λ p q r x x' u u' e e'. h p q r x x' u u' (run-cut t target (aimed p) s ∙ e) (run-cut t target (aimed p) s' ∙ e')
    where
      aimed : is_plain (form n) ≡ true → Within Value f target t
      aimed p = subst (λ (ρ : Role). Within Value f ρ t) (plain_role n role p) (row_first Value f t ts (first_role (form n) n role) g)

  mutual
    targets-cut : (t : Tree) (role : Role) (a : ℕ) (s s' : S) → Within Value f role t → TargetsSame names m t a s s' → TargetsSame names m' t a s s'
    targets-cut (node n ts) role a s s' g (h, k) =
        (target-cut (cleared n) role ts a s s' (node-children Value f n ts role g) h, all-targets_cut ts (first_role (form (cleared n)) (cleared n) role) a s s' (node-children Value f n ts role g) k)

    all-targets_cut : (ts : Trees) (role : Role) (a : ℕ) (s s' : S) → WithinForest Value f role ts → AllTargetsSame names m ts a s s' → AllTargetsSame names m' ts a s s'
    all-targets_cut none role a s s' g h = tt
    all-targets_cut (more t ts) role a s s' g (h, k) = (targets-cut t role a s s' (row_first Value f t ts role g) h, all-targets_cut ts value a s s' (row-others Value f t ts role g) k)

  module _ (start : Store Value Rest) where
    keeps_cut : (φ : Fold) → WithinFold Value f φ → FoldKeeps names m start φ → FoldKeeps names m' start φ
    keeps_cut φ (a, b, c) h = λ s s' x e g. targets-cut φ.into value φ.name s s' c (h s s' x (statements-cut φ.before (begin start) a ∙ e) (run-cut φ.initializer value b s ∙ g))

    pub all_keeps_cut : (φs : List Fold) → Each (WithinFold Value f) φs → Each (FoldKeeps names m start) φs → Each (FoldKeeps names m' start) φs
    all_keeps_cut [] g h = tt
    all_keeps_cut (φ ∷ φs) (g, k) (h, l) = (keeps_cut φ g h, all_keeps_cut φs k l)
