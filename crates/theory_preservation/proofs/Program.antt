-- Declarators and statements that don't use a name run alike whatever its value, the name's own value apart.
use Prim.Native.Nat.{ℕ}
use mathlib.Core.Bool.{Bool, true, false, cond}
use mathlib.Core.List.{List, [], ◌∷◌}
use mathlib.Core.Path.{◌≡◌, refl, sym, ap, ◌∙◌, fun_ext}
use lib.Dec.{eqb}
use borrow.Author.Tests.{eqb-true, eq-eqb}
use Rattle.records.specs.Tree.{Tree}
use Rattle.records.specs.File.{DeclarationKind, Var, Let, Const, Using, AwaitUsing, Initializer, bare, given, Declarator, Statement, declaration, expression, other}
use Rattle.records.specs.declared.layout.NameFacts.{NameFacts}
use Rattle.records.proofs.Tests.{clash}
use Rattle.theory_runs.specs.Store.{Store, set}
use Rattle.theory_runs.specs.Hand.{Given, only}
use Rattle.theory_runs.specs.Step.{value, of_declarator, of_other, Step}
use Rattle.theory_runs.specs.Meaning.{Act}
use Rattle.theory_runs.specs.State.{Log, State, Out, gave, bind}
use Rattle.theory_runs.specs.Run.{listed, acted, stepped, run}
use Rattle.theory_runs.specs.Script.{is_pattern, sets, binds, declares_bare, declares_with, run_declarator, run_declarators, gives, run_statement, run_statements}
use Rattle.theory_runs.specs.Facts.{through_by, through, AgreeBut, ActsAlike, both-done, both-stop}
use Rattle.theory_preservation.proofs.Uses.{reads, targets}
use Rattle.theory_preservation.proofs.Setting.{Setting}
use Rattle.theory_preservation.proofs.Frame.{moved, shifted, gave-on, frame}
use Rattle.theory_preservation.proofs.Passing.{Put, put_unseen, drop, Framed, Forgets, framed_forgets, forget_bind}

-- what doesn't use v, and doesn't declare it
abbrev pub FreeTree : ℕ → Tree → Type 0
FreeTree v t = (reads v t ≡ 0) × (targets v t ≡ 0)

abbrev pub FreeInitializer : ℕ → Initializer → Type 0
FreeInitializer v bare = Unit {0}
FreeInitializer v (given t) = FreeTree v t

abbrev pub FreeDeclarators : ℕ → List Declarator → Type 0
FreeDeclarators v [] = Unit {0}
FreeDeclarators v (d ∷ ds) = (eqb d.name v ≡ false) × FreeInitializer v d.initializer × FreeDeclarators v ds

abbrev pub FreeStatement : ℕ → Statement → Type 0
FreeStatement v (declaration k ds) = FreeDeclarators v ds
FreeStatement v (expression t) = FreeTree v t
FreeStatement v other = Unit {0}

abbrev pub FreeStatements : ℕ → List Statement → Type 0
FreeStatements v [] = Unit {0}
FreeStatements v (s ∷ ss) = FreeStatement v s × FreeStatements v ss

module _ {Value Rest : Type 0} (σ : Setting Value Rest) where
  open σ use {file, m, v, nothing_hidden}

  abbrev S : Type 0
  S = State Value Rest

  abbrev O : Type 0 → Type 0
  O A = Out Value Rest A

  abbrev names : List NameFacts
  names = file.names

  abbrev Alike : {A : Type 0} → (S → O A) → Type 0
  Alike c = Forgets σ c

  -- one part and then another
  pub then-on : {A B : Type 0} (c : S → O A) (K : A → S → O B) → Alike c → ((x : A) → Alike (K x)) → Alike (λ s. bind (c s) K)
  then-on c K h k a s = forget_bind σ (c (moved (Put v a) s)) (c s) K k (h a s)

  -- two names are set in either order
  swap_at : (x y : Bool) (w u z : Value) → (x ≡ true → y ≡ true → w ≡ u) → cond x w (cond y u z) ≡ cond y u (cond x w z)
  swap_at true true w u z h = h refl refl
  swap_at true false w u z h = refl
  swap_at false true w u z h = refl
  swap_at false false w u z h = refl

  set_swap : (n : ℕ) (w a : Value) (s : Store Value Rest) → eqb n v ≡ false → set n w (set v a s) ≡ set v a (set n w s)
  unfolding set
  set_swap n w a s e = λ i. record { names = fun_ext (λ k. swap_at (eqb k n) (eqb k v) w a (s.names k) (λ p q. apart k p q)) i; rest = s.rest }
    where
      apart : (k : ℕ) → eqb k n ≡ true → eqb k v ≡ true → w ≡ a
      apart k p q = clash (eqb n v) e (eq-eqb n v (sym (eqb-true k n p) ∙ eqb-true k v q))

  sets-by : (b : Bool) (n : ℕ) (w a : Value) (s : S) → eqb n v ≡ false → ◌≡◌ {A = O (Unit {0})} (gave tt (cond b (moved (Put v a) s) (record { store = set n w (moved (Put v a) s).store; log = (moved (Put v a) s).log }))) (shifted (Put v a) (gave tt (cond b s (record { store = set n w s.store; log = s.log }))))
  unfolding moved shifted Put
  sets-by true n w a s e = refl
  sets-by false n w a s e = ap (λ u. gave tt (record { store = u; log = s.log })) (set_swap n w a s.store e)

  sets_framed : (n : ℕ) (w : Value) → eqb n v ≡ false → Framed σ (sets n w)
  unfolding sets
  sets_framed n w e a s = sets-by (is_pattern n) n w a s e

  sets-on : (n : ℕ) (w : Value) → eqb n v ≡ false → Alike (sets n w)
  sets-on n w e = framed_forgets σ (sets n w) (sets_framed n w e)

  gave_forgets : {A : Type 0} (x : A) → Alike (gave x)
  gave_forgets x = framed_forgets σ (gave x) (λ a s. gave-on (Put v a) s)

  -- A step of a declarator or a kind 6 statement doesn't read v. It may set it.
  set_same : (s s' : Store Value Rest) (a : Value) → AgreeBut v s s' → set v a s ≡ set v a s'
  unfolding set
  set_same s s' a h = λ i. record { names = fun_ext (λ n. at n (eqb n v) refl) i; rest = h.rest i }
    where
      at : (n : ℕ) (b : Bool) → eqb n v ≡ b → cond (eqb n v) a (s.names n) ≡ cond (eqb n v) a (s'.names n)
      at n true e = rw e
      at n false e = rw (e, h.names n e)

  acted-alike : (l : Log Value) {x y : Act Value Rest} → ActsAlike v x y → drop σ (acted l x) ≡ drop σ (acted l y)
  unfolding acted drop shifted moved Put
  acted-alike l (both-done {w = w} {s = s} {s' = s'} h) = ap (λ u. gave w (record { store = u; log = l })) (set_same s s' m.undefined h)
  acted-alike l both-stop = refl

  step-on : (x : Step Value) → through v x ≡ false → Alike (stepped m true x)
  unfolding stepped moved Put
  step-on x e a s = acted-alike (listed x s.log) (nothing_hidden.binds x e s.store a)

  binds-on : (k : DeclarationKind) (n : ℕ) (hs : List (Given Value)) → eqb n v ≡ false → Alike (binds m k n hs)
  unfolding binds through_by
  binds-on k n hs e = then-on (stepped m true (record { origin = of_declarator k n; hand = hs })) (λ w s'. gave tt s') (step-on (record { origin = of_declarator k n; hand = hs }) e) (λ w. gave_forgets tt)

  bare-on : (k : DeclarationKind) (n : ℕ) → eqb n v ≡ false → Alike (declares_bare m k n)
  unfolding declares_bare
  bare-on Var n e = gave_forgets tt
  bare-on Let n e = sets-on n m.undefined e
  bare-on Const n e = gave_forgets tt
  bare-on Using n e = binds-on Using n [] e
  bare-on AwaitUsing n e = binds-on AwaitUsing n [] e

  either-on : (b : Bool) (c d : S → O (Unit {0})) → Alike c → Alike d → Alike (λ s. cond b (c s) (d s))
  either-on true c d h g = h
  either-on false c d h g = g

  pub with_on : (k : DeclarationKind) (n : ℕ) (w : Value) → eqb n v ≡ false → Alike (declares_with m k n w)
  unfolding declares_with
  with_on Var n w e = either-on (is_pattern n) (binds m Var n (only w ∷ [])) (sets n w) (binds-on Var n _ e) (sets-on n w e)
  with_on Let n w e = either-on (is_pattern n) (binds m Let n (only w ∷ [])) (sets n w) (binds-on Let n _ e) (sets-on n w e)
  with_on Const n w e = either-on (is_pattern n) (binds m Const n (only w ∷ [])) (sets n w) (binds-on Const n _ e) (sets-on n w e)
  with_on Using n w e = binds-on Using n (only w ∷ []) e
  with_on AwaitUsing n w e = binds-on AwaitUsing n (only w ∷ []) e

  tree-on : (t : Tree) → FreeTree v t → Alike (run names m t value)
  tree-on t (h, g) = framed_forgets σ (run names m t value) (λ a s. frame names m v (Put v a) (put_unseen nothing_hidden a) t h g value s)

  pub declarator-on : (k : DeclarationKind) (n : ℕ) (i : Initializer) → eqb n v ≡ false → FreeInitializer v i → Alike (run_declarator names m k n i)
  unfolding run_declarator
  declarator-on k n bare e h = bare-on k n e
  declarator-on k n (given t) e h = then-on (run names m t value) (λ x s'. declares_with m k n x.value s') (tree-on t h) (λ x. with_on k n x.value e)

  -- declarators that neither use nor declare v run alike
  pub declarators-on : (k : DeclarationKind) (ds : List Declarator) → FreeDeclarators v ds → Alike (run_declarators names m k ds)
  unfolding run_declarators
  declarators-on k [] h = gave_forgets tt
  declarators-on k (d ∷ ds) (e, i, h) = then-on (run_declarator names m k d.name d.initializer) (λ u s'. run_declarators names m k ds s') (declarator-on k d.name d.initializer e i) (λ u. declarators-on k ds h)

  gives_framed : (w : Value) → Framed σ (gives w)
  unfolding gives moved shifted Put
  gives_framed w a s = refl

  pub gives-on : (w : Value) → Alike (gives w)
  gives-on w = framed_forgets σ (gives w) (gives_framed w)

  other_step : through {Value = Value} v (record { origin = of_other; hand = [] }) ≡ false
  unfolding through_by
  other_step = refl

  pub statement-on : (t : Statement) → FreeStatement v t → Alike (run_statement names m t)
  unfolding run_statement
  statement-on (declaration k ds) h = declarators-on k ds h
  statement-on (expression t) h = then-on (run names m t value) (λ x s'. gives x.value s') (tree-on t h) (λ x. gives-on x.value)
  statement-on other h = then-on (stepped m true (record { origin = of_other; hand = [] })) gives (step-on (record { origin = of_other; hand = [] }) other_step) gives-on

  -- so do statements
  pub statements-on : (ss : List Statement) → FreeStatements v ss → Alike (run_statements names m ss)
  unfolding run_statements
  statements-on [] h = gave_forgets tt
  statements-on (t ∷ ts) (g, h) = then-on (run_statement names m t) (λ u s'. run_statements names m ts s') (statement-on t g) (λ u. statements-on ts h)
