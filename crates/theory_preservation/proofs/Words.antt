-- The facts of one name as equations: what isn't done through it doesn't read it, and no such step of a node writes it.
use Prim.Native.Nat.{ℕ}
use mathlib.Core.Bool.{Bool, true, false, cond}
use mathlib.Core.Path.{◌≡◌, refl, ap, ◌∙◌, fun_ext}
use lib.Dec.{eqb}
use borrow.Author.Tests.{eqb-true, eq-eqb}
use Rattle.records.specs.File.{File}
use Rattle.statements_rules.specs.Trace.{Fold}
use mathlib.Core.List.{List}
use Rattle.theory_runs.specs.Store.{Store, set}
use Rattle.theory_runs.specs.Step.{Step}
use Rattle.theory_runs.specs.Meaning.{Act, done, stops, Meaning}
use Rattle.theory_runs.specs.Facts.{reads_stand, writes_stand, through, is_of_node, AgreeBut, ActsAlike, both-done, both-stop}
use Rattle.theory_preservation.proofs.OfAll.{FactsOfAll}

-- what is done, with the store changed
unfoldable pub within : {Value Rest : Type 0} → (Store Value Rest → Store Value Rest) → Act Value Rest → Act Value Rest
within f (done w s) = done w (f s)
within f stops = stops

-- the value of a name makes no difference but through it, and no other step of a node writes it
pub record NothingHidden {Value Rest : Type 0} (m : Meaning Value Rest) (v : ℕ) : Type 0 where
  pub reads : (x : Step Value) → through v x ≡ false → (s : Store Value Rest) (a : Value) → m.reads x (set v a s) ≡ m.reads x s
  pub chooses : (x : Step Value) → through v x ≡ false → (s : Store Value Rest) (a : Value) → m.chooses x (set v a s) ≡ m.chooses x s
  pub acts : (x : Step Value) → is_of_node x.origin ≡ true → through v x ≡ false → (s : Store Value Rest) (a : Value) → m.acts x (set v a s) ≡ within (set v a) (m.acts x s)
  pub binds : (x : Step Value) → through v x ≡ false → (s : Store Value Rest) (a : Value) → ActsAlike v (m.acts x (set v a s)) (m.acts x s)

module _ {Value Rest : Type 0} (v : ℕ) (a : Value) where
  set_at : (b : Bool) (n : ℕ) (s s' : Store Value Rest) → eqb n v ≡ b → AgreeBut v s s' → s.names v ≡ a → s.names n ≡ cond b a (s'.names n)
  set_at true n s s' e d h = ap s.names (eqb-true n v e) ∙ h
  set_at false n s s' e d h = d.names n e

  set_is : (s s' : Store Value Rest) → AgreeBut v s s' → s.names v ≡ a → s ≡ set v a s'
  unfolding set
  set_is s s' d h = λ i. record { names = fun_ext (λ n. set_at (eqb n v) n s s' refl d h) i; rest = d.rest i }

  within-set : {x y : Act Value Rest} → ActsAlike v x y → ((s : Store Value Rest) (w : Value) → x ≡ done w s → s.names v ≡ a) → x ≡ within (set v a) y
  unfolding within
  within-set (both-done {w = w} {s = s} {s' = s'} d) h = ap (done w) (set_is s s' d (h s w refl))
  within-set both-stop h = refl

  set_agrees : (s : Store Value Rest) → AgreeBut v (set v a s) s
  unfolding set
  set_agrees s = record { names = λ n e. rw e; rest = refl }

  pub set_here : (s : Store Value Rest) → (set v a s).names v ≡ a
  unfolding set
  set_here s = rw (eq-eqb v v refl)

-- what the facts of a file say of such a name
pub nothing_hidden : {Value Rest : Type 0} {f : File} {trace : List Fold} {m : Meaning Value Rest} {start : Store Value Rest} (v : ℕ) → FactsOfAll f trace m start → reads_stand f v ≡ true → writes_stand f v ≡ true → NothingHidden m v
nothing_hidden {m = m} v facts r w = record {
  reads = λ x e s a. facts.reads_hidden v r x e (set v a s) s (set_agrees v a s);
  chooses = λ x e s a. facts.chooses_hidden v r x e (set v a s) s (set_agrees v a s);
  acts = λ x n e s a. within-set v a (facts.acts_hidden v r x e (set v a s) s (set_agrees v a s)) (λ s' u h. facts.writes_hidden v w x n e (set v a s) s' u h ∙ set_here v a s);
  binds = λ x e s a. facts.acts_hidden v r x e (set v a s) s (set_agrees v a s);
}
