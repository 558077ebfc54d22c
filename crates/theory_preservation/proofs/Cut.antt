-- A meaning cut down to the steps that a file can make: any other gives undefined and changes nothing. What the facts of the
-- file say of the meaning is so of every step of this one.
use Prim.Native.Nat.{ℕ}
use mathlib.Core.Bool.{Bool, true, false, cond}
use mathlib.Core.List.{List}
use mathlib.Core.Path.{◌≡◌, refl, subst}
use Rattle.records.specs.File.{File}
use Rattle.statements_rules.specs.Trace.{Fold}
use Rattle.theory_runs.specs.Store.{Store}
use Rattle.theory_runs.specs.Meaning.{Act, done, Meaning}
use Rattle.theory_runs.specs.Makes.{makes_read, makes_choice, makes_act}
use Rattle.theory_runs.specs.Facts.{AgreeBut, ActsAlike, both-done, Each, FoldKeeps, this_step, Facts}
use Rattle.theory_preservation.proofs.OfAll.{FactsOfAll}

unfoldable pub cut_to : {Value Rest : Type 0} → File → Meaning Value Rest → Meaning Value Rest
cut_to f m = record {
  undefined = m.undefined;
  constant = m.constant;
  reads = λ x s. cond (makes_read f x) (m.reads x s) m.undefined;
  chooses = λ x s. cond (makes_choice f x) (m.chooses x s) true;
  acts = λ x s. cond (makes_act f x) (m.acts x s) (done m.undefined s);
}

-- By whether a step is made.
same_by : {A : Type 0} (b : Bool) (x y z : A) → (b ≡ true → x ≡ y) → cond b x z ≡ cond b y z
same_by true x y z h = h refl
same_by false x y z h = refl

module _ {Value Rest : Type 0} where
  alike-by : (b : Bool) (a : ℕ) (u : Value) (s s' : Store Value Rest) (x y : Act Value Rest) → AgreeBut a s s' → (b ≡ true → ActsAlike a x y) → ActsAlike a (cond b x (done u s)) (cond b y (done u s'))
  alike-by true a u s s' x y g h = h refl
  alike-by false a u s s' x y g h = both-done g

  -- a step that isn't made leaves the store
  kept_by : (b : Bool) (u w : Value) (s s' : Store Value Rest) (x : Act Value Rest) (P : Store Value Rest → Type 0) → cond b x (done u s) ≡ done w s' → P s → (b ≡ true → x ≡ done w s' → P s') → P s'
  kept_by true u w s s' x P e p h = h refl e
  kept_by false u w s s' x P e p h = let q : s ≡ s' = cc in subst P q p

module _ {Value Rest : Type 0} (f : File) (trace : List Fold) (m : Meaning Value Rest) (start : Store Value Rest) (facts : Facts f trace m start) where
  pub cut-facts : Each (FoldKeeps f.names (cut_to f m) start) trace → FactsOfAll f trace (cut_to f m) start
  unfolding cut_to
  cut-facts keeps = record {
    reads_hidden = λ a h x e s s' g. same_by (makes_read f x) (m.reads x s) (m.reads x s') m.undefined (λ k. facts.reads_hidden a h x k e s s' g);
    chooses_hidden = λ a h x e s s' g. same_by (makes_choice f x) (m.chooses x s) (m.chooses x s') true (λ k. facts.chooses_hidden a h x k e s s' g);
    acts_hidden = λ a h x e s s' g. alike-by (makes_act f x) a m.undefined s s' (m.acts x s) (m.acts x s') g (λ k. facts.acts_hidden a h x k e s s' g);
    writes_hidden = λ a h x n e s s' w g. kept_by (makes_act f x) m.undefined w s s' (m.acts x s) (λ (z : Store Value Rest). z.names a ≡ s.names a) g refl (λ k q. facts.writes_hidden a h x k n e s s' w q);
    settled-kept = λ a h x n e s s' w g. kept_by (makes_act f x) m.undefined w s s' (m.acts x s) (λ (z : Store Value Rest). z.names a ≡ s.names a) g refl (λ k q. facts.settled-kept a h x k n e s s' w q);
    this-kept = λ h x n s s' w g label flags.
        same_by (makes_read f (this_step {Value = Value} label flags)) (m.reads (this_step label flags) s') (m.reads (this_step label flags) s) m.undefined (λ i.
        kept_by (makes_act f x) m.undefined w s s' (m.acts x s) (λ (z : Store Value Rest). m.reads (this_step label flags) z ≡ m.reads (this_step label flags) s) g refl (λ k q. facts.this-kept h x k n s s' w q label flags i));
    targets-kept = keeps;
  }
