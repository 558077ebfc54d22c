-- The facts of a file, asked of every step. They are true of the meaning that is cut down to the file (Cut).
use Prim.Native.Nat.{ℕ}
use mathlib.Core.Bool.{true, false}
use mathlib.Core.List.{List}
use mathlib.Core.Path.{◌≡◌}
use Rattle.records.specs.File.{File}
use Rattle.statements_rules.specs.Trace.{Fold}
use Rattle.theory_runs.specs.Store.{Store}
use Rattle.theory_runs.specs.Step.{Step}
use Rattle.theory_runs.specs.Meaning.{done, Meaning}
use Rattle.theory_runs.specs.Settled.{settled}
use Rattle.theory_runs.specs.Facts.{reads_stand, writes_stand, this_unblocked, through, is_of_node, AgreeBut, ActsAlike, Each, FoldKeeps, this_step}

pub record FactsOfAll {Value Rest : Type 0} (f : File) (trace : List Fold) (m : Meaning Value Rest) (start : Store Value Rest) : Type 0 where
  pub reads_hidden : (a : ℕ) → reads_stand f a ≡ true → (x : Step Value) → through a x ≡ false
      → (s s' : Store Value Rest) → AgreeBut a s s' → m.reads x s ≡ m.reads x s'
  pub chooses_hidden : (a : ℕ) → reads_stand f a ≡ true → (x : Step Value) → through a x ≡ false
      → (s s' : Store Value Rest) → AgreeBut a s s' → m.chooses x s ≡ m.chooses x s'
  pub acts_hidden : (a : ℕ) → reads_stand f a ≡ true → (x : Step Value) → through a x ≡ false
      → (s s' : Store Value Rest) → AgreeBut a s s' → ActsAlike a (m.acts x s) (m.acts x s')
  pub writes_hidden : (a : ℕ) → writes_stand f a ≡ true → (x : Step Value) → is_of_node x.origin ≡ true → through a x ≡ false
      → (s s' : Store Value Rest) (w : Value) → m.acts x s ≡ done w s' → s'.names a ≡ s.names a
  pub settled-kept : (a : ℕ) → settled f a ≡ true → (x : Step Value) → is_of_node x.origin ≡ true → through a x ≡ false
      → (s s' : Store Value Rest) (w : Value) → m.acts x s ≡ done w s' → s'.names a ≡ s.names a
  pub this-kept : this_unblocked f ≡ true → (x : Step Value) → is_of_node x.origin ≡ true
      → (s s' : Store Value Rest) (w : Value) → m.acts x s ≡ done w s' → (label flags : ℕ)
      → m.reads (this_step label flags) s' ≡ m.reads (this_step label flags) s
  pub targets-kept : Each (FoldKeeps f.names m start) trace
