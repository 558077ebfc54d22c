-- All that a fold is given: a name, its initializer, and what the file's facts and acceptance say of them.
use Prim.Native.Nat.{ℕ}
use mathlib.Core.Bool.{true, false, ◌&&◌, not}
use mathlib.Core.Path.{◌≡◌}
use lib.ListN.{length}
use lib.Dec.{eqb, ltb}
use borrow.Author.Tests.{not-true}
use Rattle.records.specs.Flags.{unresolved, is_eval}
use Rattle.records.specs.Script.{flags_of}
use Rattle.records.specs.Tree.{Tree}
use Rattle.records.specs.Place.{root, is_expression, placed, unchained}
use Rattle.records.specs.File.{File}
use Rattle.records.proofs.Tests.{both, neither}
use Rattle.walk_rules.specs.Context.{context_of, facts_of}
use Rattle.walk_rules.specs.Unsettled.{unsettled, symbol_value_may_change, is_closed_over_block_scoped_read}
use Rattle.theory_runs.specs.Store.{Store}
use Rattle.theory_runs.specs.Step.{Step}
use Rattle.theory_runs.specs.Meaning.{done, Meaning}
use Rattle.theory_runs.specs.Run.{resolved}
use Rattle.theory_runs.specs.Settled.{settled}
use Rattle.theory_runs.specs.Facts.{through, is_of_node, this_unblocked, this_step}
use Rattle.theory_preservation.proofs.Words.{NothingHidden}
use Rattle.theory_preservation.proofs.Uses.{reads, targets}

-- what `this` gives is kept by a step
abbrev pub ThisKept : {Value Rest : Type 0} → Meaning Value Rest → Type 0
ThisKept {Value = Value} {Rest = Rest} m =
    (x : Step Value) → is_of_node x.origin ≡ true → (s s' : Store Value Rest) (w : Value) → m.acts x s ≡ done w s'
    → (label flags : ℕ) → m.reads (this_step label flags) s' ≡ m.reads (this_step label flags) s

pub record Setting (Value Rest : Type 0) : Type 0 where
  pub file : File
  pub m : Meaning Value Rest
  -- the name v, of which no hidden part knows; it is resolved, and isn't `eval`
  pub v : ℕ
  pub nothing_hidden : NothingHidden m v
  pub there : resolved file.names v ≡ true
  pub plain : is_eval (flags_of file.names v) ≡ false
  -- its initializer r, which doesn't name v: an expression that cuts short no chain around it, and isn't `eval`
  pub r : Tree
  pub free : reads v r ≡ 0
  pub unaimed : targets v r ≡ 0
  pub well : placed r ≡ true
  pub chained : unchained r ≡ false
  pub expression : is_expression (root r).kind ≡ true
  pub no_eval : (eqb (root r).kind 4 && is_eval (flags_of file.names (root r).label)) ≡ false
  -- settled names keep their value, and are no targets of r; `this` where it is unblocked
  pub settled-kept : (a : ℕ) → settled file a ≡ true → (x : Step Value) → is_of_node x.origin ≡ true → through a x ≡ false → (s s' : Store Value Rest) (w : Value) → m.acts x s ≡ done w s' → s'.names a ≡ s.names a
  pub apart : (a : ℕ) → settled file a ≡ true → targets a r ≡ 0
  pub this-kept : this_unblocked file ≡ true → ThisKept m

-- a settled name is resolved
pub settled-resolved : (f : File) (a : ℕ) → settled f a ≡ true → resolved f.names a ≡ true
unfolding settled unsettled context_of facts_of flags_of
settled-resolved f a e =
    let g = not-true _ (both (ltb a (length f.names)) (not (unsettled (context_of f) a)) e).1 in
    let h = (neither (unresolved (facts_of (context_of f) a).flags) (symbol_value_may_change (context_of f) (facts_of (context_of f) a)) (neither _ (is_closed_over_block_scoped_read (context_of f) (facts_of (context_of f) a)) g).0).0 in
    rw h
