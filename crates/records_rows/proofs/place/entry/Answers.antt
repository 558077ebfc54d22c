use native.Mathlib.Nat.{add-zero}
use Rattle.records_rows.specs.Stack.{entry}
use Rattle.records_rows.proofs.place.entry.Goals as goal

pub returns-then-unchained : goal.returns-then-unchained
unfolding entry
returns-then-unchained c = record { result = rw (c.if-unchained.true, c.from-twice.ensures) }

pub returns : goal.returns
unfolding entry
returns c = record { result = rw (c.if-unchained.false, c.from-twice.ensures, add-zero) }
