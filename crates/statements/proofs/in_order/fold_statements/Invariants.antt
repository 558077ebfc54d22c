use mathlib.Core.Path.{◌≡◌}
use lib.ListN.{length}
use Rattle.statements.specs.State.{SameSlices}
use Rattle.statements.proofs.Sequence.{SomeOrdered}
use Rattle.statements.proofs.in_order.fold_statements.Given as goal

abbrev pub invariant-loop-i : goal.invariant-loop-i
invariant-loop-i l = record {
  slices : SameSlices l.initial.tables l.tables;
  folded : length l.folded ≡ length l.initial.folded;
  kept : length l.kept ≡ length l.initial.kept;
  ordered : SomeOrdered l.file.bytes.now l.file.header l.tables.nodes.now l.tables.declarators.now l.tables.starts.now l.tables.statements.now l.initial.folded l.folded l.kept l.p l.i l.file.header.statements;
}
