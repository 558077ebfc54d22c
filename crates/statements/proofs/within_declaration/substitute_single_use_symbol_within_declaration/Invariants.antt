use Prim.Native.Nat.{◌-◌}
use mathlib.Core.Path.{◌≡◌}
use lib.ListN.{length}
use Rattle.records.specs.File.{read}
use Rattle.walk_rules.specs.Context.{context_of}
use Rattle.statements.specs.State.{SameSlices}
use Rattle.statements.proofs.Going.{SomeGoing}
use Rattle.statements.proofs.within_declaration.substitute_single_use_symbol_within_declaration.Given as goal

abbrev pub invariant-loop : goal.invariant-loop
invariant-loop l = record {
  slices : SameSlices l.initial.tables l.tables;
  folded : length l.folded ≡ length l.initial.folded;
  statements : l.tables.statements.now ≡ l.initial.tables.statements.now;
  going : SomeGoing (context_of (read l.file.bytes.now)) l.d.searched l.file.bytes.now l.file.header l.d.first l.initial.tables.nodes.now l.initial.tables.declarators.now l.initial.tables.starts.now l.initial.folded l.many l.initial.q l.tables.nodes.now l.tables.declarators.now l.tables.starts.now l.folded (l.many - l.counter) l.q;
}
