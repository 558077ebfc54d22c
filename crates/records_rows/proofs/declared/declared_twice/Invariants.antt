use Rattle.records.specs.Record.{declarator_at}
use Rattle.records_rows.proofs.Declaring.{Declaring}
use Rattle.records_rows.proofs.declared.declared_twice.Given as goal

abbrev pub invariant-loop-i : goal.invariant-loop-i
invariant-loop-i l = Declaring (declarator_at l.file) 4 l.count l.from l.initial.seen l.seen l.twice l.i
