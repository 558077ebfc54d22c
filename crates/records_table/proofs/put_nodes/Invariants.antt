use Rattle.records_table.proofs.NodePart.{Laid}
use Rattle.records_table.proofs.put_nodes.Given as goal

abbrev pub invariant-loop-i : goal.invariant-loop-i
invariant-loop-i l = Laid l.table l.count l.initial.out l.out l.i
