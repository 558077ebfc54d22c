use native.Mathlib.Omega.{arith}
use Rattle.records_table.proofs.NodePart.{laid_none, laid_more}
use Rattle.records_table.proofs.put_nodes.Goals as goal

pub loop-i-init : goal.loop-i-init
loop-i-init c = laid_none

pub loop-i-preserved : goal.loop-i-preserved
loop-i-preserved c = laid_more c.loop-i.invariant (omega arith) (omega arith) c.put_record.ensures.output
