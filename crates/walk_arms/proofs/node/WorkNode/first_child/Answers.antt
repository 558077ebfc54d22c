use native.Mathlib.Omega.{arith}
use Rattle.records_table.proofs.Laid.{stands-room}
use Rattle.walk_arms.proofs.Children.{kids-stand, first-stands, first_missing, first_read}
use Rattle.walk_arms.proofs.node.WorkNode.first_child.Goals as goal

pub returns-then-self-eq0 : goal.returns-then-self-eq0
returns-then-self-eq0 c = record { result = first_missing c.args.self.now.read c.if-self-eq0.true c.no_child.ensures.result }

pub work_node-requires : goal.work_node-requires
work_node-requires c = record { node = stands-room (first-stands (omega arith) (kids-stand c.args.self.now.read c.requires.tree)) }

pub returns : goal.returns
returns c = record { result = first_read c.args.self.now.read (omega arith) c.work_node.ensures.result }
