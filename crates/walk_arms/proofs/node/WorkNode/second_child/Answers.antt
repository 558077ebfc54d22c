use native.Mathlib.Omega.{arith}
use Rattle.walk_arms.proofs.Children.{kids-stand, first-stands, alone-stands, second_missing, second-read, second-room}
use Rattle.walk_arms.proofs.node.WorkNode.second_child.Goals as goal

pub returns-then-self-lt2 : goal.returns-then-self-lt2
returns-then-self-lt2 c = record { result = second_missing c.args.self.now.read c.if-self-lt2.true c.no_child.ensures.result }

pub pass_forest-first-requires : goal.pass_forest-first-requires
pass_forest-first-requires c = record { trees = alone-stands (first-stands (omega arith) (kids-stand c.args.self.now.read c.requires.tree)) }

pub work_node-requires : goal.work_node-requires
work_node-requires c = record { node = second-room (omega arith) c.pass_forest-first.ensures.result (kids-stand c.args.self.now.read c.requires.tree) }

pub returns : goal.returns
returns c = record { result = second-read c.args.self.now.read (omega arith) c.pass_forest-first.ensures.result c.work_node.ensures.result }
