use Rattle.std.proofs.Common.{rules}
use native.Mathlib.Omega.{arith}
use Rattle.records_table.proofs.Laid.{stands-room}
use Rattle.walk_arms.proofs.Children.{first-stands}
use Rattle.walk_arms.proofs.Targets.{stops_depends, stops_missing}
use Rattle.walk_arms.proofs.arms.stops_at_target.Goals as goal

pub returns-then-many-eq0 : goal.returns-then-many-eq0
returns-then-many-eq0 c = record { result = stops_missing _ c.args.compound c.if-effect.false (search rules) c.if-compound.false c.if-many-eq0.true }

pub work_node-requires : goal.work_node-requires
work_node-requires c = record { node = stands-room (first-stands (omega arith) c.requires.target) }

pub may_depend_on_side_effect-requires : goal.may_depend_on_side_effect-requires
may_depend_on_side_effect-requires c = record {
  target = first-stands (omega arith) c.requires.target;
}

pub returns : goal.returns
returns c = record { result = stops_depends _ c.args.compound c.if-effect.false (search rules) c.if-compound.false (omega arith) c.may_depend_on_side_effect.ensures.result }
