use Prim.Native.Nat.{◌-◌}
use mathlib.Core.Path.{refl, ap, ◌∙◌}
use Rattle.walk_arms.proofs.Children.{kids-stand, one-is, head_stands}
use Rattle.walk_arms.proofs.Beginning.{begins-behind}
use Rattle.walk_arms.proofs.arms.begin_assignment.Goals as goal

pub pass_forest-target-requires : goal.pass_forest-target-requires
pass_forest-target-requires c = record { trees = rw (c.from-many.ensures, one-is) (head_stands c.args.node.now.root.children (kids-stand c.args.node.now.read c.requires.tree)) }

pub stops_at_target-stops-requires : goal.stops_at_target-stops-requires
stops_at_target-stops-requires c = record {
  target = rw (c.from-many.ensures, one-is) (head_stands c.args.node.now.root.children (kids-stand c.args.node.now.read c.requires.tree));
}

pub returns : goal.returns
returns c = record { result = begins-behind _ c.args.node.now.read c.requires.shape c.requires.assignment (c.from-many.ensures ∙ one-is _) c.pass_forest-target.ensures.result c.is_compound_assignment-compound.result c.is_compound_assignment-compound.ensures.result c.stops_at_target-stops.ensures.result c.plan_of_value.ensures.result (ap (λ x. x - c.from-many.result) c.from.ensures) refl }
