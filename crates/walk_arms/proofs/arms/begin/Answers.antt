use mathlib.Core.Path.{refl, sym, ◌∙◌}
use Rattle.walk_arms.proofs.Beginning.{begins-first}
use Rattle.walk_arms.proofs.arms.begin.Goals as goal

pub returns : goal.returns
returns c = record { result = begins-first _ c.args.node.now.read c.shape_of-shape.ensures.result (sym c.is_assignment.ensures.result ∙ c.if-is_assignment.false) c.first_child-first.result c.first_child-first.ensures.result c.plan_of.ensures.result c.keeps_indirect.ensures.result refl c.from.ensures refl refl }
