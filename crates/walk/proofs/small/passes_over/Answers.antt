use mathlib.Core.Bool.{false}
use mathlib.Core.Path.{sym, ◌∙◌, subst}
use Rattle.records.specs.File.{read}
use Rattle.walk_rules.specs.Context.{context_of}
use Rattle.walk_arms.specs.Arms.{MayPass}
use Rattle.walk.proofs.SmallTrees.{passes_over}
use Rattle.walk.proofs.small.passes_over.Goals as goal

pub returns : goal.returns
returns c = record { result = λ h. passes_over (context_of (read c.args.file.now.bytes.now)) c.args.replacement c.args.n (sym c.is_specific_id.ensures.result ∙ c.if-is_specific_id.false) c.shape_of-shape.result c.shape_of-shape.ensures.result (sym c.is_assignment.ensures.result ∙ c.if-is_assignment.false) c.args.own c.requires.own c.args.leaf c.requires.leaf c.plan_of.result c.plan_of.ensures.result (sym c.is_nothing.ensures.result ∙ c.if-is_nothing.false) c.args.acts c.requires.effect (subst (λ b. MayPass (context_of (read c.args.file.now.bytes.now)) c.shape_of-shape.result c.args.n c.args.replacement c.args.own c.args.acts false b) h c.may_pass.ensures.result) }
