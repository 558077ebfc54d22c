use mathlib.Core.Path.{refl, ap}
use Rattle.records.specs.File.{read}
use Rattle.walk_rules.specs.Context.{context_of}
use Rattle.walk_arms.specs.Answers.{is_passed}
use Rattle.walk.proofs.OfNode.{of_answered, of_passed}
use Rattle.walk.proofs.expression.of_children.Goals as goal

pub returns-then-may_pass : goal.returns-then-may_pass
returns-then-may_pass c = record { result = of_passed (context_of (read c.args.file.now.bytes.now)) c.args.nodes.now c.args.at.0 c.args.n c.args.begun c.args.replacement c.args.children _ _ c.has_effect-own.result c.may_pass.result c.own_looks.result c.in-Passed.is c.has_effect-own.ensures.result c.own_looks.ensures.result.0 c.may_pass.ensures.result (rw c.if-may_pass.true c.passed.ensures.result) }

pub returns-else-may_pass : goal.returns-else-may_pass
returns-else-may_pass c = record { result = of_passed (context_of (read c.args.file.now.bytes.now)) c.args.nodes.now c.args.at.0 c.args.n c.args.begun c.args.replacement c.args.children _ _ c.has_effect-own.result c.may_pass.result c.own_looks.result c.in-Passed.is c.has_effect-own.ensures.result c.own_looks.ensures.result.0 c.may_pass.ensures.result (rw c.if-may_pass.false c.stopped.ensures.result) }

pub returns-in-Stopped : goal.returns-in-Stopped
returns-in-Stopped c = record { result = of_answered (context_of (read c.args.file.now.bytes.now)) c.args.nodes.now c.args.at.0 c.args.n c.args.begun c.args.replacement c.args.children _ c.cleared_flags.result c.own_looks.result _ c.cleared_flags.ensures.result c.set_flags.ensures.table c.own_looks.ensures.result.0 (ap is_passed c.in-Stopped.is) (rw c.in-Stopped.is c.stopped-in-Stopped.ensures.result) }

pub returns-in-Replaced : goal.returns-in-Replaced
returns-in-Replaced c = record { result = of_answered (context_of (read c.args.file.now.bytes.now)) c.args.nodes.now c.args.at.0 c.args.n c.args.begun c.args.replacement c.args.children _ c.cleared_flags-in-Replaced.result c.own_looks.result _ c.cleared_flags-in-Replaced.ensures.result c.set_flags-in-Replaced.ensures.table c.own_looks.ensures.result.0 (ap is_passed c.in-Replaced.is) (rw c.in-Replaced.is refl) }
