use native.Mathlib.Omega.{arith}
use Rattle.records_refusal.proofs.Limits.{nodes-fit}
use Rattle.records_refusal.proofs.check.check_records.Goals as goal

pub check_over-requires-else-from-le-SMALL_STACK-clause-stack : goal.check_over-requires-else-from-le-SMALL_STACK-clause-stack
check_over-requires-else-from-le-SMALL_STACK-clause-stack c = omega (arith, nodes-fit c.args.headed.now.file.header c.args.headed.now.passes.limits)
