use Rattle.records.proofs.Names.{scopes-length}
use Rattle.walk_rules.specs.Unsettled.{read_crosses_function_boundary}
use Rattle.walk_reorder.proofs.unsettled.read_crosses_function_boundary.Goals as goal

pub loop-steps-init : goal.loop-steps-init
unfolding read_crosses_function_boundary
loop-steps-init c = rw (scopes-length c.args.file.now.bytes.now c.args.file.now.header c.args.file.now.whole.0)
