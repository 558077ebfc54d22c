use Prim.Native.Nat.{◌*◌}
use Rattle.records_table.specs.Table.{work_bytes}
use Rattle.records_table.proofs.Laid.{work_length}
use Rattle.records_table.proofs.Overwriting.{overwritten}
use Rattle.walk_splice.proofs.blocks.put_node.Goals as goal

pub returns : goal.returns
returns c =
    let a = c.args in
    record { written = overwritten (16 * a.at.0) 16 a.nodes.now (work_bytes a.n) _ (work_length a.n) c.put_work_node.ensures.output }
