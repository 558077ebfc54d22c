use mathlib.Core.Path.{refl}
use Prim.Native.Nat.{◌+◌, ◌*◌}
use Rattle.records.specs.Bytes.{u32_bytes}
use Rattle.records_table.proofs.Overwriting.{overwritten}
use Rattle.walk_splice.proofs.blocks.put_position.Goals as goal

pub returns : goal.returns
returns c =
    let a = c.args in
    record { written = overwritten (16 * a.at.0 + 8) 4 a.nodes.now (u32_bytes a.position) _ refl c.put_u32.ensures.output }
