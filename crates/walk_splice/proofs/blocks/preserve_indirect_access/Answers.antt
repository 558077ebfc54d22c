use Prim.Native.Nat.{◌+◌, ◌*◌}
use native.Mathlib.Omega.{arith}
use Rattle.walk_splice.proofs.Moves.{kept_indirect}
use Rattle.walk_splice.proofs.blocks.preserve_indirect_access.Goals as goal

pub returns : goal.returns
returns c =
    let a = c.args in
    record { wrapped = kept_indirect (16 * a.tag.0) (16 * a.name.0) (16 * a.end.0) a.position (16 * (a.end.0 + 1)) (16 * (a.name.0 + 2)) (16 * (a.tag.0 + 1)) (omega arith) (omega arith) (omega arith) c.rotate.ensures.blocks c.rotate-2.ensures.blocks c.put_node.ensures.written c.put_node-2.ensures.written }
