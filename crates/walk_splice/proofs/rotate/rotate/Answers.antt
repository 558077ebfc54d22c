use Prim.Native.Nat.{◌*◌}
use Rattle.walk_splice.proofs.Rotation.{exchanged}
use Rattle.walk_splice.proofs.rotate.rotate.Goals as goal

pub returns-else-end-second-le-FEW_RECORDS : goal.returns-else-end-second-le-FEW_RECORDS
returns-else-end-second-le-FEW_RECORDS c =
    let a = c.args in
    record { blocks = exchanged (16 * a.first.0) (16 * a.second.0) (16 * a.end.0) a.nodes.now _ c.rotate_left.ensures.after }
