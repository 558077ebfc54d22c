use mathlib.Core.Path.{sym, refl}
use Prim.Native.Nat.{◌*◌, ◌-◌}
use native.Mathlib.Omega.{arith}
use lib.ListN.{take}
use Rattle.walk_splice.proofs.Copying.{part_read, part_read-length}
use Rattle.walk_splice.proofs.Rotation.{front_moved}
use Rattle.walk_splice.proofs.rotate.front_to_end.Goals as goal

pub slice_bounds-put_block-end : goal.slice_bounds-put_block-end
slice_bounds-put_block-end c = sym (part_read-length (16 * c.args.first.0) (16 * c.args.second.0) c.args.nodes.now _ (omega arith) (omega arith) c.copy.ensures.output)

pub put_block-requires : goal.put_block-requires
put_block-requires c = record { room = omega (arith, part_read-length (16 * c.args.first.0) (16 * c.args.second.0) c.args.nodes.now _ (omega arith) (omega arith) c.copy.ensures.output) }

pub returns : goal.returns
returns c =
    let a = c.args in
    let from = 16 * a.first.0 in
    let to = 16 * a.second.0 in
    let read = part_read from to a.nodes.now _ (omega arith) (omega arith) c.copy.ensures.output in
    record { blocks = front_moved a.nodes.now c.move_down.new.nodes c.put_block.new.nodes (take (to - from) c.copy.new.to) from to (16 * a.end.0) (16 * a.end.0 - (to - from)) (to - from) (16 * (a.end.0 - a.second.0)) refl (omega arith) (omega arith) read c.move_down.ensures.copied c.put_block.ensures.written }
