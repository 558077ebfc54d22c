use mathlib.Core.Path.{sym, refl}
use Prim.Native.Nat.{◌+◌, ◌*◌, ◌-◌}
use native.Mathlib.Omega.{arith}
use lib.ListN.{take}
use Rattle.walk_splice.proofs.Copying.{part_read, part_read-length}
use Rattle.walk_splice.proofs.Rotation.{end_moved}
use Rattle.walk_splice.proofs.rotate.end_to_front.Goals as goal

pub slice_bounds-put_block-end : goal.slice_bounds-put_block-end
slice_bounds-put_block-end c = sym (part_read-length (16 * c.args.second.0) (16 * c.args.end.0) c.args.nodes.now _ (omega arith) (omega arith) c.copy.ensures.output)

pub put_block-requires : goal.put_block-requires
put_block-requires c = record { room = omega (arith, part_read-length (16 * c.args.second.0) (16 * c.args.end.0) c.args.nodes.now _ (omega arith) (omega arith) c.copy.ensures.output) }

pub returns : goal.returns
returns c =
    let a = c.args in
    let from = 16 * a.second.0 in
    let to = 16 * a.end.0 in
    let read = part_read from to a.nodes.now _ (omega arith) (omega arith) c.copy.ensures.output in
    record { blocks = end_moved a.nodes.now c.move_up.new.nodes c.put_block.new.nodes (take (to - from) c.copy.new.to) (16 * a.first.0) from to (16 * (a.first.0 + (a.end.0 - a.second.0))) (16 * (a.second.0 - a.first.0)) (to - from) (omega arith) refl (omega arith) read c.move_up.ensures.copied c.put_block.ensures.written }
