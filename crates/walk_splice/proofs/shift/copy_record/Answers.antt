use mathlib.Core.Path.{refl}
use Prim.Native.Nat.{◌+◌, ◌*◌}
use native.Mathlib.Omega.{arith}
use Rattle.walk_splice.proofs.Copying.{copied, part_read-whole}
use Rattle.walk_splice.proofs.shift.copy_record.Goals as goal

pub returns : goal.returns
returns c =
    let a = c.args in
    record {
      copied = copied (16 * a.to.0) (16 * a.from.0) 16 c.copy.new.to (omega arith) (omega arith)
          (part_read-whole (16 * a.from.0) (16 * a.from.0 + 16) a.nodes.now _ (omega arith) (omega arith) c.copy.ensures.output 16 refl (omega arith))
          c.put_block.ensures.written;
    }
