use mathlib.Core.Path.{refl, ◌∙◌}
use Prim.Native.Nat.{◌+◌, ◌*◌}
use native.Mathlib.Omega.{arith}
use Rattle.walk_splice.proofs.Copying.{copied_none, copied-down, recounted}
use Rattle.walk_splice.proofs.shift.move_down.Goals as goal

pub loop-i-init : goal.loop-i-init
loop-i-init c = (omega arith, refl, copied_none c.args.nodes.now (16 * c.args.to.0) (16 * c.args.from.0) 0 refl)

pub loop-i-preserved : goal.loop-i-preserved
loop-i-preserved c =
    let a = c.args in
    let i = c.loop-i.i in (
      omega arith,
      c.copy_record.auto.nodes ∙ c.loop-i.invariant.1,
      copied-down a.nodes.now c.loop-i.nodes (16 * a.to.0) (16 * a.from.0) (16 * i) 16 (16 * (a.to.0 + i)) (16 * (a.from.0 + i)) (16 * (i + 1)) (omega arith) (omega arith) (omega arith) (omega arith) (omega arith) c.loop-i.invariant.2 c.copy_record.ensures.copied,
    )

pub returns : goal.returns
returns c =
    let a = c.args in
    record { copied = recounted a.nodes.now c.loop-i.nodes (16 * a.to.0) (16 * a.from.0) (16 * c.loop-i.i) (16 * a.to.0) (16 * a.from.0) (16 * a.many) refl refl (omega arith) c.loop-i.invariant.2 }
