use mathlib.Core.Path.{refl, ◌∙◌}
use Prim.Native.Nat.{◌+◌, ◌*◌, ◌-◌}
use native.Mathlib.Omega.{arith}
use Rattle.walk_splice.proofs.Copying.{copied_none, copied_up, recounted}
use Rattle.walk_splice.proofs.shift.move_up.Goals as goal

pub loop-i-init : goal.loop-i-init
loop-i-init c =
    let a = c.args in
    (omega arith, refl, copied_none a.nodes.now (16 * (a.to.0 + a.many)) (16 * (a.from.0 + a.many)) (16 * (a.many - a.many)) (omega arith))

pub loop-i-preserved : goal.loop-i-preserved
loop-i-preserved c =
    let a = c.args in
    let i = c.loop-i.i - 1 in (
      omega arith,
      c.copy_record.auto.nodes ∙ c.loop-i.invariant.1,
      copied_up a.nodes.now c.loop-i.nodes (16 * (a.to.0 + i)) (16 * (a.from.0 + i)) (16 * (a.many - c.loop-i.i)) 16 (16 * (a.to.0 + c.loop-i.i)) (16 * (a.from.0 + c.loop-i.i)) (16 * (a.many - i)) (omega arith) (omega arith) (omega arith) (omega arith) (omega arith) c.loop-i.invariant.2 c.copy_record.ensures.copied,
    )

pub returns : goal.returns
returns c =
    let a = c.args in
    record { copied = recounted a.nodes.now c.loop-i.nodes (16 * (a.to.0 + c.loop-i.i)) (16 * (a.from.0 + c.loop-i.i)) (16 * (a.many - c.loop-i.i)) (16 * a.to.0) (16 * a.from.0) (16 * a.many) (omega arith) (omega arith) (omega arith) c.loop-i.invariant.2 }
