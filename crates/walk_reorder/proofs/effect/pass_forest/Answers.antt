use native.Mathlib.Omega.{arith}
use Rattle.walk_reorder.proofs.Passing.{passing-more, passing-all, forest_fits}
use Rattle.walk_reorder.proofs.effect.pass_forest.Goals as goal

pub work_node-n-requires : goal.work_node-n-requires
work_node-n-requires c = record { node = omega (arith, forest_fits c.requires.trees c.loop-pending.invariant) }

pub overflow_add-pending : goal.overflow_add-pending
overflow_add-pending c = omega (arith, forest_fits c.requires.trees c.loop-pending.invariant, c.from.ensures)

pub loop-pending-smaller : goal.loop-pending-smaller
loop-pending-smaller c = omega (arith, forest_fits c.requires.trees c.loop-pending.invariant)

pub loop-pending-preserved : goal.loop-pending-preserved
loop-pending-preserved c pre ts rest here due =
    let l = c.loop-pending.invariant pre ts rest here due in
    passing-more l.1 l.2 c.loop-pending-test.true c.work_node-n.result c.from.result
    c.has_effect-effect.result c.work_node-n.ensures.result c.from.ensures c.has_effect-effect.ensures.result

pub returns : goal.returns
returns c = record {
  result = λ pre ts rest here due.
      let l = c.loop-pending.invariant pre ts rest here due in passing-all l.1 l.2 c.loop-pending-test.false;
}
