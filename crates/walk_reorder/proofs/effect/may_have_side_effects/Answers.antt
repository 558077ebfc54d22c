use mathlib.Core.Bool.{false}
use mathlib.Core.Path.{sym, ◌∙◌}
use native.Mathlib.Omega.{arith}
use Rattle.records.specs.Tree.{none, more}
use Rattle.walk_reorder.proofs.Passing.{passing-more, passing-all, tree_fits, effect-seen, alone}
use Rattle.walk_reorder.proofs.effect.may_have_side_effects.Goals as goal

pub work_node-n-requires : goal.work_node-n-requires
work_node-n-requires c = record { node = omega (arith, tree_fits c.requires.tree c.loop-pending.invariant) }

pub returns-then-has_effect : goal.returns-then-has_effect
returns-then-has_effect c = record {
  result = λ pre t rest here.
      let l = c.loop-pending.invariant pre (more t none) rest here (alone t).0 in
      effect-seen l.1 l.2 c.loop-pending-test.true c.work_node-n.result c.work_node-n.ensures.result (sym c.if-has_effect.true ∙ c.has_effect.ensures.result) ∙ (alone t).1;
}

pub overflow_add-pending : goal.overflow_add-pending
overflow_add-pending c = omega (arith, tree_fits c.requires.tree c.loop-pending.invariant, c.from.ensures)

pub overflow_add-next : goal.overflow_add-next
overflow_add-next c = omega (arith, tree_fits c.requires.tree c.loop-pending.invariant)

pub loop-pending-smaller : goal.loop-pending-smaller
loop-pending-smaller c = omega (arith, tree_fits c.requires.tree c.loop-pending.invariant)

pub loop-pending-preserved : goal.loop-pending-preserved
loop-pending-preserved c =
    λ pre ts rest here due.
    let l = c.loop-pending.invariant pre ts rest here due in
    passing-more l.1 l.2 c.loop-pending-test.true c.work_node-n.result c.from.result false c.work_node-n.ensures.result c.from.ensures (sym c.if-has_effect.false ∙ c.has_effect.ensures.result)

pub returns : goal.returns
returns c = record {
  result = λ pre t rest here.
      let l = c.loop-pending.invariant pre (more t none) rest here (alone t).0 in
      (passing-all l.1 l.2 c.loop-pending-test.false).1 ∙ (alone t).1;
}
