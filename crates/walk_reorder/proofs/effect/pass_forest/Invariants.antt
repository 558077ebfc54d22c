use Prim.Native.Nat.{◌*◌, ◌-◌}
use lib.ListN.{length}
use Rattle.walk_reorder.proofs.Passing.{Passing}
use Rattle.walk_reorder.proofs.effect.pass_forest.Given as goal

abbrev pub invariant-loop-pending : goal.invariant-loop-pending
invariant-loop-pending l = Passing l.nodes l.initial.next.0 l.many l.next.0 l.pending l.effect

abbrev pub decreases-loop-pending : goal.decreases-loop-pending
decreases-loop-pending l = length l.nodes - 16 * l.next.0
