use mathlib.Core.Bool.{false}
use Prim.Native.Nat.{◌*◌, ◌-◌}
use lib.ListN.{length}
use Rattle.walk_reorder.proofs.Passing.{Passing}
use Rattle.walk_reorder.proofs.effect.may_have_side_effects.Given as goal

abbrev pub invariant-loop-pending : goal.invariant-loop-pending
invariant-loop-pending l = Passing l.nodes l.initial.next.0 1 l.next.0 l.pending false

abbrev pub decreases-loop-pending : goal.decreases-loop-pending
decreases-loop-pending l = length l.nodes - 16 * l.next.0
