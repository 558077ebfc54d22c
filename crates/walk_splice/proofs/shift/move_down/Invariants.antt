use mathlib.Core.Path.{◌≡◌}
use Prim.Native.Nat.{◌*◌, ◌-◌, ◌≤◌}
use lib.ListN.{length}
use Rattle.walk_splice.specs.Copies.{Copies}
use Rattle.walk_splice.proofs.shift.move_down.Given as goal

abbrev pub invariant-loop-i : goal.invariant-loop-i
invariant-loop-i l = (l.i ≤ l.many) × (length l.nodes ≡ length l.initial.nodes) × Copies l.initial.nodes l.nodes (16 * l.to.0) (16 * l.from.0) (16 * l.i)

abbrev pub decreases-loop-i : goal.decreases-loop-i
decreases-loop-i l = l.many - l.i
