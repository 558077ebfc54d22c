use mathlib.Core.Path.{◌≡◌}
use Prim.Native.Nat.{ℕ, ◌+◌, ◌-◌, ◌*◌, ◌≤◌}
use lib.ListN.{length}
use Rattle.records_table.proofs.Loading.{Loading}
use Rattle.records_table.proofs.load.load_tree.Given as goal

abbrev pub invariant-loop-word : goal.invariant-loop-word
invariant-loop-word l =
    (length l.nodes ≡ length l.initial.nodes) × (4 * l.nodes_used ≤ l.end) × ((at : ℕ) → l.initial.next ≡ l.nodes_start + 12 * at → Loading l.file l.nodes_start at l.initial.nodes l.nodes_used l.nodes l.next l.word l.end)

abbrev pub decreases-loop-word : goal.decreases-loop-word
decreases-loop-word l = length l.file - l.next
