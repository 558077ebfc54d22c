-- The bytes of a node's record where it stands. Assumes nothing.
use mathlib.Core.Path.{◌≡◌, sym, ap, ◌∙◌}
use mathlib.Core.List.{List}
use Prim.Native.Nat.{ℕ, ◌+◌, ◌-◌, ◌≤◌}
use native.Mathlib.Omega.{arith}
use lib.ListN.{length, take, drop}
use lib.Seq.{take_at}
use Rattle.records.specs.Bytes.{Bytes}
use Rattle.records.specs.Record.{node_at, node_bytes}
use Rattle.records_laws.proofs.Formats.{node-reads, node_prints}
use Rattle.records_laws.proofs.Series.{print-one}

-- the bytes of the record that is read at a place are the twelve that stand there
pub node-again : (bs : List ℕ) → Bytes bs → (at : ℕ) → at + 12 ≤ length bs → take (at + 12 - at) (drop at bs) ≡ node_bytes (node_at bs at)
node-again bs small at h =
    let e : at + 12 - at ≡ 12 = omega arith in
    rw e (ap (take 12) (sym (print-one node-reads node_prints bs small at h))
    ∙ take_at (node_bytes (node_at bs at)) (drop (at + 12) bs) 12 (node-reads.measured (node_at bs at)))
