-- The uses of names in the trees behind the nodes that are left to take.
use Rattle.std.specs.Prelude.{ℕ, ◌+◌, ◌-◌, ◌*◌, ◌≤◌, List, get_or}
use Rattle.records.specs.Records.{records_from}
use Rattle.records.specs.Tree.{forest_of}
use Rattle.records.specs.Count.{reads_of, targets_of}
use Rattle.records.specs.declared.layout.NodeRecord.{NodeRecord}
use Rattle.records_rows.specs.Tally.{Tally}

-- i of n nodes are left; the arrays hold the uses of names in the trees of the others, and what they held before
pub record Counting (readAt : ℕ → NodeRecord) (len n from : ℕ) (reads₀ targets₀ reads targets : List ℕ) (i : ℕ) : Type 0 where
  pub within : i ≤ n
  pub read : Tally (λ k. reads_of k (forest_of (records_from readAt len (n - i) (from + len * i))) + get_or reads₀ k 0) reads
  pub target : Tally (λ k. targets_of k (forest_of (records_from readAt len (n - i) (from + len * i))) + get_or targets₀ k 0) targets
