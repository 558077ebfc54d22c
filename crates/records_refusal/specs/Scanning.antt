-- What the pass over the nodes, from the last to the first, knows of those that it has taken.
use Rattle.std.specs.Prelude.{ℕ, ◌+◌, ◌-◌, ◌*◌, ◌≤◌, ◌≡◌, Bool, true, ◌&&◌, List, get_or, drop}
use Rattle.records.specs.Limits.{header_length}
use Rattle.records.specs.Record.{node_at}
use Rattle.records.specs.Records.{records_from, every}
use Rattle.records.specs.File.{facts_from, nodes_from}
use Rattle.records.specs.Node.{good_node}
use Rattle.records.specs.Tree.{forest_of, closed}
use Rattle.records.specs.Place.{all_placed}
use Rattle.records.specs.Count.{reads_of, targets_of}
use Rattle.records.specs.declared.layout.NodeRecord.{NodeRecord}
use Rattle.records_rows.specs.Stack.{entries, Low}
use Rattle.records_rows.specs.Growing.{Growing}
use Rattle.records_rows.specs.Tally.{Tally}
use Rattle.records_rows.specs.Counting.{Counting}

-- so many names stand in a file: row 7 refuses none of these nodes
abbrev pub good_nodes : List ℕ → ℕ → List NodeRecord → Bool
good_nodes bs names ns = every (good_node (facts_from bs header_length names)) ns

-- the same of the first `count` nodes, which begin at `from`
abbrev pub good_first : List ℕ → ℕ → ℕ → ℕ → Bool
good_first bs names from count = good_nodes bs names (nodes_from bs from count)

-- row 8, but for the statements: trees that close, with children where they may stand
abbrev pub good_trees : List NodeRecord → Bool
good_trees ns = closed ns && all_placed (forest_of ns)

-- counts to which so many may be added
abbrev pub Few : List ℕ → ℕ → Type 0
Few xs more = (k : ℕ) → get_or xs k 0 + more ≤ 65535

-- rows 8, 10 and 7 of the first n nodes, but for the i that are left: none is refused
pub record Scanning (bs : List ℕ) (names from n : ℕ) (reads₀ targets₀ stack reads targets : List ℕ) (top i : ℕ) : Type 0 where
  pub grown : Growing (node_at bs) 12 n from stack top i
  pub counted : Counting (node_at bs) 12 n from reads₀ targets₀ reads targets i
  pub judged : good_nodes bs names (records_from (node_at bs) 12 (n - i) (from + 12 * i)) ≡ true
  pub low : Low stack top

-- the entries of the trees of nodes stand on a stack, and the uses of names in them are added to the arrays
pub record Taken (ns : List NodeRecord) (reads₀ targets₀ stack reads targets : List ℕ) (top : ℕ) : Type 0 where
  pub entered : drop top stack ≡ entries (forest_of ns)
  pub read : Tally (λ k. reads_of k (forest_of ns) + get_or reads₀ k 0) reads
  pub target : Tally (λ k. targets_of k (forest_of ns) + get_or targets₀ k 0) targets
