-- Trees among the node records of a file, and a tree of them copied to the work table.
use Rattle.std.specs.Prelude.{ℕ, ◌+◌, ◌*◌, ◌≤◌, List, ◌++◌, ◌≡◌, length, drop}
use Rattle.records.specs.Limits.{node_length}
use Rattle.records.specs.Record.{node_at}
use Rattle.records.specs.Records.{records_from}
use Rattle.records.specs.Tree.{Tree, Trees, none, more, size, preorders}
use Rattle.records.specs.declared.layout.NodeRecord.{NodeRecord}
use Rattle.records_table.specs.Laid.{laid}

-- A file has `total` node records, the first at byte `from`; among them stands, from record number `at` on, a forest between
-- some others.
pub record FileForest (file : List ℕ) (from at : ℕ) (ts : Trees) (total : ℕ) (before behind : List NodeRecord) : Type 0 where
  pub is : records_from (node_at file) node_length total from ≡ before ++ preorders ts behind
  pub starts : length before ≡ at
  pub inside : from + node_length * total ≤ length file

-- the same of one tree
abbrev pub FileTree : List ℕ → ℕ → ℕ → Tree → ℕ → List NodeRecord → List NodeRecord → Type 0
FileTree file from at t total before behind = FileForest file from at (more t none) total before behind

-- some tree stands there, and there is room for it in the table, behind the nodes that are in use
abbrev pub HasRoom : List ℕ → ℕ → ℕ → List ℕ → ℕ → Type 0
HasRoom file from at table used =
    (t : Tree) × (total : ℕ) × (before : List NodeRecord) × (behind : List NodeRecord) × FileTree file from at t total before behind
    × (16 * used + 16 * size t ≤ length table)

-- The table after: the tree stands behind the nodes that were in use, in the place of as many bytes.
abbrev pub Loads : List ℕ → ℕ → ℕ → List ℕ → List ℕ → ℕ → ℕ → Type 0
Loads file from at table table' used many =
    (t : Tree) (total : ℕ) (before behind : List NodeRecord) → FileTree file from at t total before behind
    → (pre rest : List ℕ) → table ≡ pre ++ rest → length pre ≡ 16 * used
    → (many ≡ size t) × (table' ≡ pre ++ laid t (drop (16 * size t) rest))
