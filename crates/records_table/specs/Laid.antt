-- Trees as they stand in the work table: the records of their preorder, 16 bytes each.
use Rattle.std.specs.Prelude.{ℕ, ◌-◌, ◌*◌, ◌/◌, List, ◌++◌, ◌≡◌, length}
use Rattle.records.specs.Record.{node_at}
use Rattle.records.specs.Records.{records_from}
use Rattle.records.specs.Tree.{Tree, Trees, node, none, more, count, firsts, record_of, forest_of}
use Rattle.records.specs.File.{first_tree}
use Rattle.records_table.specs.Table.{work_bytes}

-- a tree, and a forest, before other bytes
unfoldable mutual
  pub laid : Tree → List ℕ → List ℕ
  laid (node n kids) rest = work_bytes (record_of n (count kids)) ++ laids kids rest

  pub laids : Trees → List ℕ → List ℕ
  laids none rest = rest
  laids (more t ts) rest = laid t (laids ts rest)

-- In a table stands, from node number `at` on, a forest between some bytes.
pub record At (table : List ℕ) (at : ℕ) (ts : Trees) (pre rest : List ℕ) : Type 0 where
  pub is : table ≡ pre ++ laids ts rest
  pub starts : length pre ≡ 16 * at

-- the same of one tree
abbrev pub TreeAt : List ℕ → ℕ → Tree → List ℕ → List ℕ → Type 0
TreeAt table at t pre rest = At table at (more t none) pre rest

-- some forest of so many trees stands there; some tree does
abbrev pub ForestStands : List ℕ → ℕ → ℕ → Type 0
ForestStands table at many = (pre : List ℕ) × (ts : Trees) × (rest : List ℕ) × At table at ts pre rest × (count ts ≡ many)

abbrev pub Stands : List ℕ → ℕ → Type 0
Stands table at = (pre : List ℕ) × (t : Tree) × (rest : List ℕ) × TreeAt table at t pre rest

-- the trees that the table's records stand for, from node number `at` on
unfoldable pub trees_at : List ℕ → ℕ → Trees
trees_at table at = forest_of (records_from (node_at table) 16 (length table / 16 - at) (16 * at))

-- the first of them, and so many of them
unfoldable pub tree_at : List ℕ → ℕ → Tree
tree_at table at = first_tree (trees_at table at)

unfoldable pub forest_at : List ℕ → ℕ → ℕ → Trees
forest_at table at many = firsts many (trees_at table at)
