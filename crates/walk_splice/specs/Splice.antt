-- The replacement moves to the name's place in the work table.
use Rattle.std.specs.Prelude.{ℕ, ◌+◌, ◌*◌, Bool, List, ◌++◌, ◌≡◌, length}
use Rattle.records.specs.Tree.{Tree, size, node_of}
use Rattle.records.specs.declared.layout.NodeRecord.{NodeRecord}
use Rattle.records_table.specs.Table.{work_bytes}
use Rattle.records_table.specs.Laid.{laid}
use Rattle.walk_arms.specs.Answers.{in_place}

-- The table before: the replacement `t` from node `from` on; from `target` on what was searched, with the name's record at
-- `place`, up to the end of the nodes in use.
pub record Before
    (table : List ℕ) (from target place used : ℕ) (t : Tree) (name : NodeRecord) (pre between after rest : List ℕ)
    : Type 0 where
  pub is : table ≡ pre ++ laid t (between ++ (work_bytes name ++ (after ++ rest)))
  pub starts : length pre ≡ 16 * from
  pub searched : 16 * from + 16 * size t ≡ 16 * target
  pub found : 16 * target + length between ≡ 16 * place
  pub ends : 16 * place + 16 + length after ≡ 16 * used

-- some table of this kind
abbrev pub HoldsName : List ℕ → ℕ → ℕ → ℕ → ℕ → Type 0
HoldsName table from target place used =
    (t : Tree) × (name : NodeRecord) × (pre : List ℕ) × (between : List ℕ) × (after : List ℕ) × (rest : List ℕ)
    × Before table from target place used t name pre between after rest

-- The table after: a tree stands between the bytes that were before and behind the name.
pub record After (table : List ℕ) (used : ℕ) (t : Tree) (pre between after rest : List ℕ) : Type 0 where
  pub is : table ≡ pre ++ (between ++ laid t (after ++ rest))
  pub ends : length pre + length between + 16 * size t + length after ≡ 16 * used

-- So it is with every reading of the table.
abbrev pub Splices : List ℕ → List ℕ → ℕ → ℕ → ℕ → ℕ → Bool → ℕ → Type 0
Splices table table' from target place used indirect used' =
    (t : Tree) (name : NodeRecord) (pre between after rest : List ℕ)
    → Before table from target place used t name pre between after rest
    → (rest' : List ℕ) × After table' used' (in_place indirect t (node_of name)) pre between after rest'
