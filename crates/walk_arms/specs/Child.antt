-- The roots of the first two children of the tree that stands at a place.
use Rattle.std.specs.Prelude.{ℕ, List, ◌≡◌}
use Rattle.records.specs.Tree.{Node, Trees, node, node_of, others}
use Rattle.records.specs.File.{first_tree}
use Rattle.records.specs.Place.{root}
use Rattle.records.specs.declared.layout.NodeRecord.{NodeRecord}
use Rattle.records_table.specs.Laid.{TreeAt}

abbrev pub FirstChild : List ℕ → ℕ → NodeRecord → Type 0
FirstChild table at r =
    (pre : List ℕ) (n : Node) (kids : Trees) (rest : List ℕ) → TreeAt table at (node n kids) pre rest
    → root (first_tree kids) ≡ node_of r

abbrev pub SecondChild : List ℕ → ℕ → NodeRecord → Type 0
SecondChild table at r =
    (pre : List ℕ) (n : Node) (kids : Trees) (rest : List ℕ) → TreeAt table at (node n kids) pre rest
    → root (first_tree (others 1 kids)) ≡ node_of r
