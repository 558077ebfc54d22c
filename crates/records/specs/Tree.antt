-- Trees of nodes, and the preorder of records that they stand in.
use Rattle.std.specs.Prelude.{ℕ, zero, suc, ◌+◌, Bool, true, ◌&&◌, List, [], ◌∷◌, leb}
use Rattle.records.specs.declared.layout.NodeRecord.{NodeRecord}

pub record Node : Type 0 where
  pub kind : ℕ
  pub flags : ℕ
  pub label : ℕ
  pub position : ℕ

-- a tree, a node over its children; and a forest, trees one after the other
mutual
  pub data Tree : Type 0 where
    node : Node → Trees → Tree

  pub data Trees : Type 0 where
    none : Trees
    more : Tree → Trees → Trees

-- how many trees a forest has
unfoldable pub count : Trees → ℕ
count none = 0
count (more t ts) = suc (count ts)

-- how many nodes
unfoldable mutual
  pub size : Tree → ℕ
  size (node n kids) = suc (sizes kids)

  pub sizes : Trees → ℕ
  sizes none = 0
  sizes (more t ts) = size t + sizes ts

-- two forests, one after the other
unfoldable pub joined : Trees → Trees → Trees
joined none us = us
joined (more t ts) us = more t (joined ts us)

-- the first k trees of a forest, and the others
unfoldable pub firsts : ℕ → Trees → Trees
firsts zero ts = none
firsts (suc k) none = none
firsts (suc k) (more t ts) = more t (firsts k ts)

unfoldable pub others : ℕ → Trees → Trees
others zero ts = ts
others (suc k) none = none
others (suc k) (more t ts) = others k ts

-- a node's record
unfoldable pub record_of : Node → ℕ → NodeRecord
record_of n children = record { kind = n.kind; flags = n.flags; label = n.label; children = children; zero = 0; position = n.position }

-- "Trees stand in preorder": the records of a tree, before others
unfoldable mutual
  pub preorder : Tree → List NodeRecord → List NodeRecord
  preorder (node n kids) rest = record_of n (count kids) ∷ preorders kids rest

  pub preorders : Trees → List NodeRecord → List NodeRecord
  preorders none rest = rest
  preorders (more t ts) rest = preorder t (preorders ts rest)

unfoldable pub node_of : NodeRecord → Node
node_of r = record { kind = r.kind; flags = r.flags; label = r.label; position = r.position }

-- a record before a forest: its node takes as many of the trees as the record says
unfoldable pub grown : NodeRecord → Trees → Trees
grown r forest = more (node (node_of r) (firsts r.children forest)) (others r.children forest)

-- the forest that the records stand for
unfoldable pub forest_of : List NodeRecord → Trees
forest_of [] = none
forest_of (r ∷ rs) = grown r (forest_of rs)

-- every record finds as many trees behind it as it says: "trees close"
unfoldable pub closed : List NodeRecord → Bool
closed [] = true
closed (r ∷ rs) = leb r.children (count (forest_of rs)) && closed rs
