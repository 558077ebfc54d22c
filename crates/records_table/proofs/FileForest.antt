-- The laws of trees among the node records of a file: their nodes, the trees one after the other. Assumes nothing.
use mathlib.Core.Path.{◌≡◌, refl, sym, ap, ◌∙◌}
use mathlib.Core.List.{List, [], ◌∷◌, ◌++◌, append_assoc}
use Prim.Native.Nat.{ℕ, ◌+◌, ◌*◌, ◌≤◌}
use native.Mathlib.Omega.{arith}
use lib.ListN.{length, length-append}
use lib.Seq.{get_or_at}
use Rattle.records.specs.Limits.{node_length}
use Rattle.records.specs.Record.{node_at}
use Rattle.records.specs.Records.{records_from}
use Rattle.records.specs.Tree.{Node, Tree, Trees, node, more, count, size, sizes, joined, record_of, preorder, preorders}
use Rattle.records.specs.declared.layout.NodeRecord.{NodeRecord}
use Rattle.records.proofs.Series.{record_at, records-length}
use Rattle.records_laws.proofs.Preorder.{preorders-joined, preorder-length, preorders-length, preorder-append}
use Rattle.records_table.specs.Loads.{FileForest, FileTree}

-- Every record stands before the forest, in it or behind it.
pub parts : {file : List ℕ} {from at total : ℕ} {ts : Trees} {before behind : List NodeRecord} → FileForest file from at ts total before behind
    → at + sizes ts + length behind ≡ total
parts {file} {from} {total = total} {ts} {before} {behind} h =
    omega (
      arith,
      ap length h.is,
      records-length (node_at file) node_length total from,
      length-append before (preorders ts behind),
      preorders-length ts behind,
      h.starts,
    )

-- so the forest is inside the file
pub room : {file : List ℕ} {from at total : ℕ} {ts : Trees} {before behind : List NodeRecord} → FileForest file from at ts total before behind
    → from + node_length * at + node_length * sizes ts ≤ length file
room h = omega (arith, parts h, h.inside)

module _ {file : List ℕ} {from at total : ℕ} {n : Node} {kids ts : Trees} {before behind : List NodeRecord} where
  -- what is read at the first node of a forest
  pub node_at_lem : FileForest file from at (more (node n kids) ts) total before behind → node_at file (from + node_length * at) ≡ record_of n (count kids)
  unfolding preorder preorders size sizes
  node_at_lem h =
      let r = record_of n (count kids) in
      sym (record_at (node_at file) node_length total at from r (omega (arith, parts h)))
      ∙ rw h.is (get_or_at before r (preorders kids (preorders ts behind)) r at h.starts)

  -- its children and the trees behind it are a forest
  pub down : FileForest file from at (more (node n kids) ts) total before behind
      → FileForest file from (at + 1) (joined kids ts) total (before ++ (record_of n (count kids) ∷ [])) behind
  unfolding preorder preorders
  down h = record {
    is = h.is ∙ rw (append_assoc, preorders-joined);
    starts = omega (arith, length-append before (record_of n (count kids) ∷ []), h.starts);
    inside = h.inside;
  }

module _ {file : List ℕ} {from at total : ℕ} {t : Tree} {ts : Trees} {before behind : List NodeRecord} where
  -- the first tree of a forest
  pub first : FileForest file from at (more t ts) total before behind → FileTree file from at t total before (preorders ts behind)
  unfolding preorders
  first h = record { is = h.is; starts = h.starts; inside = h.inside }

  -- the others, behind the first
  pub beyond : FileForest file from at (more t ts) total before behind → FileForest file from (at + size t) ts total (before ++ preorder t []) behind
  unfolding preorders
  beyond h = record {
    is = h.is ∙ ap (λ (rs : List NodeRecord). before ++ rs) (preorder-append t [] (preorders ts behind)) ∙ sym (append_assoc before (preorder t []) (preorders ts behind));
    starts = omega (arith, length-append before (preorder t []), preorder-length t [], h.starts);
    inside = h.inside;
  }

-- the forest of all trees of a file
pub all-trees : {file : List ℕ} {from total : ℕ} (ts : Trees) → records_from (node_at file) node_length total from ≡ preorders ts []
    → from + node_length * total ≤ length file → FileForest file from 0 ts total [] []
all-trees ts is inside = record { is = is; starts = refl; inside = inside }

-- A tree is inside the file.
pub tree-room : {file : List ℕ} {from at total : ℕ} {t : Tree} {before behind : List NodeRecord} → FileTree file from at t total before behind
    → from + node_length * at + node_length * size t ≤ length file
unfolding sizes
tree-room h = omega (arith, room h)
