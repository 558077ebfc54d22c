-- What stands at a place of the table is read off its records. Assumes nothing.
use Prim.Native.Nat.{ℕ, ◌+◌, ◌*◌, ◌-◌, ◌/◌}
use native.Mathlib.Omega.{arith}
use mathlib.Core.List.{List, [], ◌++◌}
use mathlib.Core.Path.{◌≡◌, sym, ap, ◌∙◌}
use lib.ListN.{length, drop}
use lib.Seq.{drop_at}
use Rattle.records.specs.Record.{node_at}
use Rattle.records.specs.Records.{records_from, bytes_of}
use Rattle.records.specs.Tree.{Tree, Trees, count, sizes, joined, firsts, preorders, forest_of}
use Rattle.records.specs.File.{first_tree}
use Rattle.records.specs.declared.layout.NodeRecord.{NodeRecord}
use Rattle.records_laws.proofs.Forests.{firsts-joined}
use Rattle.records_laws.proofs.Preorder.{preorders-length, preorders-append, forest_of-preorders}
use Rattle.records_laws.proofs.Series.{read_all, records_from_add}
use Rattle.records_table.specs.Table.{work_bytes}
use Rattle.records_table.specs.Laid.{laids, At, TreeAt, trees_at, tree_at, forest_at}
use Rattle.records_table.proofs.Laid.{work_reads, laids-preorders, room}

module _ {table : List ℕ} {at : ℕ} {ts : Trees} {pre rest : List ℕ} (h : At table at ts pre rest) where
  from-there : drop (16 * at) table ≡ bytes_of work_bytes (preorders ts []) ++ rest
  from-there = ap (drop (16 * at)) h.is ∙ drop_at pre (laids ts rest) (16 * at) h.starts ∙ laids-preorders ts rest

  -- the records from there on begin with those of the forest
  records-there : (k : ℕ) → records_from (node_at table) 16 (sizes ts + k) (16 * at) ≡ preorders ts (records_from (node_at table) 16 k (16 * at + 16 * sizes ts))
  records-there k =
      let more : List NodeRecord = records_from (node_at table) 16 k (16 * at + 16 * sizes ts) in
      records_from_add (node_at table) 16 (sizes ts) k (16 * at)
      ∙ ap (λ (l : List NodeRecord). l ++ more) (read_all work_reads table (16 * at) rest (preorders ts []) (sizes ts) (preorders-length ts [] ∙ omega arith) from-there)
      ∙ sym (preorders-append ts [] more)

  -- so the trees from there on begin with it
  trees_of : (n k : ℕ) → n ≡ sizes ts + k → (others : Trees) × (forest_of (records_from (node_at table) 16 n (16 * at)) ≡ joined ts others)
  trees_of n k e =
      let more : List NodeRecord = records_from (node_at table) 16 k (16 * at + 16 * sizes ts) in
      (forest_of more, ap (λ n. forest_of (records_from (node_at table) 16 n (16 * at))) e ∙ ap forest_of (records-there k) ∙ forest_of-preorders ts more)

  trees-there : (others : Trees) × (trees_at table at ≡ joined ts others)
  unfolding trees_at
  trees-there = trees_of (length table / 16 - at) (length table / 16 - at - sizes ts) (omega (arith, room h))

  pub forest_there : forest_at table at (count ts) ≡ ts
  unfolding forest_at
  forest_there = let (others, e) = trees-there in ap (firsts (count ts)) e ∙ firsts-joined ts others

pub tree-there : {table : List ℕ} {at : ℕ} {t : Tree} {pre rest : List ℕ} → TreeAt table at t pre rest → tree_at table at ≡ t
unfolding tree_at joined first_tree
tree-there h = let (others, e) = trees-there h in ap first_tree e
