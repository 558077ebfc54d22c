-- The next tree of the file, loaded behind the nodes that are in use. Assumes nothing.
use mathlib.Core.Path.{◌≡◌, sym, ap, ◌∙◌}
use mathlib.Core.List.{List, ◌∷◌}
use Prim.Native.Nat.{ℕ, ◌+◌, ◌*◌, ◌≤◌}
use native.Mathlib.Omega.{arith}
use lib.ListN.{length, get_or, take, drop, take-append-drop}
use lib.Seq.{length-take-le}
use Rattle.records.specs.Tree.{Tree}
use Rattle.records.specs.File.{nodes_start}
use Rattle.records.specs.declared.layout.NodeRecord.{NodeRecord}
use Rattle.records.specs.declared.layout.Header.{Header}
use Rattle.records_table.specs.Loads.{FileTree, Loads}
use Rattle.records_table.proofs.FileForest.{tree-room}
use Rattle.statements_progress.specs.declared.progress.Progress.{Progress}
use Rattle.statements_progress.specs.Loaded.{HasTree, tree_past, Loaded}

-- The next tree, where the first node of the file is found in the part table.
module _ {file : List ℕ} (h : Header) (p : Progress) {parts behind : List ℕ} {x y z : ℕ} (e : parts ≡ x ∷ y ∷ z ∷ nodes_start h ∷ behind) where
  at-start : {t : Tree} {total : ℕ} {before after : List NodeRecord} → FileTree file (nodes_start h) p.nodes_read t total before after → FileTree file (get_or parts 3 0) p.nodes_read t total before after
  at-start f = rw e f

  pub loads_next : {nodes nodes' : List ℕ} {many : ℕ} → Loads file (get_or parts 3 0) p.nodes_read nodes nodes' p.nodes_used many → (r : Progress) → r ≡ tree_past p many → Loaded file h nodes nodes' p r
  loads_next l r er t total before behind f pre rest is long =
      let (x, y) = l t total before behind (at-start f) pre rest is long in (er ∙ ap (tree_past p) x, y)

  pub load_fits : {nodes nodes' : List ℕ} {many : ℕ} → HasTree file h nodes p → Loads file (get_or parts 3 0) p.nodes_read nodes nodes' p.nodes_used many → (p.nodes_used + many ≤ length nodes) × (p.nodes_read + many ≤ length file)
  load_fits {nodes} (t, total, before, behind, f, room) l =
      let at = 16 * p.nodes_used in
      let m = (l t total before behind (at-start f) (take at nodes) (drop at nodes) (sym (take-append-drop at nodes)) (length-take-le at nodes (omega (arith, room)))).0 in
      (omega (arith, room, m), omega (arith, tree-room f, m))
