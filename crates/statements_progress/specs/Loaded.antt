-- The next tree of a file, loaded behind the nodes that are in use.
use Rattle.std.specs.Prelude.{ℕ, ◌+◌, ◌*◌, List, ◌++◌, ◌≡◌, length, drop}
use Rattle.records.specs.Tree.{Tree, size}
use Rattle.records.specs.File.{nodes_start}
use Rattle.records.specs.declared.layout.Header.{Header}
use Rattle.records.specs.declared.layout.NodeRecord.{NodeRecord}
use Rattle.records_table.specs.Laid.{laid}
use Rattle.records_table.specs.Loads.{FileTree, HasRoom}
use Rattle.statements_progress.specs.declared.progress.Progress.{Progress}

-- a tree is the next, and there is room for it
abbrev pub HasTree : List ℕ → Header → List ℕ → Progress → Type 0
HasTree file h nodes p = HasRoom file (nodes_start h) p.nodes_read nodes p.nodes_used

-- a tree of so many nodes is loaded
abbrev pub tree_past : Progress → ℕ → Progress
tree_past p many = record {
  tree = record { 0 = p.nodes_used };
  nodes_used = p.nodes_used + many;
  declarators_kept = p.declarators_kept;
  statements_kept = p.statements_kept;
  folds = p.folds;
  looks = p.looks;
  nodes_read = p.nodes_read + many;
  declarators_read = p.declarators_read;
}

abbrev pub Loaded : List ℕ → Header → List ℕ → List ℕ → Progress → Progress → Type 0
Loaded file h nodes nodes' p r =
    (t : Tree) (total : ℕ) (before behind : List NodeRecord)
    → FileTree file (nodes_start h) p.nodes_read t total before behind
    → (pre rest : List ℕ) → nodes ≡ pre ++ rest → length pre ≡ 16 * p.nodes_used
    → (r ≡ tree_past p (size t)) × (nodes' ≡ pre ++ laid t (drop (16 * size t) rest))
