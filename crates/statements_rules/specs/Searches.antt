-- What bounds the looks of a fold, of any file: "Show that looks never exceed (T + 2D) × 3,000" (document 02, (b)).
use Rattle.std.specs.Prelude.{ℕ, ◌+◌, ◌≤◌, List, [], ◌∷◌, length}
use Rattle.records.specs.Tree.{sizes}
use Rattle.records.specs.File.{File, all_trees, all_declarators}
use Rattle.walk_rules.specs.Context.{context_of}
use Rattle.statements_rules.specs.Statements.{fold_statements}
use Rattle.statements_rules.specs.Fold.{fold_file}

-- for each search of the fold, how many nodes its tree had
abbrev pub searched_in : File → List ℕ
searched_in f = (fold_statements (context_of f) 0 [] f.statements).searched_nodes

-- no number of a list is above this one
unfoldable pub AtMost : ℕ → List ℕ → Type 0
AtMost most [] = Unit {0}
AtMost most (n ∷ ns) = (n ≤ most) × AtMost most ns

unfoldable pub sum : List ℕ → ℕ
sum [] = 0
sum (n ∷ ns) = n + sum ns

-- the counts of a file: statements, declarators, nodes
abbrev pub T : File → ℕ
T f = length f.statements

abbrev pub D : File → ℕ
D f = length (all_declarators f.statements)

abbrev pub M : File → ℕ
M f = sizes (all_trees f.statements)

pub record SearchLaws (f : File) : Type 0 where
  -- each tree is searched at most once, and at most once more after each fold into it
  pub searches : length (searched_in f) ≤ T f + D f + length (fold_file f).trace
  -- nodes and declarators together never grow
  pub nodes : AtMost (M f + D f) (searched_in f)
  -- a search has no more looks than its tree has nodes
  pub looks : (fold_file f).looks ≤ sum (searched_in f)
