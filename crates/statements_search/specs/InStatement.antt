-- What the search of a tree from the statements before it does in the work table.
use Rattle.std.specs.Prelude.{ℕ, ◌+◌, ◌*◌, ◌≤◌, List, ◌≡◌, length}
use Rattle.records.specs.Tree.{Tree}
use Rattle.walk_rules.specs.Context.{Context}
use Rattle.statements_rules.specs.Statements.{Kept, FromStatements, substitute_in_statement}
use Rattle.statements_search.specs.declared.in_statement.InStatement.{InStatement}
use Rattle.statements_search.specs.Kept.{folded_names, most_in_use}
use Rattle.statements_progress.specs.Listed.{names_from}
use Rattle.statements_search.specs.KeptStatements.{Tables, KeepsBefore}

-- some statements stand before some tree, with room for a node more for each declarator, and not too many
abbrev pub CanSearchStatements : Tables → ℕ → ℕ → ℕ → ℕ → Type 0
CanSearchStatements t count many start used =
    (ks : List Kept) × (target : Tree) × (rest : List ℕ) × KeepsBefore t count many start used ks target rest
    × (16 * used + 16 * many ≤ length t.nodes) × (used + many ≤ most_in_use)

-- The search has done as the rules say; the declarators that were folded are the last.
pub record SearchedStatements (t : Tables) (w : FromStatements) (r : InStatement) (rest : List ℕ) : Type 0 where
  pub kept :
      KeepsBefore t r.statements_kept r.declarators_kept r.tree.0 r.nodes_used w.result.left
      w.result.target rest
  pub folded : r.folds ≡ length w.trace
  pub listed : folded_names w.trace ≡ names_from t.declarators r.declarators_kept r.folds
  pub looks : r.looks ≡ w.looks

abbrev pub SearchesStatements : Context → Tables → Tables → ℕ → ℕ → ℕ → ℕ → InStatement → Type 0
SearchesStatements ctx t t' count many start used r =
    (ks : List Kept) (target : Tree) (rest : List ℕ) → KeepsBefore t count many start used ks target rest
    → (rest' : List ℕ) × SearchedStatements t' (substitute_in_statement ctx ks target) r rest'
