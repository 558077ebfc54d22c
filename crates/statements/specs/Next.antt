-- The next tree of a file, searched from the statements that are kept.
use Rattle.std.specs.Prelude.{ℕ, List, []}
use Rattle.records.specs.Tree.{Tree, Trees, more}
use Rattle.records.specs.File.{bare, given}
use Rattle.records.specs.declared.layout.Header.{Header}
use Rattle.records.specs.declared.layout.NodeRecord.{NodeRecord}
use Rattle.records.specs.declared.layout.DeclaratorRecord.{DeclaratorRecord}
use Rattle.walk_rules.specs.Context.{Context}
use Rattle.statements_rules.specs.Statements.{Kept, substitute_in_statement}
use Rattle.statements_search.specs.KeptStatements.{Tables}
use Rattle.statements_progress.specs.declared.progress.Progress.{Progress}
use Rattle.statements.specs.Added.{Adds}
use Rattle.statements.specs.State.{State, holding, following}

-- statements are kept, and a tree is the next
abbrev pub CanTakeNext : List ℕ → Header → Tables → Progress → Type 0
CanTakeNext file h tb p =
    (ks : List Kept) × (t : Tree) × (ts : Trees) × (coming : List DeclaratorRecord) × (left : ℕ) × (rest : List ℕ)
    × (before : List NodeRecord)
    × State file h tb p (holding p.declarators_kept ks [] bare rest) (following (more t ts) coming left before)

-- it stands behind the statements that its search has left
abbrev pub SearchedFromStatements : Context → List ℕ → Header → Tables → Tables → List ℕ → List ℕ → Progress → Progress → Type 0
SearchedFromStatements ctx file h tb tb' folded folded' p r =
    (ks : List Kept) (t : Tree) (ts : Trees) (coming : List DeclaratorRecord) (left : ℕ) (rest : List ℕ)
    (before : List NodeRecord)
    → State file h tb p (holding p.declarators_kept ks [] bare rest) (following (more t ts) coming left before)
    → (rest' : List ℕ) × (before' : List NodeRecord)
    × State file h tb' r
    (holding r.declarators_kept (substitute_in_statement ctx ks t).result.left []
    (given (substitute_in_statement ctx ks t).result.target) rest')
    (following ts coming left before')
    × Adds folded folded' p r (substitute_in_statement ctx ks t)
