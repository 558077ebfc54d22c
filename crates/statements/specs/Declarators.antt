-- The declarators of a declaration, one after the other.
use Rattle.std.specs.Prelude.{ℕ, ◌-◌, Bool, false, cond, List, [], ◌∷◌, ◌++◌, ◌≡◌, length}
use Rattle.records.specs.Tree.{Tree, Trees, more}
use Rattle.records.specs.File.{DeclarationKind, bare, given, is_given, Declarator, Statement, initializer_tree, initializer_trees, declarator_records}
use Rattle.records.specs.declared.layout.Header.{Header}
use Rattle.records.specs.declared.layout.NodeRecord.{NodeRecord}
use Rattle.records.specs.declared.layout.DeclaratorRecord.{DeclaratorRecord}
use Rattle.walk_rules.specs.Context.{Context}
use Rattle.statements_rules.specs.Trace.{Traced, pure, ◌>>=◌}
use Rattle.statements_rules.specs.Declarators.{FromDeclarators, ended, substitute_from_declarators, within_declarator}
use Rattle.statements_rules.specs.Statements.{Kept, in_first_declarator}
use Rattle.statements_search.specs.KeptStatements.{Tables}
use Rattle.statements_progress.specs.declared.progress.Progress.{Progress}
use Rattle.statements.specs.Added.{Adds}
use Rattle.statements.specs.State.{DeclaratorTables, with_statement_table, State, holding, following}

abbrev pub record_for : Declarator → DeclaratorRecord
record_for d = record { name = d.name; present = is_given d.initializer }

-- The first declarator of a declaration: no other stands before it.
abbrev pub CanTakeFirst : List ℕ → Header → Tables → Progress → Type 0
CanTakeFirst file h t p =
    (ks : List Kept) × (d : Declarator) × (ts : Trees) × (coming : List DeclaratorRecord) × (left : ℕ) × (rest : List ℕ)
    × (before : List NodeRecord)
    × State file h t p (holding p.declarators_kept ks [] bare rest)
    (following (initializer_tree d.initializer ts) (record_for d ∷ coming) left before)

-- it was searched from the statements, and pushed
abbrev pub TakenFirst : Context → List ℕ → Header → Tables → Tables → List ℕ → List ℕ → Progress → Progress → Type 0
TakenFirst ctx file h t t' folded folded' p r =
    (ks : List Kept) (d : Declarator) (ts : Trees) (coming : List DeclaratorRecord) (left : ℕ) (rest : List ℕ)
    (before : List NodeRecord)
    → State file h t p (holding p.declarators_kept ks [] bare rest)
    (following (initializer_tree d.initializer ts) (record_for d ∷ coming) left before)
    → (rest' : List ℕ) × (before' : List NodeRecord)
    × State file h t' r
    (holding (r.declarators_kept - 1) (in_first_declarator ctx ks (d ∷ [])).result.left
    (in_first_declarator ctx ks (d ∷ [])).result.target bare rest')
    (following ts coming left before')
    × Adds folded folded' p r (in_first_declarator ctx ks (d ∷ []))

-- The tree of a later declarator, searched from those before it, unless the declaration isn't searched.
unfoldable pub later_tree : Context → List Statement → DeclarationKind → Bool → List Declarator → Tree → FromDeclarators
later_tree ctx before kind searched done t = cond searched (substitute_from_declarators ctx before kind false done t) (ended t done)

-- It is the next tree, whatever statements stand beside the tables.
abbrev pub CanTakeLaterTree : List ℕ → Header → DeclaratorTables → ℕ → Progress → Type 0
CanTakeLaterTree file h tb low p =
    (statements : List ℕ) × (ks : List Kept) × (done : List Declarator) × (t : Tree) × (ts : Trees)
    × (coming : List DeclaratorRecord) × (left : ℕ)
    × (rest : List ℕ) × (before : List NodeRecord)
    × State file h (with_statement_table tb statements) p (holding low ks done bare rest) (following (more t ts) coming left before)

abbrev pub TakenLaterTree : Context → Bool → List ℕ → Header → DeclaratorTables → DeclaratorTables → List ℕ → List ℕ → ℕ
    → Progress → Progress → Type 0
TakenLaterTree ctx searched file h tb tb' folded folded' low p r =
    (statements : List ℕ) (ks : List Kept) (done : List Declarator) (t : Tree) (ts : Trees) (coming : List DeclaratorRecord)
    (left : ℕ)
    (rest : List ℕ) (before : List NodeRecord)
    → State file h (with_statement_table tb statements) p (holding low ks done bare rest) (following (more t ts) coming left before)
    → (above : List Statement) (kind : DeclarationKind)
    → (rest' : List ℕ) × (before' : List NodeRecord)
    × State file h (with_statement_table tb' statements) r
    (holding low ks (later_tree ctx above kind searched done t).result.left
    (given (later_tree ctx above kind searched done t).result.target) rest')
    (following ts coming left before')
    × Adds folded folded' p r (later_tree ctx above kind searched done t)

-- A later declarator, behind those that are done, and all that follow.
unfoldable pub later_declarator : Context → List Statement → DeclarationKind → Bool → List Declarator → Declarator
    → Traced (List Declarator)
later_declarator ctx before kind searched done d = cond searched (within_declarator ctx before kind done d d.initializer)
    (pure (d ∷ done))

unfoldable pub later_declarators : Context → List Statement → DeclarationKind → Bool → List Declarator → List Declarator
    → Traced (List Declarator)
later_declarators ctx before kind searched done [] = pure done
later_declarators ctx before kind searched done (d ∷ ds) = do
  done' ← later_declarator ctx before kind searched done d
  later_declarators ctx before kind searched done' ds

abbrev pub CanTakeLater : List ℕ → Header → DeclaratorTables → ℕ → Progress → Type 0
CanTakeLater file h tb low p =
    (statements : List ℕ) × (ks : List Kept) × (done : List Declarator) × (d : Declarator) × (ts : Trees)
    × (coming : List DeclaratorRecord) × (left : ℕ)
    × (rest : List ℕ) × (before : List NodeRecord)
    × State file h (with_statement_table tb statements) p (holding low ks done bare rest)
    (following (initializer_tree d.initializer ts) (record_for d ∷ coming) left before)

abbrev pub TakenLater : Context → Bool → List ℕ → Header → DeclaratorTables → DeclaratorTables → List ℕ → List ℕ → ℕ → Progress
    → Progress → Type 0
TakenLater ctx searched file h tb tb' folded folded' low p r =
    (statements : List ℕ) (ks : List Kept) (done : List Declarator) (d : Declarator) (ts : Trees)
    (coming : List DeclaratorRecord) (left : ℕ)
    (rest : List ℕ) (before : List NodeRecord)
    → State file h (with_statement_table tb statements) p (holding low ks done bare rest)
    (following (initializer_tree d.initializer ts) (record_for d ∷ coming) left before)
    → (above : List Statement) (kind : DeclarationKind)
    → (rest' : List ℕ) × (before' : List NodeRecord)
    × State file h (with_statement_table tb' statements) r (holding low ks (later_declarator ctx above kind searched done d).result bare rest')
    (following ts coming left before')
    × Adds folded folded' p r (later_declarator ctx above kind searched done d)

-- the next n declarators
abbrev pub CanTakeAll : List ℕ → Header → DeclaratorTables → ℕ → ℕ → Progress → Type 0
CanTakeAll file h tb low n p =
    (statements : List ℕ) × (ks : List Kept) × (done : List Declarator) × (ds : List Declarator) × (ts : Trees)
    × (coming : List DeclaratorRecord) × (left : ℕ)
    × (rest : List ℕ) × (before : List NodeRecord)
    × State file h (with_statement_table tb statements) p (holding low ks done bare rest)
    (following (initializer_trees ds ts) (declarator_records ds ++ coming) left before)
    × (length ds ≡ n)

abbrev pub TakenAll : Context → Bool → List ℕ → Header → DeclaratorTables → DeclaratorTables → List ℕ → List ℕ → ℕ → ℕ
    → Progress → Progress → Type 0
TakenAll ctx searched file h tb tb' folded folded' low n p r =
    (statements : List ℕ) (ks : List Kept) (done ds : List Declarator) (ts : Trees) (coming : List DeclaratorRecord) (left : ℕ)
    (rest : List ℕ) (before : List NodeRecord)
    → State file h (with_statement_table tb statements) p (holding low ks done bare rest)
    (following (initializer_trees ds ts) (declarator_records ds ++ coming) left before)
    → length ds ≡ n → (above : List Statement) (kind : DeclarationKind)
    → (rest' : List ℕ) × (before' : List NodeRecord)
    × State file h (with_statement_table tb' statements) r
    (holding low ks (later_declarators ctx above kind searched done ds).result bare rest')
    (following ts coming left before')
    × Adds folded folded' p r (later_declarators ctx above kind searched done ds)
