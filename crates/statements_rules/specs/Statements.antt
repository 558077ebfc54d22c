-- The search of a tree from the statements before it (src/peephole/minimize_statements.rs 1112-1165), and the statements of
-- a file in order.
use Rattle.std.specs.Prelude.{ℕ, ◌+◌, cond, List, [], ◌∷◌, map, reverse}
use Rattle.records.specs.Tree.{Tree}
use Rattle.records.specs.File.{DeclarationKind, Initializer, bare, given, Declarator, Statement, declaration, expression, other}
use Rattle.walk_rules.specs.Context.{Context, non_scoped_literal_only}
use Rattle.statements_rules.specs.Trace.{Traced, pure, ◌>>=◌}
use Rattle.statements_rules.specs.Declarators.{is_unsearched, is_using, Searched, ended, with_tree, substitute_from_declarators, substitute_within_declaration}

-- a statement that is kept, with its number in the file
pub record Kept : Type 0 where
  pub number : ℕ
  pub statement : Statement

abbrev pub statement_of : Kept → Statement
statement_of k = k.statement

-- the statements, where the last comes first
abbrev pub in_file_order : List Kept → List Statement
in_file_order ks = map statement_of (reverse ks)

-- the search of a tree from statements
abbrev pub FromStatements : Type 0
FromStatements = Traced (Searched Tree Kept)

module _ (ctx : Context) where
  -- a declaration by the declarators that are left: without any it is dropped, and the search goes on
  unfoldable pub after_declarators : Kept → DeclarationKind → List Kept → Tree → List Declarator → (Tree → FromStatements) → FromStatements
  after_declarators k kind earlier target [] onward = onward target
  after_declarators k kind earlier target (d ∷ ds) onward =
      ended target (record { number = k.number; statement = declaration kind (reverse (d ∷ ds)) } ∷ earlier)

  -- the statement before the searched tree; a using ends the search, and so does what is no declaration
  unfoldable pub from_statement : Kept → Statement → List Kept → Tree → (Tree → FromStatements) → FromStatements
  from_statement k (declaration kind ds) earlier target onward =
      cond (is_using kind) (ended target (k ∷ earlier))
      (substitute_from_declarators ctx (in_file_order earlier) kind (non_scoped_literal_only ctx) (reverse ds) target
      >>= λ w. after_declarators k kind earlier w.target w.left onward)
  from_statement k (expression t) earlier target onward = ended target (k ∷ earlier)
  from_statement k other earlier target onward = ended target (k ∷ earlier)

  -- the statements, the last first
  unfoldable pub from_statements : List Kept → Tree → FromStatements
  from_statements [] target = ended target []
  from_statements (k ∷ earlier) target = from_statement k k.statement earlier target (λ t. from_statements earlier t)

  -- `substitute_single_use_symbol_in_statement`
  unfoldable pub substitute_in_statement : List Kept → Tree → FromStatements
  substitute_in_statement earlier target = cond (is_unsearched ctx) (ended target earlier) (from_statements earlier target)

  -- the first declarator is searched, if it has an initializer
  unfoldable pub in_initializer : List Kept → Declarator → List Declarator → Initializer → Traced (Searched (List Declarator) Kept)
  in_initializer earlier d ds bare = ended (d ∷ ds) earlier
  in_initializer earlier d ds (given t) = do
    w ← substitute_in_statement earlier t
    ended (with_tree d w.target ∷ ds) w.left

  unfoldable pub in_first_declarator : List Kept → List Declarator → Traced (Searched (List Declarator) Kept)
  in_first_declarator earlier [] = ended [] earlier
  in_first_declarator earlier (d ∷ ds) = in_initializer earlier d ds d.initializer

  -- "A declaration whose first declarator has an initializer calls `_in_statement` on it; then `_within_declaration` runs;
  -- then it is pushed. An expression statement calls `_in_statement`, then is pushed. Any other statement is pushed."
  unfoldable pub fold_statement : ℕ → List Kept → Statement → Traced (List Kept)
  fold_statement number earlier (declaration kind ds) = do
    w ← in_first_declarator earlier ds
    ds' ← substitute_within_declaration ctx (in_file_order w.left) kind w.target
    pure (record { number = number; statement = declaration kind ds' } ∷ w.left)
  fold_statement number earlier (expression t) = do
    w ← substitute_in_statement earlier t
    pure (record { number = number; statement = expression w.target } ∷ w.left)
  fold_statement number earlier other = pure (record { number = number; statement = other } ∷ earlier)

  -- "statements are taken in order", the first of them with this number
  unfoldable pub fold_statements : ℕ → List Kept → List Statement → Traced (List Kept)
  fold_statements number earlier [] = pure (reverse earlier)
  fold_statements number earlier (s ∷ ss) = do
    earlier' ← fold_statement number earlier s
    fold_statements (number + 1) earlier' ss
