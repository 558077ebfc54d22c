-- The statements of a file, one after the other.
use Rattle.std.specs.Prelude.{ℕ, List, [], ◌∷◌, ◌++◌, ◌≡◌, length, take, drop}
use Rattle.records.specs.Record.{declarator_bytes, statement_bytes}
use Rattle.records.specs.Records.{bytes_of}
use Rattle.records.specs.Refusal.{refusal}
use Rattle.records.specs.Tree.{sizes}
use Rattle.records.specs.File.{Statement, bare, read, statement_record, statement_records, declarator_records, all_declarators, all_trees}
use Rattle.records.specs.declared.layout.Header.{Header}
use Rattle.records.specs.declared.layout.NodeRecord.{NodeRecord}
use Rattle.records.specs.declared.layout.StatementRecord.{StatementRecord}
use Rattle.records_table.specs.Laid.{laids}
use Rattle.walk_rules.specs.Context.{Context}
use Rattle.statements_rules.specs.Statements.{Kept, fold_statement}
use Rattle.statements_rules.specs.Fold.{fold_file}
use Rattle.statements_search.specs.Kept.{folded_names}
use Rattle.statements_search.specs.KeptStatements.{Tables}
use Rattle.statements_progress.specs.declared.progress.Progress.{Progress}
use Rattle.statements.specs.declared.in_order.Totals.{Totals}
use Rattle.statements.specs.Added.{Adds}
use Rattle.statements.specs.State.{State, holding, following}

-- Statements are kept, and these are still to come.
abbrev pub Taking : List ℕ → Header → Tables → Progress → List Kept → List Statement → List ℕ → List NodeRecord → Type 0
Taking file h t p ks ss rest before =
    State file h t p (holding p.declarators_kept ks [] bare rest)
    (following (all_trees ss) (declarator_records (all_declarators ss)) (length ss) before)

-- the next is that of this record
abbrev pub CanFold : List ℕ → Header → Tables → StatementRecord → Progress → Type 0
CanFold file h t s p =
    (ks : List Kept) × (st : Statement) × (ss : List Statement) × (rest : List ℕ) × (before : List NodeRecord)
    × Taking file h t p ks (st ∷ ss) rest before × (s ≡ statement_record st)

-- it was folded and pushed
abbrev pub Folds : Context → List ℕ → Header → Tables → Tables → List ℕ → List ℕ → StatementRecord → Progress → Progress → Type 0
Folds ctx file h t t' folded folded' s p r =
    (ks : List Kept) (st : Statement) (ss : List Statement) (rest : List ℕ) (before : List NodeRecord)
    → Taking file h t p ks (st ∷ ss) rest before → s ≡ statement_record st → (number : ℕ)
    → (rest' : List ℕ) × (before' : List NodeRecord)
    × Taking file h t' r (fold_statement ctx number ks st).result ss rest' before'
    × Adds folded folded' p r (fold_statement ctx number ks st)

-- the bytes and some room are accepted
abbrev pub Accepted : List ℕ → Type 0
Accepted file = (room : ℕ) × (refusal file room ≡ 0)

-- The tables hold the statements of the folded file. One list begins with the folded names, in the order of the folds, and is
-- as it was behind them; another with the numbers of the statements that are kept.
pub record FoldsFile (file nodes records statements folded folded' kept : List ℕ) (t : Totals)
    (rest₁ rest₂ rest₃ : List ℕ) : Type 0 where
  pub trees : nodes ≡ laids (all_trees (fold_file (read file)).file.statements) rest₁
  pub declared : records ≡ bytes_of declarator_bytes
      (declarator_records (all_declarators (fold_file (read file)).file.statements)) ++ rest₂
  pub stated : statements ≡ bytes_of statement_bytes (statement_records (fold_file (read file)).file.statements) ++ rest₃
  pub used : t.nodes_used ≡ sizes (all_trees (fold_file (read file)).file.statements)
  pub many : t.declarators_kept ≡ length (all_declarators (fold_file (read file)).file.statements)
  pub count : t.statements_kept ≡ length (fold_file (read file)).file.statements
  pub folds : t.folds ≡ length (fold_file (read file)).trace
  pub names : folded' ≡ folded_names (fold_file (read file)).trace ++ drop t.folds folded
  pub numbers : take t.statements_kept kept ≡ (fold_file (read file)).kept
  pub looks : t.looks ≡ (fold_file (read file)).looks

abbrev pub FoldsAll : List ℕ → List ℕ → List ℕ → List ℕ → List ℕ → List ℕ → List ℕ → Totals → Type 0
FoldsAll file nodes records statements folded folded' kept t =
    (rest₁ : List ℕ) × (rest₂ : List ℕ) × (rest₃ : List ℕ)
    × FoldsFile file nodes records statements folded folded' kept t rest₁ rest₂ rest₃
