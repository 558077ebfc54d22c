-- Records written behind those that are kept.
use Rattle.std.specs.Prelude.{ℕ, ◌+◌, ◌*◌, ◌<◌, List, ◌≡◌, get_or}
use Rattle.records.specs.Record.{declarator_at, statement_at}
use Rattle.records.specs.declared.layout.DeclaratorRecord.{DeclaratorRecord}
use Rattle.records.specs.declared.layout.StatementRecord.{StatementRecord}
use Rattle.statements_progress.specs.declared.progress.Progress.{Progress}

-- The declarator of number `many` was written, with the place where its tree begins; those before it are as they were.
pub record DeclaratorPushed (records records' starts starts' : List ℕ) (many start : ℕ) (d : DeclaratorRecord) : Type 0 where
  pub last : declarator_at records' (4 * many) ≡ d
  pub start_is : get_or starts' many 0 ≡ start
  pub kept : (i : ℕ) → i < many → declarator_at records' (4 * i) ≡ declarator_at records (4 * i)
  pub starts-kept : (i : ℕ) → i < many → get_or starts' i 0 ≡ get_or starts i 0

-- the same of a statement
pub record StatementPushed (statements statements' : List ℕ) (count : ℕ) (s : StatementRecord) : Type 0 where
  pub last : statement_at statements' (4 * count) ≡ s
  pub kept : (i : ℕ) → i < count → statement_at statements' (4 * i) ≡ statement_at statements (4 * i)

-- how far it is then
abbrev pub declarator_past : Progress → Progress
declarator_past p = record {
  tree = record { 0 = p.nodes_used };
  nodes_used = p.nodes_used;
  declarators_kept = p.declarators_kept + 1;
  statements_kept = p.statements_kept;
  folds = p.folds;
  looks = p.looks;
  nodes_read = p.nodes_read;
  declarators_read = p.declarators_read + 1;
}

abbrev pub statement_past : Progress → Progress
statement_past p = record {
  tree = record { 0 = p.nodes_used };
  nodes_used = p.nodes_used;
  declarators_kept = p.declarators_kept;
  statements_kept = p.statements_kept + 1;
  folds = p.folds;
  looks = p.looks;
  nodes_read = p.nodes_read;
  declarators_read = p.declarators_read;
}
