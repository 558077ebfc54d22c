-- What the check of a file's records and the fold of an accepted file come to.
use Rattle.std.specs.Prelude.{cond, List, [], ◌++◌, ◌≡◌, ℕ, length, take, drop, eqb, leb, Result, Ok, Err}
use Rattle.records.specs.File.{read, print}
use Rattle.records.specs.Refusal.{refusal}
use Rattle.records_refusal.specs.declared.outcome.Refusal.{Refusal}
use Rattle.records_refusal.specs.Number.{row_number}
use Rattle.statements_rules.specs.Fold.{Folded, fold_file}
use Rattle.statements_search.specs.Kept.{folded_names}
use Rattle.statements_fold.specs.Answer.{laid_into}
use Rattle.statements_fold.specs.declared.tables.Outcome.{Outcome}

-- The number of the row that refuses the file, or 0; then the result's length, the declarators folded, the statements kept, and
-- the looks.
pub record Numbers : Type 0 where
  pub number : ℕ
  pub length : ℕ
  pub folds : ℕ
  pub statements_kept : ℕ
  pub looks : ℕ

abbrev refused : ℕ → Numbers
refused number = record { number = number; length = 0; folds = 0; statements_kept = 0; looks = 0 }

-- the numbers of each case
abbrev pub numbers : Result Outcome Refusal → Numbers
numbers (Err e) = refused (row_number e)
numbers (Ok r) = record { number = 0; length = r.length; folds = r.folds; statements_kept = r.statements_kept; looks = r.looks }

-- the outcome of a folded file
abbrev pub folds : Folded → Outcome
folds w = record { length = length (print w.file); folds = length w.trace; statements_kept = length w.kept; looks = w.looks }

-- one of two, by whether the bytes and so much room for the result are accepted
abbrev pub if_accepted : {A : Type 0} → List ℕ → ℕ → A → A → A
if_accepted bs room a b = cond (eqb (refusal bs room) 0) a b

abbrev pub outcome_of : List ℕ → ℕ → Numbers
outcome_of bs room = if_accepted bs room (numbers (Ok (folds (fold_file (read bs))))) (refused (refusal bs room))

-- a result at the start of the output, if there is room for it, and else the output as it is
abbrev pub laid_if_room : List ℕ → List ℕ → List ℕ
laid_if_room result output = cond (leb (length result) (length output)) (laid_into result output) output

-- The records of a file were checked, with so much room for the result, and an accepted file was folded: what is returned; the
-- result in the output, if that is long enough; a list that begins with the folded names, in the order of the folds, and is as it
-- was behind them; another that begins with the numbers that the statements of the result had in the file.
pub record FoldsRecords (file : List ℕ) (room : ℕ) (output output' folded folded' kept : List ℕ) (r : Result Outcome Refusal) : Type 0 where
  pub outcome : numbers r ≡ outcome_of file room
  pub written : output' ≡ if_accepted file room (laid_if_room (print (fold_file (read file)).file) output) output
  pub names : folded' ≡ if_accepted file room (folded_names (fold_file (read file)).trace ++ drop (numbers r).folds folded) folded
  pub numbers : take (numbers r).statements_kept kept ≡ if_accepted file room (fold_file (read file)).kept []
