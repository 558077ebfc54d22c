-- The answer of the fold, with document 01's number and values for each case, and the output.
use Rattle.std.specs.Prelude.{ℕ, List, ◌++◌, length, drop, Result, Ok, Err}
use Rattle.records_refusal.specs.declared.outcome.Refusal.{Refusal}
use Rattle.records_refusal.specs.Number.{row_number}
use Rattle.statements_rules.specs.Fold.{Returned}
use Rattle.statements_fold.specs.declared.Folded.{Folded}

-- the returned number (0 for success, which document 01 leaves free), the result's length and the declarators folded
pub record Numbers : Type 0 where
  pub number : ℕ
  pub result_length : ℕ
  pub folds : ℕ

-- "A refusal returns length 0, folds 0. Otherwise: result length, declarators folded"
abbrev pub numbers : Result Folded Refusal → Numbers
numbers (Err e) = record { number = row_number e; result_length = 0; folds = 0 }
numbers (Ok r) = record { number = 0; result_length = r.length; folds = r.folds }

abbrev pub numbers_of : Returned → Numbers
numbers_of w = record { number = w.number; result_length = w.result_length; folds = w.folds }

-- a result at the start of the output; "output beyond that length is unchanged"
abbrev pub laid_into : List ℕ → List ℕ → List ℕ
laid_into result output = result ++ drop (length result) output

-- the result of a fold, and all of the output as it was where the file is refused
abbrev pub laid_over : Returned → List ℕ → List ℕ
laid_over w output = laid_into w.result output
