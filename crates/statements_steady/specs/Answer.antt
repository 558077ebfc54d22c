-- The answer of the repeat (document 02, (a)), with the number and values for each case, and the output.
use Rattle.std.specs.Prelude.{ℕ, List, ◌≡◌, length, Result, Ok, Err}
use Rattle.records_refusal.specs.declared.outcome.Refusal.{Refusal}
use Rattle.records_refusal.specs.Number.{row_number}
use Rattle.statements_rules.specs.Steady.{Repeated, steady_bytes}
use Rattle.statements_fold.specs.Answer.{laid_into}
use Rattle.statements_steady.specs.declared.Steady.{Steady}

-- the returned number (0 for success, as for the fold), the last result's length, the declarators that all runs folded, and the
-- runs
pub record Numbers : Type 0 where
  pub number : ℕ
  pub result_length : ℕ
  pub folds : ℕ
  pub runs : ℕ

-- a refusal is the fold's: length 0, folds 0, and no run
abbrev pub numbers : Result Steady Refusal → Numbers
numbers (Err e) = record { number = row_number e; result_length = 0; folds = 0; runs = 0 }
numbers (Ok r) = record { number = 0; result_length = r.length; folds = r.folds; runs = r.runs }

abbrev pub numbers_of : Repeated → Numbers
numbers_of w = record { number = w.number; result_length = w.result_length; folds = w.folds; runs = w.runs }

-- what was returned and written for a file is the repeat's: the last result at the start of the output, and the output behind it
-- as it was; all of it where the file is refused
abbrev pub Repeats : List ℕ → List ℕ → List ℕ → Result Steady Refusal → Type 0
Repeats file output output' r =
    let w = steady_bytes file (length output) in
    (numbers r ≡ numbers_of w) × (output' ≡ laid_into w.result output)
