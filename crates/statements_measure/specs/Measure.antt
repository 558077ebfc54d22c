-- Document 02, (b): "a call that works out the exact result length and how many nodes the walk will look at, without an output
-- buffer". The definition, and the answer with the number and values for each case.
use Rattle.std.specs.Prelude.{ℕ, cond, List, length, eqb, Result, Ok, Err}
use Rattle.records.specs.File.{read, print}
use Rattle.records.specs.Refusal.{file_refusal}
use Rattle.records_refusal.specs.declared.outcome.Refusal.{Refusal}
use Rattle.records_refusal.specs.Number.{row_number}
use Rattle.statements_rules.specs.Fold.{Folded, fold_file}
use Rattle.statements_measure.specs.declared.Measured.{Measured}

-- What is returned: the number of the table's row, 0 if none holds; the length of the fold's result; the looks of the fold.
pub record Numbers : Type 0 where
  pub number : ℕ
  pub result_length : ℕ
  pub looks : ℕ

-- a refusal is the fold's: length 0, and no look
abbrev pub refused : ℕ → Numbers
refused number = record { number = number; result_length = 0; looks = 0 }

-- "The length must equal what folding then returns", and the looks are those that the fold makes.
abbrev pub measured : Folded → Numbers
measured w = record { number = 0; result_length = length (print w.file); looks = w.looks }

-- "It refuses as folding does, except that 11 cannot occur here."
unfoldable pub measure_bytes : List ℕ → Numbers
measure_bytes bs = cond (eqb (file_refusal bs) 0) (measured (fold_file (read bs))) (refused (file_refusal bs))

-- the returned numbers of each case
abbrev pub numbers : Result Measured Refusal → Numbers
numbers (Err e) = refused (row_number e)
numbers (Ok r) = record { number = 0; result_length = r.length; looks = r.looks }
