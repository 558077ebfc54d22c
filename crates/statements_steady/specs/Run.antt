-- What one run of a repeat comes to.
use Rattle.std.specs.Prelude.{ℕ, List, ◌≡◌, Result, Ok, Err}
use Rattle.records_refusal.specs.declared.outcome.Refusal.{Refusal}
use Rattle.records_refusal.specs.Number.{row_number}
use Rattle.statements_rules.specs.Fold.{fold_bytes}
use Rattle.statements_rules.specs.Steady.{same_bytes}
use Rattle.statements_steady.specs.declared.run.Run.{Run}

abbrev pub run_of : List ℕ → ℕ → Run
run_of bs room =
    let w = fold_bytes bs room in
    record { length = w.result_length; folds = w.folds; steady = same_bytes w.result bs }

-- what is returned for some bytes: the number of the row that refuses them, or 0 and the run
abbrev pub Runs : List ℕ → ℕ → Result Run Refusal → Type 0
Runs bs room (Err e) = row_number e ≡ (fold_bytes bs room).number
Runs bs room (Ok r) = (0 ≡ (fold_bytes bs room).number) × (r ≡ run_of bs room)
