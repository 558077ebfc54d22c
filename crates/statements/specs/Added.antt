-- What a part of the work adds to the folds that were made, to the list of their names and to the looks.
use Rattle.std.specs.Prelude.{ℕ, ◌+◌, List, ◌≡◌, length}
use Rattle.records_table.specs.Overwrites.{Overwrites}
use Rattle.statements_rules.specs.Trace.{Traced}
use Rattle.statements_search.specs.Kept.{folded_names}
use Rattle.statements_progress.specs.declared.progress.Progress.{Progress}

pub record Adds {A : Type 0} (folded folded' : List ℕ) (p r : Progress) (w : Traced A) : Type 0 where
  pub folds : r.folds ≡ p.folds + length w.trace
  pub names : Overwrites folded folded' p.folds (folded_names w.trace)
  pub looks : r.looks ≡ p.looks + w.looks
