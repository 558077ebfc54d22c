-- Demand 3 for the repeat (document 02, (a)): "A user may rely on the script's steps after the repeat just as after one run; for
-- that, true facts speak of what any of its runs brings into a plain assignment's value."
use Rattle.std.specs.Prelude.{ℕ, zero, suc, false, List, [], ◌++◌, ◌≡◌}
use Rattle.records.specs.Bytes.{Bytes}
use Rattle.records.specs.File.{File, read}
use Rattle.records.specs.Refusal.{refusal}
use Rattle.statements_rules.specs.Trace.{Fold}
use Rattle.statements_rules.specs.Fold.{fold_file}
use Rattle.statements_rules.specs.Steady.{steady_bytes}
use Rattle.theory_runs.specs.Shapes.{shape_r}
use Rattle.theory_runs.specs.Demand.{Unchanged}

-- the folds of so many runs, one run after the other, each of the file that the run before it left
unfoldable pub folds_of : ℕ → File → List Fold
folds_of zero f = []
folds_of (suc runs) f = (fold_file f).trace ++ folds_of runs (fold_file f).file

-- The claim of demand 3 on the file and the last result. The facts are those of the file; their clause on targets speaks of the
-- folds of every run.
abbrev pub Demand3UntilSteady : Type 1
Demand3UntilSteady =
    (bytes : List ℕ) (room : ℕ) → Bytes bytes → refusal bytes room ≡ 0 → shape_r (read bytes) ≡ false
    → Unchanged (read bytes) (read (steady_bytes bytes room).result) (folds_of (steady_bytes bytes room).runs (read bytes))
