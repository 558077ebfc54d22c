-- Demand 3: "one claim on two whole runs, of the file and of the returned result read as a file, with the same starting
-- store and meaning".
use Rattle.std.specs.Prelude.{ℕ, Bool, false, ◌&&◌, not, List, ◌≡◌}
use Rattle.records.specs.Bytes.{Bytes}
use Rattle.records.specs.File.{File, read}
use Rattle.records.specs.Refusal.{refusal}
use Rattle.theory_runs.specs.Store.{Store}
use Rattle.theory_runs.specs.Meaning.{Meaning}
use Rattle.theory_runs.specs.Script.{End, stopped, ended, Ran, run_file}
use Rattle.theory_runs.specs.Shapes.{declared, shape_p, shape_q, shape_r, shape_s}
use Rattle.statements_rules.specs.Trace.{Fold}
use Rattle.statements_rules.specs.Fold.{fold_file, fold_bytes}
use Rattle.theory_runs.specs.Facts.{Facts}

-- "Folded names are those declared in the file and not in the result."
unfoldable pub folded : File → File → ℕ → Bool
folded f g a = declared f a && not (declared g a)

-- both stop, or both end with stores that are the same but for the folded names
pub data SameEnd {Value Rest : Type 0} (f g : File) : End Value Rest → End Value Rest → Type 0 where
  both_stopped : SameEnd f g stopped stopped
  both-ended : {s s' : Store Value Rest} → ((a : ℕ) → folded f g a ≡ false → s.names a ≡ s'.names a) → s.rest ≡ s'.rest → SameEnd f g (ended s) (ended s')

-- Two runs, of a file and of its result: the same list of steps; the same values of statements, declarations giving none and
-- "the other statements are matched in order"; the same end.
pub record SameRun {Value Rest : Type 0} (f g : File) (a b : Ran Value Rest) : Type 0 where
  pub steps : a.steps ≡ b.steps
  pub values : a.values ≡ b.values
  pub end : SameEnd f g a.end b.end

-- The claim for one file, its result and the folds made: whatever the values, the rest of the store, the meaning and the
-- starting store, if the facts are true then the runs are the same.
abbrev pub Unchanged : File → File → List Fold → Type 1
Unchanged f g trace =
    (Value Rest : Type 0) (m : Meaning Value Rest) (start : Store Value Rest)
    → Facts f trace m start
    → SameRun f g (run_file m f start) (run_file m g start)

-- Demand 3: for every accepted file without shape R. (P, Q and S make no difference to this run.)
abbrev pub Demand3 : Type 1
Demand3 =
    (bytes : List ℕ) (room : ℕ) → Bytes bytes → refusal bytes room ≡ 0 → shape_r (read bytes) ≡ false
    → Unchanged (read bytes) (read (fold_bytes bytes room).result) (fold_file (read bytes)).trace

-- The same for a file with none of the four shapes, as the request words it.
abbrev pub Demand3AsWorded : Type 1
Demand3AsWorded =
    (bytes : List ℕ) (room : ℕ) → Bytes bytes → refusal bytes room ≡ 0
    → shape_p (read bytes) ≡ false → shape_q (read bytes) ≡ false → shape_r (read bytes) ≡ false → shape_s (read bytes) ≡ false
    → Unchanged (read bytes) (read (fold_bytes bytes room).result) (fold_file (read bytes)).trace
