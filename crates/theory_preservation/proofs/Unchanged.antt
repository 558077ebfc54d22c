-- The claim of demand 3, of a file as it is read: what acceptance says of its names and of its trees is all that is asked.
use mathlib.Core.Path.{◌≡◌, ap}
use Rattle.records.specs.File.{File}
use Rattle.statements_rules.specs.Fold.{folded_file, with_statements, fold_file}
use Rattle.theory_runs.specs.Store.{Store}
use Rattle.theory_runs.specs.Meaning.{Meaning}
use Rattle.theory_runs.specs.Script.{run_statements, begin, ran, run_file}
use Rattle.theory_runs.specs.Facts.{Each, Facts}
use Rattle.theory_runs.specs.Demand.{SameRun, Unchanged}
use Rattle.theory_preservation.proofs.Moves.{file-moves}
use Rattle.theory_preservation.proofs.Fine.{Accepted, Fine}
use Rattle.theory_preservation.proofs.Whole.{same_of_all}
use Rattle.theory_preservation.proofs.Cut.{cut_to, cut-facts}
use Rattle.theory_preservation.proofs.Within.{WithinProgram, WithinFold}
use Rattle.theory_preservation.proofs.CutRuns.{statements-cut, all_keeps_cut}
use Rattle.theory_preservation.proofs.MovesWithin.{file-within, moves-within}

module _ (f : File) (accepted : Accepted f) (fine : Fine f f.statements) (Value Rest : Type 0) (m : Meaning Value Rest) (start : Store Value Rest) (facts : Facts f (fold_file f).trace m start) where
  abbrev g : File
  g = (fold_file f).file

  all-within : Each (WithinFold Value f) (fold_file f).trace × WithinProgram Value f (fold_file f).file.statements
  all-within = moves-within Value f (file-moves f) accepted fine (file-within Value f)

  run-file : run_file m f start ≡ run_file (cut_to f m) f start
  unfolding run_file
  run-file = ap ran (statements-cut f m f.statements (begin start) (file-within Value f))

  run-result : run_file m g start ≡ run_file (cut_to f m) g start
  run-result = by (statements-cut f m g.statements (begin start) all-within.1)
    where
      by : run_statements f.names m g.statements (begin start) ≡ run_statements f.names (cut_to f m) g.statements (begin start) → run_file m g start ≡ run_file (cut_to f m) g start
      by e = unfold run_file fold_file folded_file with_statements in ap ran e

  cut-same : SameRun f g (run_file (cut_to f m) f start) (run_file (cut_to f m) g start)
  cut-same = same_of_all f accepted fine (cut_to f m) start (cut-facts f (fold_file f).trace m start facts (all_keeps_cut f m start (fold_file f).trace all-within.0 facts.targets-kept))

  runs_same : SameRun f g (run_file m f start) (run_file m g start)
  runs_same = rw (run-file, run-result) cut-same

pub fold-unchanged : (f : File) → Accepted f → Fine f f.statements → Unchanged f (fold_file f).file (fold_file f).trace
fold-unchanged f accepted fine Value Rest m start facts = runs_same f accepted fine Value Rest m start facts
