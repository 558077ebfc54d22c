-- Demand 3 for the repeat, proved: the run of an accepted file and the run of its last result are the same. Assumes nothing.
use mathlib.Core.Path.{sym, subst}
use Rattle.records.specs.File.{read}
use Rattle.theory_runs.specs.Demand.{Unchanged}
use Rattle.statements_rules.specs.Steady.{steady_bytes}
use Rattle.theory_runs.specs.Steady.{folds_of, Demand3UntilSteady}
use Rattle.theory_steady.proofs.Repeat.{reached}
use Rattle.theory_steady.proofs.AfterRuns.{unchanged-after}

-- for every accepted file without shape R
pub demand_3-until_steady : Demand3UntilSteady
demand_3-until_steady bytes room small e plain =
    let runs = (steady_bytes bytes room).runs in
    subst (λ g. Unchanged (read bytes) g (folds_of runs (read bytes))) (sym (reached bytes room e).ran) (unchanged-after runs bytes room e plain)
