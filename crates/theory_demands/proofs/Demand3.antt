-- Demand 3, proved: the run of an accepted file and the run of its result are the same. Assumes nothing.
use Prim.Native.Nat.{ℕ}
use mathlib.Core.List.{List}
use mathlib.Core.Path.{◌≡◌, sym, subst}
use Rattle.records.specs.File.{read}
use Rattle.records.specs.Refusal.{refusal}
use Rattle.statements_rules.specs.Fold.{fold_file, accepted, fold_bytes}
use Rattle.theory_runs.specs.Demand.{Unchanged, Demand3, Demand3AsWorded}
use Rattle.records_laws.proofs.Accepted.{accepted as rows-passed}
use Rattle.records_laws.proofs.RoundTrip.{read-print}
use Rattle.theory_preservation.proofs.Unchanged.{fold-unchanged}
use Rattle.theory_demands.proofs.Rows.{names-accepted, file_fine}

-- the result of accepted bytes, read as a file
pub result-read : (bytes : List ℕ) (room : ℕ) → refusal bytes room ≡ 0 → read (fold_bytes bytes room).result ≡ (fold_file (read bytes)).file
unfolding fold_bytes accepted
result-read bytes room e = rw e (read-print (fold_file (read bytes)).file)

-- for every accepted file without shape R
pub demand_3 : Demand3
demand_3 bytes room small e plain =
    let rows = rows-passed bytes room e in
    subst (λ g. Unchanged (read bytes) g (fold_file (read bytes)).trace) (sym (result-read bytes room e)) (fold-unchanged (read bytes) (names-accepted bytes room rows) (file_fine bytes room rows plain))

-- for every accepted file without any of the four shapes
pub demand_3_as_worded : Demand3AsWorded
demand_3_as_worded bytes room small e p q r s = demand_3 bytes room small e r
