-- What measuring returns, from what its parts did. Assumes nothing.
use Prim.Native.Nat.{ℕ}
use native.Mathlib.Omega.{arith}
use mathlib.Core.Bool.{Bool, true, false}
use mathlib.Core.List.{List}
use mathlib.Core.Path.{◌≡◌, refl, sym, ap, ◌∙◌}
use lib.Dec.{eqb}
use borrow.Author.Tests.{eqb-true, eqb-false}
use Rattle.std.specs.Prelude.{Result, Ok, Err}
use Rattle.records.specs.Refusal.{room_wanted, refusal, file_refusal}
use Rattle.records_refusal.specs.declared.outcome.Refusal.{Refusal}
use Rattle.records_refusal.specs.Number.{row_number}
use Rattle.records_refusal.proofs.Rows.{refuses}
use Rattle.statements_fold.specs.declared.tables.Outcome.{Outcome}
use Rattle.statements_fold.specs.Outcome.{Numbers, numbers as outcome-numbers, outcome_of, FoldsRecords}
use Rattle.statements_measure.specs.Measure.{numbers, measure_bytes}
use Rattle.statements_measure.proofs.Laws.{measures, measures-none}

module _ (file : List ℕ) where
  -- a row refuses the file, in the room that it wants
  pub returns_refused : (e : Refusal) → row_number e ≡ refusal file (room_wanted file) → numbers (Err e) ≡ measure_bytes file
  unfolding file_refusal
  returns_refused e q = sym (measures-none file (λ z. omega (arith, q, z, refuses e)) ∙ rw q)

  -- what rows 5 to 11 and the fold come to, with that room
  module _ (room : ℕ) (room-is : room ≡ room_wanted file) {output output' names names' kept : List ℕ} where
    outcome : {r : Result Outcome Refusal} → FoldsRecords file room output output' names names' kept r → outcome-numbers r ≡ outcome_of file (room_wanted file)
    outcome w = w.outcome ∙ ap (outcome_of file) room-is

    pub outcome-refused : (e : Refusal) → FoldsRecords file room output output' names names' kept (Err e) → numbers (Err e) ≡ measure_bytes file
    outcome-refused e w = by (eqb (refusal file (room_wanted file)) 0) refl
      where
        by : (b : Bool) → eqb (refusal file (room_wanted file)) 0 ≡ b → numbers (Err e) ≡ measure_bytes file
        by true q = absurd (omega (arith, refuses e, ap (λ (x : Numbers). x.number) (rw q at (outcome w))))
        by false q = returns_refused e (ap (λ (x : Numbers). x.number) (rw q at (outcome w)))

    pub outcome-measured : {r : Outcome} → FoldsRecords file room output output' names names' kept (Ok r) → numbers (Ok (record { length = r.length; looks = r.looks })) ≡ measure_bytes file
    outcome-measured {r} w = by (eqb (refusal file (room_wanted file)) 0) refl
      where
        by : (b : Bool) → eqb (refusal file (room_wanted file)) 0 ≡ b → numbers (Ok (record { length = r.length; looks = r.looks })) ≡ measure_bytes file
        by true q = let o = rw q at (outcome w) in sym (measures file (unfold file_refusal in eqb-true (refusal file (room_wanted file)) 0 q) ∙ rw (← ap (λ (x : Numbers). x.length) o, ← ap (λ (x : Numbers). x.looks) o) refl)
        by false q = absurd (eqb-false (refusal file (room_wanted file)) 0 q (sym (ap (λ (x : Numbers). x.number) (rw q at (outcome w)))))
