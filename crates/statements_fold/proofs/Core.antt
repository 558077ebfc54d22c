-- What the fold's core returns and writes, by the definition of the fold of bytes: one law, which each call over the core cites.
-- Assumes nothing.
use Prim.Native.Nat.{ℕ, zero, suc, ◌≤◌}
use native.Mathlib.Omega.{arith}
use mathlib.Core.Bool.{Bool, true, false, cond}
use mathlib.Core.List.{List}
use mathlib.Core.Path.{◌≡◌, refl, ap, ◌∙◌}
use lib.ListN.{length, take, drop, length-append}
use lib.Seq.{take-append_seam}
use lib.Dec.{eqb}
use borrow.Author.Tests.{eqb-true, ne_eqb, le-leb}
use Rattle.std.specs.Prelude.{Result}
use Rattle.records.specs.File.{read, print}
use Rattle.records.specs.Refusal.{refusal, room_wanted}
use Rattle.statements_rules.specs.Fold.{fold_file, accepted, refused, fold_bytes}
use Rattle.theory_demands.proofs.Laws.{returned, result-is, length_most}
use Rattle.records_refusal.specs.declared.outcome.Refusal.{Refusal}
use Rattle.statements_fold.specs.declared.tables.Outcome.{Outcome}
use Rattle.statements_fold.specs.Answer.{laid_over}
use Rattle.statements_fold.specs.Outcome.{Numbers, numbers, outcome_of, laid_if_room, if_accepted, FoldsRecords}

-- the number is that of the table
pub number_is : (bs : List ℕ) (room : ℕ) → (fold_bytes bs room).number ≡ refusal bs room
unfolding fold_bytes accepted refused
number_is bs room = by (refusal bs room)
  where
    by : (n : ℕ) → (cond (eqb n 0) (accepted (fold_file (read bs))) (refused n)).number ≡ n
    by zero = refl
    by (suc n) = rw (ne_eqb (suc n) 0 (λ z. omega (arith, z))) refl

-- The numbers and the output are the definition's; the result stands at the start of the output.
pub record FoldsBytes (bs : List ℕ) (room : ℕ) (output output' : List ℕ) (r : Result Outcome Refusal) : Type 0 where
  pub number : (numbers r).number ≡ (fold_bytes bs room).number
  pub measured : (numbers r).length ≡ (fold_bytes bs room).result_length
  pub folds : (numbers r).folds ≡ (fold_bytes bs room).folds
  pub written : output' ≡ laid_over (fold_bytes bs room) output
  pub within : (numbers r).length ≤ length output'
  pub result : take (numbers r).length output' ≡ (fold_bytes bs room).result

-- where the output has the room that an accepted file wants
module _ (bs : List ℕ) (room : ℕ) (output : List ℕ) (long : refusal bs room ≡ 0 → room_wanted bs ≤ length output) where
  abbrev Alike : Type 0
  Alike =
      ((outcome_of bs room).number ≡ (fold_bytes bs room).number) × ((outcome_of bs room).length ≡ (fold_bytes bs room).result_length)
      × ((outcome_of bs room).folds ≡ (fold_bytes bs room).folds)
      × (if_accepted bs room (laid_if_room (print (fold_file (read bs)).file) output) output ≡ laid_over (fold_bytes bs room) output)
      × ((fold_bytes bs room).result_length ≡ length (fold_bytes bs room).result)

  fits : refusal bs room ≡ 0 → length (print (fold_file (read bs)).file) ≤ length output
  unfolding room_wanted
  fits e =
      let x = length_most bs room e in
      let y = ap length (result-is bs room e) in
      let z = long e in
      omega (arith, x, y, z)

  of_accepted : refusal bs room ≡ 0 → Alike
  unfolding accepted
  of_accepted e = rw (e, returned bs room e, le-leb (length (print (fold_file (read bs)).file)) (length output) (fits e)) (refl, refl, refl, refl, refl)

  of_refused : eqb (refusal bs room) 0 ≡ false → Alike
  unfolding fold_bytes refused
  of_refused q = rw q (refl, refl, refl, refl, refl)

  alike : Alike
  alike = by (eqb (refusal bs room) 0) refl
    where
      by : (b : Bool) → eqb (refusal bs room) 0 ≡ b → Alike
      by true q = of_accepted (eqb-true (refusal bs room) 0 q)
      by false q = of_refused q

  pub by_definition : {output' names names' kept : List ℕ} {r : Result Outcome Refusal} → FoldsRecords bs room output output' names names' kept r → FoldsBytes bs room output output' r
  by_definition {output' = output'} {r = r} w =
      let result = (fold_bytes bs room).result in
      let (n, m, k, o, s) = alike in
      let e : (numbers r).length ≡ length result = ap (λ (x : Numbers). x.length) w.outcome ∙ m ∙ s in
      let written : output' ≡ laid_over (fold_bytes bs room) output = w.written ∙ o in
      let many = ap length written ∙ length-append result (drop (length result) output) in
      record {
        number = ap (λ (x : Numbers). x.number) w.outcome ∙ n;
        measured = ap (λ (x : Numbers). x.length) w.outcome ∙ m;
        folds = ap (λ (x : Numbers). x.folds) w.outcome ∙ k;
        written = written;
        within = omega (arith, e, many);
        result = rw (e, written) (take-append_seam result (drop (length result) output));
      }
