-- What holds of measuring, of any bytes. Assumes nothing.
use Prim.Native.Nat.{ℕ, zero, suc, ◌+◌, ◌*◌, ◌≤◌}
use native.Mathlib.Omega.{arith}
use mathlib.Core.Bool.{Bool, true, false, cond}
use mathlib.Core.List.{List}
use mathlib.Core.Path.{◌≡◌, refl, sym, ap, ◌∙◌}
use lib.Dec.{eqb, ltb}
use borrow.Author.Tests.{eqb-true, eqb-false, ne_eqb, le-ltb}
use Rattle.records.specs.Limits.{max_nodes}
use Rattle.records.specs.Record.{header_of}
use Rattle.records.specs.File.{read}
use Rattle.records.specs.Refusal.{row, room_wanted, refusal, file_refusal}
use Rattle.records_laws.proofs.Rooms.{file-most, refused_anyway, row_11_alone}
use Rattle.statements_rules.specs.Fold.{fold_file, Returned, accepted, fold_bytes}
use Rattle.theory_demands.proofs.Laws.{returned, file-looks-most}
use Rattle.statements_fold.proofs.Core.{number_is}
use Rattle.statements_measure.specs.Measure.{Numbers, refused, measured, measure_bytes}
use Rattle.statements_measure.specs.Laws.{MeasureLaws}

module _ (file : List ℕ) where
  -- a file that rows 1 to 10 don't refuse, and one that they do
  pub measures : file_refusal file ≡ 0 → measure_bytes file ≡ measured (fold_file (read file))
  unfolding measure_bytes
  measures e = rw e

  pub measures-none : (file_refusal file ≡ 0 → ⊥) → measure_bytes file ≡ refused (file_refusal file)
  unfolding measure_bytes
  measures-none n = rw (ne_eqb (file_refusal file) 0 n)

  number : (measure_bytes file).number ≡ file_refusal file
  unfolding measure_bytes
  number = by (file_refusal file)
    where
      by : (n : ℕ) → (cond (eqb n 0) (measured (fold_file (read file))) (refused n)).number ≡ n
      by zero = refl
      by (suc n) = rw (ne_eqb (suc n) 0 (λ z. omega (arith, z))) refl

  module _ (room : ℕ) where
    -- the number in a room, by the file's own
    with_none : file_refusal file ≡ 0 → (refusal file room ≡ 11 → ⊥) → refusal file room ≡ 0
    with_none e n = by (ltb room (room_wanted file)) (row_11_alone file room e)
      where
        by : (b : Bool) → refusal file room ≡ row 11 b 0 → refusal file room ≡ 0
        by true q = absurd (n q)
        by false q = q

    same_number : (refusal file room ≡ 11 → ⊥) → file_refusal file ≡ refusal file room
    same_number n = by (eqb (file_refusal file) 0) refl
      where
        by : (b : Bool) → eqb (file_refusal file) 0 ≡ b → file_refusal file ≡ refusal file room
        by true q = let e = eqb-true (file_refusal file) 0 q in e ∙ sym (with_none e n)
        by false q = sym (refused_anyway file room (eqb-false (file_refusal file) 0 q))

    short : refusal file room ≡ 11 → file_refusal file ≡ 0
    short e = by (eqb (file_refusal file) 0) refl
      where
        by : (b : Bool) → eqb (file_refusal file) 0 ≡ b → file_refusal file ≡ 0
        by true q = eqb-true (file_refusal file) 0 q
        by false q = absurd (omega (arith, e, file-most file, refused_anyway file room (eqb-false (file_refusal file) 0 q)))

    fits : file_refusal file ≡ 0 → room_wanted file ≤ room → refusal file room ≡ 0
    fits e l = row_11_alone file room e ∙ rw (le-ltb room (room_wanted file) l)

    length-is : refusal file room ≡ 0 → (measure_bytes file).result_length ≡ (fold_bytes file room).result_length
    unfolding accepted
    length-is e =
        let own : file_refusal file ≡ 0 = same_number (λ z. omega (arith, e, z)) ∙ e in
        ap (λ (m : Numbers). m.result_length) (measures own) ∙ sym (ap (λ (r : Returned). r.result_length) (returned file room e))

  looks-bound : (measure_bytes file).looks ≤ ((header_of file).statements + 2 * (header_of file).declarators) * max_nodes
  looks-bound = by (eqb (file_refusal file) 0) refl
    where
      by : (b : Bool) → eqb (file_refusal file) 0 ≡ b → (measure_bytes file).looks ≤ ((header_of file).statements + 2 * (header_of file).declarators) * max_nodes
      by true q =
          let e = eqb-true (file_refusal file) 0 q in
          rw (measures e) (file-looks-most file (room_wanted file) (unfold file_refusal in e))
      by false q = rw (measures-none (eqb-false (file_refusal file) 0 q)) (omega arith)

  pub laws : MeasureLaws file
  laws = record {
    refuses = λ room n. number ∙ same_number room (λ e. n (number_is file room ∙ e)) ∙ sym (number_is file room);
    short-room = λ room e. number ∙ short room (sym (number_is file room) ∙ e);
    folded = λ e room l. number_is file room ∙ fits room (sym number ∙ e) l;
    same_length = λ room e. length-is room (sym (number_is file room) ∙ e);
    looks = looks-bound;
  }
