-- The repeat of the fold: what it comes to, with D + 2 runs or more to make. Assumes nothing.
use Prim.Native.Nat.{ℕ, zero, suc, ◌+◌, ◌*◌, ◌≤◌}
use native.Mathlib.Omega.{arith}
use mathlib.Core.Bool.{Bool, true, false, cond}
use mathlib.Core.List.{List, [], ◌∷◌}
use mathlib.Core.Path.{◌≡◌, refl, sym, ap, ◌∙◌, subst}
use lib.ListN.{length, length-append}
use lib.Dec.{eqb}
use borrow.Author.Tests.{eqb-true, eq-eqb}
use Rattle.records.specs.Bytes.{Bytes}
use Rattle.records.specs.Record.{header_of}
use Rattle.records.specs.File.{File, read, print}
use Rattle.records.specs.Refusal.{refusal}
use Rattle.records.proofs.Tests.{both, clash}
use Rattle.statements_rules.specs.Fold.{fold_file, Returned, accepted, fold_bytes}
use Rattle.theory_demands.proofs.Laws.{returned, result-is, result-reads, accepted-again, bytes_again, room_most, declarators-taken}
use Rattle.statements_rules.specs.Steady.{same_bytes, Repeated, at_rest, run_before, repeat_fold}
use Rattle.theory_runs.specs.Steady.{folds_of}
use Rattle.theory_steady.proofs.StillRun.{still-run}

-- bytes of which the test holds are the same; it holds of bytes and themselves
pub same_true : (bs cs : List ℕ) → same_bytes bs cs ≡ true → bs ≡ cs
unfolding same_bytes
same_true [] [] e = refl
same_true [] (c ∷ cs) e = clash false refl e
same_true (b ∷ bs) [] e = clash false refl e
same_true (b ∷ bs) (c ∷ cs) e =
    let (x, y) = both (eqb b c) (same_bytes bs cs) e in
    let g = eqb-true b c x in
    let h = same_true bs cs y in
    cc

pub same_self : (bs : List ℕ) → same_bytes bs bs ≡ true
unfolding same_bytes
same_self [] = refl
same_self (b ∷ bs) = rw (eq-eqb b b refl, same_self bs)

no_length : {A : Type 0} (xs : List A) → length xs ≡ 0 → xs ≡ []
no_length [] e = refl
no_length (x ∷ xs) e = absurd (omega arith)

module _ (bytes : List ℕ) (room : ℕ) (e : refusal bytes room ≡ 0) where
  folds_are : (fold_bytes bytes room).folds ≡ length (fold_file (read bytes)).trace
  unfolding accepted
  folds_are = ap (λ (r : Returned). r.folds) (returned bytes room e)

  -- A run with no fold is followed by one that leaves the bytes as they are.
  pub still_bytes : (fold_bytes bytes room).folds ≡ 0 → (fold_bytes (fold_bytes bytes room).result room).result ≡ (fold_bytes bytes room).result
  still_bytes z =
      result-is (fold_bytes bytes room).result room (accepted-again bytes room e)
      ∙ ap (λ (f : File). print (fold_file f).file) (result-reads bytes room e)
      ∙ ap print (still-run (read bytes) (no_length (fold_file (read bytes)).trace (sym folds_are ∙ z)))
      ∙ sym (result-is bytes room e)

-- the file after so many runs
unfoldable pub file_after : ℕ → File → File
file_after zero f = f
file_after (suc runs) f = file_after runs (fold_file f).file

-- What a repeat comes to, from bytes, in so many runs at most.
pub record Reached (bytes : List ℕ) (room most : ℕ) (w : Repeated) : Type 0 where
  pub number : w.number ≡ 0
  pub measured : w.result_length ≡ length w.result
  -- the result is accepted, and its fold is the result
  pub accepted : refusal w.result room ≡ 0
  pub steady : (fold_bytes w.result room).result ≡ w.result
  -- the runs, the last one counted
  pub some : 1 ≤ w.runs
  pub runs : w.runs ≤ most
  -- each fold took one declarator
  pub taken : (header_of w.result).declarators + w.folds ≡ (header_of bytes).declarators
  -- the room that is asked for doesn't grow
  pub lower : length w.result + 8 * (header_of w.result).declarators ≤ length bytes + 8 * (header_of bytes).declarators
  -- the last run was made of the result itself: "the last unchanged one counted"
  pub unchanged : (n : ℕ) → w.runs ≡ suc n → file_after n (read bytes) ≡ read w.result
  -- the file and the folds of those runs
  pub ran : read w.result ≡ file_after w.runs (read bytes)
  pub traced : w.folds ≡ length (folds_of w.runs (read bytes))
  -- bytes stay bytes
  pub small : Bytes bytes → Bytes w.result

module _ (bytes : List ℕ) (room : ℕ) (e : refusal bytes room ≡ 0) where
  abbrev w : Returned
  w = fold_bytes bytes room

  -- a run that leaves the bytes as they are is the last
  last-run : w.result ≡ bytes → Reached bytes room 1 (run_before w (at_rest w.result))
  unfolding run_before at_rest file_after folds_of
  last-run same = record {
    number = refl;
    measured = refl;
    accepted = accepted-again bytes room e;
    steady = ap (λ bs. (fold_bytes bs room).result) same;
    some = omega arith;
    runs = omega arith;
    taken = let x = declarators-taken bytes room e in omega (arith, x);
    lower = room_most bytes room e;
    unchanged = λ n q. let z : n ≡ 0 = omega (arith, q) in rw z (ap read (sym same));
    ran = result-reads bytes room e;
    traced = let x = folds_are bytes room e in let y = length-append (fold_file (read bytes)).trace [] in omega (arith, x, y);
    small = bytes_again bytes room e;
  }

  -- the file before the last of the runs that follow a run
  later : (v : Repeated) (n : ℕ) → n ≡ v.runs → 1 ≤ v.runs → read w.result ≡ (fold_file (read bytes)).file
      → ((k : ℕ) → v.runs ≡ suc k → file_after k (read w.result) ≡ read v.result) → file_after n (read bytes) ≡ read v.result
  unfolding file_after
  later v zero q some files h = absurd (omega (arith, q, some))
  later v (suc k) q some files h = ap (file_after k) (sym files) ∙ h k (sym q)

  -- a run before others
  run-before : (most : ℕ) (v : Repeated) → Reached w.result room most v → Reached bytes room (suc most) (run_before w v)
  unfolding run_before file_after folds_of
  run-before most v h =
      let files = result-reads bytes room e in
      record {
        number = h.number;
        measured = h.measured;
        accepted = h.accepted;
        steady = h.steady;
        some = omega arith;
        runs = let x = h.runs in omega (arith, x);
        taken = let x = declarators-taken bytes room e in let y = h.taken in omega (arith, x, y);
        lower = let x = room_most bytes room e in let y = h.lower in omega (arith, x, y);
        unchanged = λ n q. later v n (omega (arith, q)) h.some files h.unchanged;
        ran = h.ran ∙ ap (file_after v.runs) files;
        traced =
            let x = folds_are bytes room e in
            let y = h.traced in
            let z = ap (λ f. length (folds_of v.runs f)) files in
            let l = length-append (fold_file (read bytes)).trace (folds_of v.runs (fold_file (read bytes)).file) in
            omega (arith, x, y, z, l);
        small = λ b. h.small (bytes_again bytes room e b);
      }

  -- in more runs
  within : (most most' : ℕ) (v : Repeated) → most ≤ most' → Reached bytes room most v → Reached bytes room most' v
  within most most' v l h = record {
    number = h.number;
    measured = h.measured;
    accepted = h.accepted;
    steady = h.steady;
    some = h.some;
    runs = let x = h.runs in omega (arith, x);
    taken = h.taken;
    lower = h.lower;
    unchanged = h.unchanged;
    ran = h.ran;
    traced = h.traced;
    small = h.small;
  }

-- bytes that stay the same: one run
pub steady_repeat : (most : ℕ) (bytes : List ℕ) (room : ℕ) → (fold_bytes bytes room).result ≡ bytes → 1 ≤ most → repeat_fold most bytes room ≡ run_before (fold_bytes bytes room) (at_rest (fold_bytes bytes room).result)
unfolding repeat_fold
steady_repeat zero bytes room same l = absurd (omega arith)
steady_repeat (suc most) bytes room same l =
    let x : same_bytes (fold_bytes bytes room).result bytes ≡ true = subst (λ bs. same_bytes bs bytes ≡ true) (sym same) (same_self bytes) in
    rw x

steady-run : (most : ℕ) (bytes : List ℕ) (room : ℕ) → refusal bytes room ≡ 0 → (fold_bytes bytes room).result ≡ bytes → 1 ≤ most → Reached bytes room 1 (repeat_fold most bytes room)
steady-run most bytes room e same l = rw (steady_repeat most bytes room same l) (last-run bytes room e same)

-- The repeat, with D + 2 runs or more to make: a run with a fold takes a declarator, one without is followed by the last.
pub reach : (most : ℕ) (bytes : List ℕ) (room : ℕ) → refusal bytes room ≡ 0 → (header_of bytes).declarators + 2 ≤ most → Reached bytes room ((header_of bytes).declarators + 2) (repeat_fold most bytes room)
unfolding repeat_fold
reach zero bytes room e l = absurd (omega arith)
reach (suc most) bytes room e l = by (same_bytes (fold_bytes bytes room).result bytes) refl (fold_bytes bytes room).folds refl (λ k. reach most (fold_bytes bytes room).result room (accepted-again bytes room e) k)
  where
    result : List ℕ
    result = (fold_bytes bytes room).result

    by : (b : Bool) → same_bytes result bytes ≡ b → (folds : ℕ) → (fold_bytes bytes room).folds ≡ folds
        → ((header_of result).declarators + 2 ≤ most → Reached result room ((header_of result).declarators + 2) (repeat_fold most result room))
        → Reached bytes room ((header_of bytes).declarators + 2) (run_before (fold_bytes bytes room) (cond b (at_rest result) (repeat_fold most result room)))
    by true same folds z again = within bytes room e 1 _ _ (omega arith) (last-run bytes room e (same_true result bytes same))
    by false same zero z again =
        within bytes room e 2 _ _ (omega arith)
        (run-before bytes room e 1 (repeat_fold most result room) (steady-run most result room (accepted-again bytes room e) (still_bytes bytes room e z) (omega arith)))
    by false same (suc n) z again =
        let d = declarators-taken bytes room e in
        within bytes room e (suc ((header_of result).declarators + 2)) _ _ (omega (arith, d, z))
        (run-before bytes room e ((header_of result).declarators + 2) (repeat_fold most result room) (again (omega (arith, d, z))))
