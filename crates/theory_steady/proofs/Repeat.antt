-- The repeat of the fold: at most D + 2 runs, and the fold of its result is the result. Assumes nothing.
use Prim.Native.Nat.{ℕ, zero, suc, ◌+◌, ◌≤◌}
use native.Mathlib.Omega.{arith}
use mathlib.Core.Bool.{false, cond}
use mathlib.Core.List.{List}
use mathlib.Core.Path.{◌≡◌, refl, sym, ap, ◌∙◌}
use lib.Dec.{eqb}
use Rattle.records.specs.Record.{header_of}
use Rattle.records.specs.File.{read}
use Rattle.records.specs.Refusal.{refusal}
use Rattle.statements_rules.specs.Fold.{fold_file, fold_bytes}
use Rattle.theory_demands.proofs.Laws.{result-reads, accepted-again, declarators-taken}
use Rattle.statements_rules.specs.Steady.{same_bytes, at_rest, run_before, repeat_fold, refused_repeat, steady_bytes}
use Rattle.theory_steady.proofs.Reach.{still_bytes, file_after, Reached, steady_repeat, reach}

-- How many more could be made doesn't matter.
pub same_repeat : (most most' : ℕ) (bytes : List ℕ) (room : ℕ) → refusal bytes room ≡ 0 → (header_of bytes).declarators + 2 ≤ most → (header_of bytes).declarators + 2 ≤ most' → repeat_fold most bytes room ≡ repeat_fold most' bytes room
unfolding repeat_fold
same_repeat zero most' bytes room e l l' = absurd (omega arith)
same_repeat (suc most) zero bytes room e l l' = absurd (omega arith)
same_repeat (suc most) (suc most') bytes room e l l' =
    ap (λ v. run_before (fold_bytes bytes room) (cond (same_bytes result bytes) (at_rest result) v)) (by (fold_bytes bytes room).folds refl (λ k k'. same_repeat most most' result room (accepted-again bytes room e) k k'))
  where
    result : List ℕ
    result = (fold_bytes bytes room).result

    by : (folds : ℕ) → (fold_bytes bytes room).folds ≡ folds → ((header_of result).declarators + 2 ≤ most → (header_of result).declarators + 2 ≤ most' → repeat_fold most result room ≡ repeat_fold most' result room) → repeat_fold most result room ≡ repeat_fold most' result room
    by zero z again = steady_repeat most result room (still_bytes bytes room e z) (omega arith) ∙ sym (steady_repeat most' result room (still_bytes bytes room e z) (omega arith))
    by (suc n) z again = let d = declarators-taken bytes room e in again (omega (arith, d, z)) (omega (arith, d, z))

-- The laws of the repeat, of any accepted bytes.
module _ (bytes : List ℕ) (room : ℕ) (e : refusal bytes room ≡ 0) where
  -- what is returned
  pub until_steady : steady_bytes bytes room ≡ repeat_fold ((header_of bytes).declarators + 2) bytes room
  unfolding steady_bytes
  until_steady = rw e

  pub reached : Reached bytes room ((header_of bytes).declarators + 2) (steady_bytes bytes room)
  reached = rw until_steady (reach ((header_of bytes).declarators + 2) bytes room e (omega arith))

  -- "this takes at most D + 2 runs": that there are no more is how the repeat is defined; that so many are enough, the last
  -- unchanged one counted, is `last-unchanged` and `more-runs`
  pub runs-most : (steady_bytes bytes room).runs ≤ (header_of bytes).declarators + 2
  runs-most = reached.runs

  -- "the last unchanged one counted"
  pub last-unchanged : (n : ℕ) → (steady_bytes bytes room).runs ≡ suc n → file_after n (read bytes) ≡ read (steady_bytes bytes room).result
  last-unchanged = reached.unchanged

  -- "and that folding its result changes nothing"
  pub result-steady : (fold_bytes (steady_bytes bytes room).result room).result ≡ (steady_bytes bytes room).result
  result-steady = reached.steady

  -- nor does the fold of the file that the result is read as
  pub file-steady : (fold_file (read (steady_bytes bytes room).result)).file ≡ read (steady_bytes bytes room).result
  file-steady = sym (result-reads (steady_bytes bytes room).result room reached.accepted) ∙ ap read result-steady

  -- the bound cuts nothing short: with more runs to make it is the same
  pub more-runs : (most : ℕ) → (header_of bytes).declarators + 2 ≤ most → repeat_fold most bytes room ≡ steady_bytes bytes room
  more-runs most l = same_repeat most ((header_of bytes).declarators + 2) bytes room e l (omega arith) ∙ sym until_steady

  -- The repeat is a run and then, unless that left the bytes as they are, the repeat of what it left.
  pub by_runs : steady_bytes bytes room ≡ run_before (fold_bytes bytes room) (cond (same_bytes (fold_bytes bytes room).result bytes) (at_rest (fold_bytes bytes room).result) (steady_bytes (fold_bytes bytes room).result room))
  by_runs =
      let d = declarators-taken bytes room e in
      let result = (fold_bytes bytes room).result in
      sym (more-runs (suc ((header_of bytes).declarators + 2)) (omega arith))
      ∙ first_run
      ∙ ap (λ v. run_before (fold_bytes bytes room) (cond (same_bytes result bytes) (at_rest result) v))
      (same_repeat ((header_of bytes).declarators + 2) ((header_of result).declarators + 2) result room (accepted-again bytes room e) (omega (arith, d)) (omega arith)
      ∙ sym (unfold steady_bytes in rw (accepted-again bytes room e)))
    where
      first_run : repeat_fold (suc ((header_of bytes).declarators + 2)) bytes room ≡ run_before (fold_bytes bytes room) (cond (same_bytes (fold_bytes bytes room).result bytes) (at_rest (fold_bytes bytes room).result) (repeat_fold ((header_of bytes).declarators + 2) (fold_bytes bytes room).result room))
      first_run = unfold repeat_fold in refl

-- a refusal is the table's
pub until_refused : (bytes : List ℕ) (room : ℕ) → eqb (refusal bytes room) 0 ≡ false → steady_bytes bytes room ≡ refused_repeat (refusal bytes room)
unfolding steady_bytes
until_refused bytes room e = rw e
