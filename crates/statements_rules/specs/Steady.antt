-- Document 02, (a): "a call that repeats the base fold until the bytes stay the same".
use Rattle.std.specs.Prelude.{ℕ, zero, suc, ◌+◌, Bool, true, false, cond, ◌&&◌, List, [], ◌∷◌, length, eqb}
use Rattle.records.specs.Record.{header_of}
use Rattle.records.specs.Refusal.{refusal}
use Rattle.statements_rules.specs.Fold.{Returned, fold_bytes}

-- whether two lists of bytes are the same
unfoldable pub same_bytes : List ℕ → List ℕ → Bool
same_bytes [] [] = true
same_bytes [] (c ∷ cs) = false
same_bytes (b ∷ bs) [] = false
same_bytes (b ∷ bs) (c ∷ cs) = eqb b c && same_bytes bs cs

-- What is returned: the number of the table's row, 0 if none holds; the length of the last result; the declarators that all
-- runs folded; the runs, "the last unchanged one counted"; and the last result.
pub record Repeated : Type 0 where
  pub number : ℕ
  pub result_length : ℕ
  pub folds : ℕ
  pub runs : ℕ
  pub result : List ℕ

-- a refusal is the fold's, and there is no run
unfoldable pub refused_repeat : ℕ → Repeated
refused_repeat number = record { number = number; result_length = 0; folds = 0; runs = 0; result = [] }

-- no further run
unfoldable pub at_rest : List ℕ → Repeated
at_rest bs = record { number = 0; result_length = length bs; folds = 0; runs = 0; result = bs }

-- a run, and then others: "Folds are summed."
unfoldable pub run_before : Returned → Repeated → Repeated
run_before w v = record {
  number = v.number;
  result_length = v.result_length;
  folds = w.folds + v.folds;
  runs = suc v.runs;
  result = v.result;
}

-- the runs, so many at most, up to the first that leaves the bytes as they are
unfoldable pub repeat_fold : ℕ → List ℕ → ℕ → Repeated
repeat_fold zero bs room = at_rest bs
repeat_fold (suc most) bs room =
    let w = fold_bytes bs room in
    run_before w (cond (same_bytes w.result bs) (at_rest w.result) (repeat_fold most w.result room))

-- The repeat, of some bytes, with so much room for each result. "this takes at most D + 2 runs": so many are enough for the
-- bytes to stay the same, and more to make would make no difference (`theory_steady/proofs/Repeat.antt`: `result-steady`,
-- `more-runs`).
unfoldable pub steady_bytes : List ℕ → ℕ → Repeated
steady_bytes bs room =
    cond (eqb (refusal bs room) 0) (repeat_fold ((header_of bs).declarators + 2) bs room)
    (refused_repeat (refusal bs room))
