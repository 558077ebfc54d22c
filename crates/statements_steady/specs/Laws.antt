-- What holds of the repeat, of any file and any room.
use Rattle.std.specs.Prelude.{ℕ, ◌+◌, ◌≤◌, List, ◌≡◌}
use Rattle.records.specs.Record.{header_of}
use Rattle.records.specs.Refusal.{refusal}
use Rattle.statements_rules.specs.Fold.{fold_bytes}
use Rattle.statements_rules.specs.Steady.{repeat_fold, steady_bytes}

pub record SteadyLaws (file : List ℕ) (room : ℕ) : Type 0 where
  -- "this takes at most D + 2 runs, the last unchanged one counted"; so many are enough: with more to make it is the same
  pub runs : (steady_bytes file room).runs ≤ (header_of file).declarators + 2
  pub enough : refusal file room ≡ 0 → (most : ℕ) → (header_of file).declarators + 2 ≤ most
      → repeat_fold most file room ≡ steady_bytes file room
  -- "folding its result changes nothing"
  pub steady : refusal file room ≡ 0 → (fold_bytes (steady_bytes file room).result room).result ≡ (steady_bytes file room).result
  -- the result is accepted with the same room
  pub accepted : refusal file room ≡ 0 → refusal (steady_bytes file room).result room ≡ 0
