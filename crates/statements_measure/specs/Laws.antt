-- What holds of measuring, of any bytes.
use Rattle.std.specs.Prelude.{ℕ, ◌+◌, ◌*◌, ◌≤◌, List, ◌≡◌}
use Rattle.records.specs.Limits.{max_nodes}
use Rattle.records.specs.Record.{header_of}
use Rattle.records.specs.Refusal.{room_wanted}
use Rattle.statements_rules.specs.Fold.{fold_bytes}
use Rattle.statements_measure.specs.Measure.{measure_bytes}

pub record MeasureLaws (file : List ℕ) : Type 0 where
  -- "It refuses as folding does, except that 11 cannot occur here": in every room the number is the fold's, unless that is 11;
  -- then it is 0.
  pub refuses : (room : ℕ) → ((fold_bytes file room).number ≡ 11 → ⊥) → (measure_bytes file).number ≡ (fold_bytes file room).number
  pub short-room : (room : ℕ) → (fold_bytes file room).number ≡ 11 → (measure_bytes file).number ≡ 0
  -- a file that is measured is folded in every room that is long enough for row 11
  pub folded : (measure_bytes file).number ≡ 0 → (room : ℕ) → room_wanted file ≤ room → (fold_bytes file room).number ≡ 0
  -- "The length must equal what folding then returns", in every room in which the file is folded.
  pub same_length : (room : ℕ) → (fold_bytes file room).number ≡ 0 → (measure_bytes file).result_length ≡ (fold_bytes file room).result_length
  -- "looks never exceed (T + 2D) × 3,000", which is `max_nodes`
  pub looks : (measure_bytes file).looks ≤ ((header_of file).statements + 2 * (header_of file).declarators) * max_nodes
