-- The trees of the work table that are passed without a search.
use Rattle.std.specs.Prelude.{ℕ, ◌+◌, Bool, List, ◌≡◌}
use Rattle.records.specs.Tree.{Trees, count, sizes}
use Rattle.records_table.specs.Laid.{At}
use Rattle.walk_rules.specs.Effect.{any_has_side_effects}

-- where a forest of so many trees ends, and whether one of them has an effect
abbrev pub Passes : List ℕ → ℕ → ℕ → ℕ → Bool → Type 0
Passes table at many next effect =
    (pre : List ℕ) (ts : Trees) (rest : List ℕ) → At table at ts pre rest → count ts ≡ many
    → (next ≡ at + sizes ts) × (effect ≡ any_has_side_effects ts)
