-- What the code says of an assignment's target.
use Rattle.std.specs.Prelude.{ℕ, Bool, List, ◌≡◌}
use Rattle.records.specs.Tree.{Tree}
use Rattle.records_table.specs.Laid.{TreeAt}
use Rattle.walk_rules.specs.Context.{Context}
use Rattle.walk_rules.specs.Target.{may_depend_on_side_effect}

-- whether the tree that stands at a place depends, as a target, on what the value does
abbrev pub DependsOnSideEffect : Context → List ℕ → ℕ → Bool → Type 0
DependsOnSideEffect ctx table at r =
    (pre : List ℕ) (t : Tree) (rest : List ℕ) → TreeAt table at t pre rest → r ≡ may_depend_on_side_effect ctx t
