-- What a search knows of the tree that is to be placed, the Rust's `replacement`.
use Rattle.std.specs.Prelude.{true, ◌||◌, ◌≡◌}
use Rattle.records.specs.Tree.{Tree}
use Rattle.records.specs.Place.{root}
use Rattle.walk_rules.specs.Shape.{is, is_member_expression}
use Rattle.walk_rules.specs.Effect.{may_have_side_effects, is_literal_value}
use Rattle.walk_rules.specs.Substitute.{is_member_tag}
use Rattle.walk_arms.specs.declared.replacement.Replacement.{Replacement}

pub record Describes (known : Replacement) (replacement : Tree) : Type 0 where
  pub effect : known.effect ≡ may_have_side_effects replacement
  pub literal : known.literal ≡ is_literal_value true replacement
  pub member_or_chain : known.member_or_chain ≡ (is_member_expression (root replacement) || is 13 (root replacement))
  pub member-tag : known.member_tag ≡ is_member_tag replacement

-- of some tree
abbrev pub IsDescription : Replacement → Type 0
IsDescription known = (replacement : Tree) × Describes known replacement
