-- The two questions that the crate leaves to other crates, `may_have_side_effects` and `is_literal_value`
-- (src/peephole/minimize_statements.rs 1865-1872): "a node has an effect if marked, of kind 6, 7, 8 or 20, or if a child has
-- one; kind 1 is literal, kind 2 too where functions count".
use Rattle.std.specs.Prelude.{Bool, false, ◌&&◌, ◌||◌}
use Rattle.records.specs.Flags.{marked}
use Rattle.records.specs.Tree.{Node, Tree, Trees, node, none, more}
use Rattle.walk_rules.specs.Shape.{is}

-- the node's own effect
unfoldable pub has_effect : Node → Bool
has_effect n = marked n.flags || is 6 n || is 7 n || is 8 n || is 20 n

-- `may_have_side_effects`
unfoldable mutual
  pub may_have_side_effects : Tree → Bool
  may_have_side_effects (node n kids) = has_effect n || any_has_side_effects kids

  pub any_has_side_effects : Trees → Bool
  any_has_side_effects none = false
  any_has_side_effects (more t ts) = may_have_side_effects t || any_has_side_effects ts

-- `is_literal_value`
unfoldable pub is_literal_value : Bool → Tree → Bool
is_literal_value includeFunctions (node n kids) = is 1 n || includeFunctions && is 2 n
