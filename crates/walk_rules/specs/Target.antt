-- Which targets of an assignment depend on what an initializer does that is placed in the assignment's value
-- (src/peephole/mod.rs 248-290; `may_depend_on_side_effect`, src/peephole/minimize_statements.rs 1433-1454).
use Rattle.std.specs.Prelude.{Bool, true, false, cond, ◌&&◌, ◌||◌, not}
use Rattle.records.specs.Tree.{Tree, node, others}
use Rattle.records.specs.File.{first_tree}
use Rattle.walk_rules.specs.Context.{Context}
use Rattle.walk_rules.specs.Unsettled.{unsettled}
use Rattle.walk_rules.specs.This.{this_blocks}
use Rattle.walk_rules.specs.Shape.{is}
use Rattle.walk_rules.specs.Effect.{is_literal_value}

-- `member_part_blocks_reorder`
unfoldable pub member_part_blocks_reorder : Context → Tree → Bool
member_part_blocks_reorder ctx (node n kids) =
    cond (is 4 n) (unsettled ctx n.label)
    (cond (is 5 n) (this_blocks ctx.this_scope ctx.frames n.position)
    true)

-- `computed_key_blocks_reorder`
unfoldable pub computed_key_blocks_reorder : Context → Tree → Bool
computed_key_blocks_reorder ctx key = not (is_literal_value false key) && member_part_blocks_reorder ctx key

-- `may_depend_on_side_effect`
unfoldable pub may_depend_on_side_effect : Context → Tree → Bool
may_depend_on_side_effect ctx (node n kids) =
    cond (is 29 n) false
    (cond (is 12 n) (member_part_blocks_reorder ctx (first_tree kids) || computed_key_blocks_reorder ctx (first_tree (others 1 kids)))
    (cond (is 11 n || is 10 n) (member_part_blocks_reorder ctx (first_tree kids))
    true))
