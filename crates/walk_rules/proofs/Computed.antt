-- The definitions that compute where `computed` is unfolded.
use Rattle.records.specs.Records.{every_from}
use Rattle.records.specs.Tree.{others}
use Rattle.records.specs.File.{first_tree}
use Rattle.records.specs.Place.{is_expression}
use Rattle.walk_rules.specs.Context.{facts_of}
use Rattle.walk_rules.specs.Unsettled.{scope_of, climb, read_crosses_function_boundary, is_closed_over_block_scoped_read, is_written, symbol_value_may_change, unsettled}
use Rattle.walk_rules.specs.This.{has_owner, frames_from_owner, is_initialised_at, this_blocks}
use Rattle.walk_rules.specs.Shape.{shape, cleared}
use Rattle.walk_rules.specs.Effect.{has_effect, may_have_side_effects, is_literal_value}
use Rattle.walk_rules.specs.Target.{member_part_blocks_reorder, computed_key_blocks_reorder, may_depend_on_side_effect}
use Rattle.walk_rules.specs.Substitute.{next, at, preserve_indirect_access, as_tag, in_order, in_branches, by_plan, of_node, is_specific_id, keeps_callee, is_member_tag, keeps_indirect, can_reorder, stops_at_target, may_pass, plan_for, plan, substitute_in_expression}
use Rattle.walk_rules.specs.Looks.{own_looks, enters_first, is_replaced, is_passed, goes_on, looks_in_expression}

unfoldable pub computed : Unit {0}
unfolding every_from others first_tree is_expression facts_of
    scope_of climb read_crosses_function_boundary is_closed_over_block_scoped_read is_written symbol_value_may_change unsettled
    has_owner frames_from_owner is_initialised_at this_blocks shape cleared has_effect may_have_side_effects is_literal_value
    member_part_blocks_reorder computed_key_blocks_reorder may_depend_on_side_effect
    next at preserve_indirect_access as_tag in_order in_branches by_plan of_node is_specific_id keeps_callee is_member_tag keeps_indirect
    can_reorder stops_at_target may_pass plan_for plan substitute_in_expression
    own_looks enters_first is_replaced is_passed goes_on looks_in_expression
computed = tt
