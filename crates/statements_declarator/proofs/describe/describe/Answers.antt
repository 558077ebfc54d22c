use Rattle.records_table.proofs.Laid.{stands-room}
use Rattle.statements_declarator.proofs.Describing.{described}
use Rattle.statements_declarator.proofs.describe.describe.Goals as goal

pub work_node-n-requires : goal.work_node-n-requires
work_node-n-requires c = record { node = stands-room c.requires.tree }

pub returns : goal.returns
returns c = record { described = rw c.is_literal_value.ensures.result (described c.first_child-child.result c.work_node-n.ensures.result c.first_child-child.ensures.result c.may_have_side_effects-effect.ensures.result c.is_member_expression-member.ensures.result c.is_member_expression.ensures.result c.args.name) }
