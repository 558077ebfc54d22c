use native.Mathlib.Omega.{arith}
use borrow.Author.Tests.{ne_eqb}
use mathlib.Core.Path.{refl}
use Rattle.walk_arms.proofs.Targets.{depends_name, depends_object, depends_key, depends_member, depends_other}
use Rattle.walk_arms.proofs.arms.may_depend_on_side_effect.Goals as goal

pub returns-in-29 : goal.returns-in-29
returns-in-29 c = record { result = depends_name _ c.args.target.now.read (rw c.in-29.is refl) }

pub returns-then-member_part_blocks_reorder : goal.returns-then-member_part_blocks_reorder
returns-then-member_part_blocks_reorder c = record { result = depends_object _ c.args.target.now.read (rw c.in-12.is refl) (rw c.in-12.is refl) c.first_child.result c.first_child.ensures.result c.member_part_blocks_reorder.ensures.result c.if-member_part_blocks_reorder.true }

pub returns-else-member_part_blocks_reorder : goal.returns-else-member_part_blocks_reorder
returns-else-member_part_blocks_reorder c = record { result = depends_key _ c.args.target.now.read (rw c.in-12.is refl) (rw c.in-12.is refl) c.first_child.result c.first_child.ensures.result c.member_part_blocks_reorder.ensures.result c.if-member_part_blocks_reorder.false c.second_child.result c.second_child.ensures.result c.computed_key_blocks_reorder.ensures.result }

pub returns-in-11 : goal.returns-in-11
returns-in-11 c =
    let kind = c.args.target.now.root.kind in
    record { result = depends_member _ c.args.target.now.read (ne_eqb kind 29 (omega arith)) (ne_eqb kind 12 (omega arith)) (grind (arith)) c.first_child-in-11.result c.first_child-in-11.ensures.result c.member_part_blocks_reorder-in-11.ensures.result }

pub returns-in_default : goal.returns-in_default
returns-in_default c =
    let kind = c.args.target.now.root.kind in
    record { result = depends_other _ c.args.target.now.read (ne_eqb kind 29 (omega arith)) (ne_eqb kind 12 (omega arith)) (rw (ne_eqb kind 11 (omega arith), ne_eqb kind 10 (omega arith)) refl) }

pub returns-in_default-2 : goal.returns-in_default-2
returns-in_default-2 c =
    let kind = c.args.target.now.root.kind in
    record { result = depends_other _ c.args.target.now.read (ne_eqb kind 29 (omega arith)) (ne_eqb kind 12 (omega arith)) (rw (ne_eqb kind 11 (omega arith), ne_eqb kind 10 (omega arith)) refl) }
