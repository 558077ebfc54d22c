-- The search of an expression for the one use of a name, to place the name's initializer there: the Rust's
-- `substitute_single_use_symbol_in_expression` (src/peephole/minimize_statements.rs 1272-1876) on trees. A spread, a
-- property and an elision, which the Rust treats where it goes through a list, are trees here.
use Rattle.std.specs.Prelude.{ℕ, Bool, true, false, cond, ◌&&◌, ◌||◌, not, eqb}
use Rattle.records.specs.Flags.{computed}
use Rattle.records.specs.Tree.{Node, Tree, Trees, node, none, more}
use Rattle.records.specs.File.{first_tree}
use Rattle.records.specs.Place.{root}
use Rattle.walk_rules.specs.Context.{Context}
use Rattle.walk_rules.specs.Unsettled.{unsettled}
use Rattle.walk_rules.specs.Shape.{is, is_member_expression, Choice, never, skips, cuts, picks, Shape, constant, identifier, target_name, leaf, chain, import, delete, sequence, property, stopping, assignment, steps, shape, cleared}
use Rattle.walk_rules.specs.Effect.{may_have_side_effects, any_has_side_effects, is_literal_value}
use Rattle.walk_rules.specs.Target.{may_depend_on_side_effect}

-- Some(true): replaced, and what the tree became. Some(false): not replaced, and the search ends; the tree differs at most in
-- its shorthands. None: not replaced, and the search goes on behind the tree, which is unchanged.
pub data Answer (A : Type 0) : Type 0 where
  replaced : A → Answer A
  stopped : A → Answer A
  passed : Answer A

-- Which children of a node are searched: each, until one gives an answer; the first alone; none; all but the first; the
-- test of a conditional, then its branches; the branches; each, where the first is a tag that must not become a member.
pub data Plan : Type 0 where
  all first nothing value test branches tag : Plan

-- the plan for the children behind the first
unfoldable pub next : Plan → Plan
next all = all
next first = nothing
next nothing = nothing
next value = all
next test = branches
next branches = all
next tag = all

-- "The folded root takes the position of the name it replaces."
unfoldable pub at : ℕ → Tree → Tree
at position (node n kids) = node (record { kind = n.kind; flags = n.flags; label = n.label; position = position }) kids

-- `preserve_indirect_access`: "The inserted `0` has label 65535, its sequence label 0; both have flags 0 and the tag's
-- position."
unfoldable pub preserve_indirect_access : Tree → Tree
preserve_indirect_access (node n kids) =
    node (record { kind = 28; flags = 0; label = 0; position = n.position })
    (more (node (record { kind = 1; flags = 0; label = 65535; position = n.position }) none) (more (node n kids) none))

-- a tag that was replaced stays indirect
unfoldable pub as_tag : Answer Tree → Answer Tree
as_tag (replaced t) = replaced (preserve_indirect_access t)
as_tag (stopped t) = stopped t
as_tag passed = passed

-- a child before others, by its answer and theirs: the first answer counts
unfoldable pub in_order : Tree → Trees → Answer Tree → Answer Trees → Answer Trees
in_order t ts (replaced t') b = replaced (more t' ts)
in_order t ts (stopped t') b = stopped (more t' ts)
in_order t ts passed (replaced ts') = replaced (more t ts')
in_order t ts passed (stopped ts') = stopped (more t ts')
in_order t ts passed passed = passed

-- a branch before the other one: "Side effects in one branch should not prevent the substitution into the other branch."
unfoldable pub in_branches : Tree → Trees → Answer Tree → Answer Trees → Answer Trees
in_branches t ts (replaced t') b = replaced (more t' ts)
in_branches t ts (stopped t') (replaced ts') = replaced (more t' ts')
in_branches t ts (stopped t') (stopped ts') = stopped (more t' ts')
in_branches t ts (stopped t') passed = stopped (more t' ts)
in_branches t ts passed b = in_order t ts passed b

-- a child before others, as the plan has it
unfoldable pub by_plan : Plan → Tree → Trees → Answer Tree → Answer Trees → Answer Trees
by_plan all t ts a b = in_order t ts a b
by_plan first t ts a b = in_order t ts a b
by_plan nothing t ts a b = passed
by_plan value t ts a b = in_order t ts passed b
by_plan test t ts a b = in_order t ts a b
by_plan branches t ts a b = in_branches t ts a b
by_plan tag t ts a b = in_order t ts (as_tag a) b

-- a node, by the answer of its children; where they are passed, by whether it may be
unfoldable pub of_node : Node → Trees → Bool → Answer Trees → Answer Tree
of_node n kids pass (replaced kids') = replaced (node (cleared n) kids')
of_node n kids pass (stopped kids') = stopped (node (cleared n) kids')
of_node n kids pass passed = cond pass passed (stopped (node n kids))

-- `is_specific_id`
unfoldable pub is_specific_id : ℕ → Node → Bool
is_specific_id name n = is 4 n && eqb n.label name

-- a call or a `new` of a plain name, and a member or a chain to place: "Don't substitute something into a call target that
-- could change `this`"
unfoldable pub keeps_callee : Tree → Node → Trees → Bool
keeps_callee replacement n kids =
    (is 14 n || is 15 n) && (is_member_expression (root replacement) || is 13 (root replacement)) && is 4 (root (first_tree kids))

-- a member, or a chain over one: as a tag it would give the call its `this`
unfoldable pub is_member_tag : Tree → Bool
is_member_tag (node n kids) = is_member_expression n || is 13 n && is_member_expression (root (first_tree kids))

-- `keep_indirect`: the tag is the name that is searched for, and a member is to be placed
unfoldable pub keeps_indirect : ℕ → Tree → Node → Trees → Bool
keeps_indirect searchFor replacement n kids = is 24 n && is_specific_id searchFor (root (first_tree kids)) && is_member_tag replacement

-- "If both the replacement and this expression have no observable side effects, then we can reorder the replacement past
-- this expression"; "We can always reorder past literal values", here if the replacement is one
unfoldable pub can_reorder : Tree → Tree → Bool
can_reorder replacement t =
    not (may_have_side_effects replacement) && not (may_have_side_effects t) || is_literal_value true replacement

-- AssignmentExpression: its three tests, any of which ends the search at the target
unfoldable pub stops_at_target : Context → Tree → Bool → Tree → Bool
stops_at_target ctx replacement isCompound target =
    may_have_side_effects target
    || isCompound && may_have_side_effects replacement
    || may_have_side_effects replacement && may_depend_on_side_effect ctx target

module _ (ctx : Context) (searchFor : ℕ) (replacement : Tree) where
  -- "Do not substitute our unconditionally-executed value into a branch unless the value itself has no side effects"
  unfoldable pub plan_for : Choice → Node → Trees → Plan
  plan_for never n kids = cond (keeps_indirect searchFor replacement n kids) tag all
  plan_for skips n kids = cond (may_have_side_effects replacement) first all
  plan_for cuts n kids = cond (may_have_side_effects replacement) first all
  plan_for picks n kids = cond (may_have_side_effects replacement) first test

  -- Which children of a node are searched.
  unfoldable pub plan : Shape → Node → Trees → Plan
  plan constant n kids = nothing
  plan identifier n kids = nothing
  plan target_name n kids = nothing
  plan leaf n kids = nothing
  plan chain n kids = all
  plan import n kids = all
  plan delete n kids = nothing
  plan sequence n kids = all
  -- the value; where the key is computed it is the string `__proto__`, which has no node
  plan property n kids = cond (computed n.flags) nothing all
  -- a spread's argument, a computed key
  plan stopping n kids = first
  plan (assignment isCompound) n kids = cond (stops_at_target ctx replacement isCompound (first_tree kids)) nothing value
  plan (steps choice) n kids = cond (keeps_callee replacement n kids) nothing (plan_for choice n kids)

  -- Whether the search goes on behind a node whose searched children are passed.
  unfoldable pub may_pass : Shape → Node → Trees → Bool
  -- "We can always reorder past literal values", here if the tree is one; an elision is no expression
  may_pass constant n kids = true
  may_pass identifier n kids = not (unsettled ctx n.label) || can_reorder replacement (node n kids)
  may_pass target_name n kids = can_reorder replacement (node n kids)
  may_pass leaf n kids = can_reorder replacement (node n kids)
  -- its child's answer is its own
  may_pass chain n kids = true
  -- "it's ok to reorder the replacement value past the import() expression assuming everything else checks out"
  may_pass import n kids =
      not (may_have_side_effects replacement) && not (any_has_side_effects kids) || can_reorder replacement (node n kids)
  may_pass delete n kids = can_reorder replacement (node n kids)
  may_pass sequence n kids = can_reorder replacement (node n kids)
  -- "Stop now because computed keys have side effects"
  may_pass property n kids = not (computed n.flags)
  -- the same, and "spread element may have sideeffects"
  may_pass stopping n kids = false
  may_pass (assignment isCompound) n kids =
      not (stops_at_target ctx replacement isCompound (first_tree kids)) && can_reorder replacement (node n kids)
  may_pass (steps choice) n kids = can_reorder replacement (node n kids)

  unfoldable mutual
    pub substitute_in_expression : Tree → Answer Tree
    substitute_in_expression (node n kids) =
        cond (is_specific_id searchFor n) (replaced (at n.position replacement))
        (of_node n kids (may_pass (shape n) n kids) (substitute_in_children (plan (shape n) n kids) kids))

    pub substitute_in_children : Plan → Trees → Answer Trees
    substitute_in_children p none = passed
    substitute_in_children p (more t ts) = by_plan p t ts (substitute_in_expression t) (substitute_in_children (next p) ts)
