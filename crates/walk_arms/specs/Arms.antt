-- The arms of the code: its shapes and plans, as those of the rules, and the rules on a node by what the code knows of it.
use Rattle.std.specs.Prelude.{Bool, true, false, ◌≡◌}
use Rattle.records.specs.Tree.{Tree, Trees, node_of}
use Rattle.records.specs.File.{first_tree}
use Rattle.records.specs.Place.{root}
use Rattle.records.specs.declared.layout.NodeRecord.{NodeRecord}
use Rattle.walk_rules.specs.Context.{Context}
use Rattle.walk_rules.specs.Shape.{never, skips, cuts, picks, Shape as RuleShape, constant, identifier, target_name, leaf, chain, import, delete, sequence, property, stopping, assignment, steps}
use Rattle.walk_rules.specs.Effect.{has_effect, may_have_side_effects, any_has_side_effects}
use Rattle.walk_rules.specs.Substitute.{Plan as RulePlan, all, first, nothing, test, branches, plan, keeps_callee, keeps_indirect, can_reorder, stops_at_target, may_pass}
use Rattle.walk_arms.specs.declared.arms.Shape.{Shape}
use Rattle.walk_arms.specs.declared.arms.Shape.TheVariants.{Constant, Identifier, TargetName, Leaf, Chain, Import, Delete, Sequence, Property, Stopping, Assignment, CompoundAssignment, Logical, Conditional, Optional, Steps}
use Rattle.walk_arms.specs.declared.arms.Plan.{Plan}
use Rattle.walk_arms.specs.declared.arms.Plan.TheVariants.{All, First, Nothing, Test, Branches}
use Rattle.walk_arms.specs.declared.replacement.Replacement.{Replacement}
use Rattle.walk_arms.specs.Described.{Describes}

-- a shape
abbrev pub shaped : Shape → RuleShape
shaped Constant = constant
shaped Identifier = identifier
shaped TargetName = target_name
shaped Leaf = leaf
shaped Chain = chain
shaped Import = import
shaped Delete = delete
shaped Sequence = sequence
shaped Property = property
shaped Stopping = stopping
shaped Assignment = assignment false
shaped CompoundAssignment = assignment true
shaped Logical = steps skips
shaped Conditional = steps picks
shaped Optional = steps cuts
shaped Steps = steps never

abbrev pub is_assignment : Shape → Bool
is_assignment Constant = false
is_assignment Identifier = false
is_assignment TargetName = false
is_assignment Leaf = false
is_assignment Chain = false
is_assignment Import = false
is_assignment Delete = false
is_assignment Sequence = false
is_assignment Property = false
is_assignment Stopping = false
is_assignment Assignment = true
is_assignment CompoundAssignment = true
is_assignment Logical = false
is_assignment Conditional = false
is_assignment Optional = false
is_assignment Steps = false

abbrev pub is_compound_assignment : Shape → Bool
is_compound_assignment Constant = false
is_compound_assignment Identifier = false
is_compound_assignment TargetName = false
is_compound_assignment Leaf = false
is_compound_assignment Chain = false
is_compound_assignment Import = false
is_compound_assignment Delete = false
is_compound_assignment Sequence = false
is_compound_assignment Property = false
is_compound_assignment Stopping = false
is_compound_assignment Assignment = false
is_compound_assignment CompoundAssignment = true
is_compound_assignment Logical = false
is_compound_assignment Conditional = false
is_compound_assignment Optional = false
is_compound_assignment Steps = false

-- A plan. Where the first child is passed before (an assignment's target) or found at once (a tag), none is needed.
abbrev pub planned : Plan → RulePlan
planned All = all
planned First = first
planned Nothing = nothing
planned Test = test
planned Branches = branches

abbrev pub is_all : Plan → Bool
is_all All = true
is_all First = false
is_all Nothing = false
is_all Test = false
is_all Branches = false

abbrev pub is_nothing : Plan → Bool
is_nothing All = false
is_nothing First = false
is_nothing Nothing = true
is_nothing Test = false
is_nothing Branches = false

abbrev pub is_branches : Plan → Bool
is_branches All = false
is_branches First = false
is_branches Nothing = false
is_branches Test = false
is_branches Branches = true

-- `keeps_callee` and `keeps_indirect`, by what the code knows: a node, the root of its first child, and the tree to place
abbrev pub KeepsCallee : NodeRecord → NodeRecord → Replacement → Bool → Type 0
KeepsCallee n child known r =
    (replacement : Tree) → Describes known replacement → (kids : Trees) → root (first_tree kids) ≡ node_of child
    → r ≡ keeps_callee replacement (node_of n) kids

abbrev pub KeepsIndirect : NodeRecord → NodeRecord → Replacement → Bool → Type 0
KeepsIndirect n child known r =
    (replacement : Tree) → Describes known replacement → (kids : Trees) → root (first_tree kids) ≡ node_of child
    → r ≡ keeps_indirect known.name.0 replacement (node_of n) kids

-- the plan of a node that is no assignment and keeps no tag indirect
abbrev pub PlansFor : Shape → NodeRecord → NodeRecord → Replacement → Plan → Type 0
PlansFor shape n child known r =
    (ctx : Context) (replacement : Tree) → Describes known replacement → (kids : Trees) → root (first_tree kids) ≡ node_of child
    → is_assignment shape ≡ false → keeps_indirect known.name.0 replacement (node_of n) kids ≡ false
    → planned r ≡ plan ctx known.name.0 replacement (shaped shape) (node_of n) kids

-- `can_reorder`, by what is known of the tree to place, and whether the other one has an effect
abbrev pub Reorders : Replacement → Bool → Bool → Type 0
Reorders known effect r =
    (replacement t : Tree) → Describes known replacement → effect ≡ may_have_side_effects t → r ≡ can_reorder replacement t

-- whether a target ends the search; what is no assignment has none
abbrev pub stops_in : Context → Tree → RuleShape → Trees → Bool
stops_in ctx replacement constant kids = false
stops_in ctx replacement identifier kids = false
stops_in ctx replacement target_name kids = false
stops_in ctx replacement leaf kids = false
stops_in ctx replacement chain kids = false
stops_in ctx replacement import kids = false
stops_in ctx replacement delete kids = false
stops_in ctx replacement sequence kids = false
stops_in ctx replacement property kids = false
stops_in ctx replacement stopping kids = false
stops_in ctx replacement (assignment isCompound) kids = stops_at_target ctx replacement isCompound (first_tree kids)
stops_in ctx replacement (steps choice) kids = false

-- `may_pass`, by whether the node itself and its children have an effect, and whether a target ends the search
abbrev pub MayPass : Context → Shape → NodeRecord → Replacement → (own children stops : Bool) → Bool → Type 0
MayPass ctx shape n known own children stops r =
    (replacement : Tree) → Describes known replacement → (kids : Trees) → own ≡ has_effect (node_of n)
    → children ≡ any_has_side_effects kids
    → stops ≡ stops_in ctx replacement (shaped shape) kids
    → r ≡ may_pass ctx known.name.0 replacement (shaped shape) (node_of n) kids
