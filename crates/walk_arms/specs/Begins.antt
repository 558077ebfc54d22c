-- Where the search of a node's children begins: behind an assignment's target, else at the first child.
use Rattle.std.specs.Prelude.{ℕ, ◌+◌, Bool, false, cond, List, ◌≡◌}
use Rattle.records.specs.Tree.{Node, Tree, Trees, node, count, sizes, joined}
use Rattle.records.specs.File.{first_tree}
use Rattle.records_table.specs.Laid.{At, TreeAt}
use Rattle.walk_rules.specs.Context.{Context}
use Rattle.walk_rules.specs.Shape.{shape}
use Rattle.walk_rules.specs.Effect.{may_have_side_effects, any_has_side_effects}
use Rattle.walk_rules.specs.Substitute.{Answer as RuleAnswer, replaced, stopped, passed, Plan as RulePlan, all, nothing, plan, keeps_indirect, stops_at_target, substitute_in_children}
use Rattle.walk_rules.specs.Looks.{looks_in_children}
use Rattle.walk_arms.specs.declared.replacement.Replacement.{Replacement}
use Rattle.walk_arms.specs.declared.arms.Begun.{Begun}
use Rattle.walk_arms.specs.Arms.{shaped, planned, stops_in}
use Rattle.walk_arms.specs.Described.{Describes}

-- whether the first of the trees at a place, as a target, ends the search
abbrev pub StopsAt : Context → List ℕ → ℕ → ℕ → Replacement → Bool → Bool → Bool → Type 0
StopsAt ctx table at many known isCompound effect r =
    (replacement : Tree) → Describes known replacement → (pre : List ℕ) (ts : Trees) (rest : List ℕ) → At table at ts pre rest
    → count ts ≡ many
    → effect ≡ may_have_side_effects (first_tree ts)
    → r ≡ stops_at_target ctx replacement isCompound (first_tree ts)

-- the plan behind a target
abbrev pub plan_of_value : Bool → RulePlan
plan_of_value stops = cond stops nothing all

-- the rules' answer on a forest whose first trees are passed, by that on the others
abbrev pub behind_forest : Trees → RuleAnswer Trees → RuleAnswer Trees
behind_forest before (replaced ts) = replaced (joined before ts)
behind_forest before (stopped ts) = stopped (joined before ts)
behind_forest before passed = passed

-- The children are those that are passed before, and those that are left: the rules' answer on all of them, and their looks,
-- are those on the ones that are left, by the plan for these.
pub record Begins
    (ctx : Context) (at : ℕ) (known : Replacement) (g : Begun) (replacement : Tree) (n : Node) (kids before left : Trees)
    : Type 0 where
  pub shape_is : shaped g.shape ≡ shape n
  pub stops-is : g.stops ≡ stops_in ctx replacement (shape n) kids
  pub indirect_is : g.indirect ≡ keeps_indirect known.name.0 replacement n kids
  pub whole : kids ≡ joined before left
  pub next-is : g.next.0 ≡ at + 1 + sizes before
  pub many : g.trees ≡ count left
  pub effect_is : g.effect ≡ any_has_side_effects before
  pub rule : g.indirect ≡ false
      → substitute_in_children ctx known.name.0 replacement (plan ctx known.name.0 replacement (shape n) n kids) kids
      ≡ behind_forest before (substitute_in_children ctx known.name.0 replacement (planned g.plan) left)
  pub looks : g.indirect ≡ false
      → looks_in_children ctx known.name.0 replacement (plan ctx known.name.0 replacement (shape n) n kids) kids
      ≡ looks_in_children ctx known.name.0 replacement (planned g.plan) left

-- so it is of the tree that stands at a place
abbrev pub BeginsAt : Context → List ℕ → ℕ → Replacement → Begun → Type 0
BeginsAt ctx table at known g =
    (replacement : Tree) → Describes known replacement → (pre : List ℕ) (n : Node) (kids : Trees) (rest : List ℕ)
    → TreeAt table at (node n kids) pre rest
    → (before : Trees) × (left : Trees) × Begins ctx at known g replacement n kids before left
