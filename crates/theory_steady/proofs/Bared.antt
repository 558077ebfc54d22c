-- Trees that are the same but for shorthands that were cleared; no test of the search tells them apart.
use Prim.Native.Nat.{ℕ}
use mathlib.Core.Bool.{Bool, true, false, cond, ◌||◌}
use mathlib.Core.Path.{◌≡◌, refl, sym, ap, ap₂, ◌∙◌}
use borrow.Author.Tests.{eqb-true}
use Rattle.records.specs.Flags.{marked, shorthand}
use Rattle.records.specs.Tree.{Node, Tree, Trees, node, none, more, others}
use Rattle.records.specs.File.{first_tree}
use Rattle.records.specs.Place.{root}
use Rattle.walk_rules.specs.Context.{Context}
use Rattle.walk_rules.specs.Shape.{is, Choice, never, skips, cuts, picks, Shape, constant, identifier, target_name, leaf, chain, import, delete, sequence, property, stopping, assignment, steps, shape, cleared}
use Rattle.walk_rules.specs.Effect.{has_effect, may_have_side_effects, any_has_side_effects, is_literal_value}
use Rattle.walk_rules.specs.Target.{member_part_blocks_reorder, computed_key_blocks_reorder, may_depend_on_side_effect}
use Rattle.walk_rules.specs.Substitute.{is_specific_id, keeps_callee, keeps_indirect, stops_at_target, plan_for, plan}
use Rattle.theory_runs.specs.Form.{cleared as bare}
use Rattle.theory_preservation.proofs.Tables.{walked_cleared, cleared-once, marked-cleared, two_at}

-- a tree with every shorthand cleared
unfoldable mutual
  pub bared : Tree → Tree
  bared (node n kids) = node (cleared n) (all_bared kids)

  pub all_bared : Trees → Trees
  all_bared none = none
  all_bared (more t ts) = more (bared t) (all_bared ts)

-- the same but for cleared shorthands
abbrev pub Alike : Tree → Tree → Type 0
Alike t t' = bared t ≡ bared t'

-- a test that a cleared shorthand doesn't change is the same of forests that are alike
pub alike-tests : {A : Type 0} (test : Trees → A) → ((ts : Trees) → test (all_bared ts) ≡ test ts) → (ts ts' : Trees) → all_bared ts ≡ all_bared ts' → test ts ≡ test ts'
alike-tests test h ts ts' e = sym (h ts) ∙ ap test e ∙ h ts'

-- A node whose shorthand is cleared.
pub once : (n : Node) → cleared (cleared n) ≡ cleared n
once n = ap cleared (walked_cleared n) ∙ walked_cleared (bare n) ∙ cleared-once n ∙ sym (walked_cleared n)

effect-cleared : (n : Node) → has_effect (cleared n) ≡ has_effect n
unfolding has_effect
effect-cleared n =
    let e : marked (cleared n).flags ≡ marked n.flags = ap (λ (c : Node). marked c.flags) (walked_cleared n) ∙ marked-cleared n in
    rw e (unfold cleared in refl)

pub specific-cleared : (v : ℕ) (n : Node) → is_specific_id v (cleared n) ≡ is_specific_id v n
unfolding is_specific_id cleared
specific-cleared v n = refl

shape-bare : (n : Node) (b : Bool) → is 26 n ≡ b → shape (bare n) ≡ shape n
unfolding shape bare
shape-bare n true e = rw (eqb-true n.kind 26 e) (ap (λ b. cond b stopping property) (two_at (shorthand n.flags) n.flags refl))
shape-bare n false e = rw e

pub shape-cleared : (n : Node) → shape (cleared n) ≡ shape n
shape-cleared n = ap shape (walked_cleared n) ∙ shape-bare n (is 26 n) refl

-- The tests of a tree.
mutual
  unfolding bared may_have_side_effects

  pub effect-bared : (t : Tree) → may_have_side_effects (bared t) ≡ may_have_side_effects t
  effect-bared (node n ts) = ap₂ ◌||◌ (effect-cleared n) (effects-bared ts)

  pub effects-bared : (ts : Trees) → any_has_side_effects (all_bared ts) ≡ any_has_side_effects ts
  effects-bared none = refl
  effects-bared (more t ts) = ap₂ ◌||◌ (effect-bared t) (effects-bared ts)

pub literal-bared : (b : Bool) (t : Tree) → is_literal_value b (bared t) ≡ is_literal_value b t
unfolding is_literal_value bared cleared
literal-bared b (node n ts) = refl

pub kind-bared : (t : Tree) → (root (bared t)).kind ≡ (root t).kind
unfolding bared cleared
kind-bared (node n ts) = refl

pub label-bared : (t : Tree) → (root (bared t)).label ≡ (root t).label
unfolding bared cleared
label-bared (node n ts) = refl

pub first-bared : (ts : Trees) → first_tree (all_bared ts) ≡ bared (first_tree ts)
unfolding first_tree bared cleared
first-bared none = refl
first-bared (more t ts) = refl

second-bared : (ts : Trees) → first_tree (others 1 (all_bared ts)) ≡ bared (first_tree (others 1 ts))
unfolding others bared first_tree cleared
second-bared none = refl
second-bared (more t ts) = first-bared ts

part_bared : (ctx : Context) (t : Tree) → member_part_blocks_reorder ctx (bared t) ≡ member_part_blocks_reorder ctx t
unfolding member_part_blocks_reorder bared cleared
part_bared ctx (node n ts) = refl

key_bared : (ctx : Context) (t : Tree) → computed_key_blocks_reorder ctx (bared t) ≡ computed_key_blocks_reorder ctx t
unfolding computed_key_blocks_reorder
key_bared ctx t = rw (literal-bared false t, part_bared ctx t)

depends_bared : (ctx : Context) (t : Tree) → may_depend_on_side_effect ctx (bared t) ≡ may_depend_on_side_effect ctx t
unfolding may_depend_on_side_effect bared cleared
depends_bared ctx (node n ts) =
    rw (first-bared ts, second-bared ts, part_bared ctx (first_tree ts), key_bared ctx (first_tree (others 1 ts)))

-- The tests of a target, of children, and of a replacement.
target-bared : (ctx : Context) (r : Tree) (c : Bool) (t : Tree) → stops_at_target ctx r c (bared t) ≡ stops_at_target ctx r c t
unfolding stops_at_target
target-bared ctx r c t = rw (effect-bared t, depends_bared ctx t)

callee-bared : (r : Tree) (n : Node) (ts : Trees) → keeps_callee r n (all_bared ts) ≡ keeps_callee r n ts
unfolding keeps_callee
callee-bared r n ts = rw (first-bared ts, kind-bared (first_tree ts))

indirect_bared : (v : ℕ) (r : Tree) (n : Node) (ts : Trees) → keeps_indirect v r n (all_bared ts) ≡ keeps_indirect v r n ts
unfolding keeps_indirect is_specific_id
indirect_bared v r n ts = rw (first-bared ts, kind-bared (first_tree ts), label-bared (first_tree ts))

module _ (ctx : Context) (v : ℕ) (r : Tree) where
  choice-bared : (c : Choice) (n : Node) (ts : Trees) → plan_for ctx v r c n (all_bared ts) ≡ plan_for ctx v r c n ts
  unfolding plan_for
  choice-bared never n ts = rw (indirect_bared v r n ts)
  choice-bared skips n ts = refl
  choice-bared cuts n ts = refl
  choice-bared picks n ts = refl

  plan-bared : (sh : Shape) (n : Node) (ts : Trees) → plan ctx v r sh n (all_bared ts) ≡ plan ctx v r sh n ts
  unfolding plan
  plan-bared constant n ts = refl
  plan-bared identifier n ts = refl
  plan-bared target_name n ts = refl
  plan-bared leaf n ts = refl
  plan-bared chain n ts = refl
  plan-bared import n ts = refl
  plan-bared delete n ts = refl
  plan-bared sequence n ts = refl
  plan-bared property n ts = refl
  plan-bared stopping n ts = refl
  plan-bared (assignment c) n ts = rw (first-bared ts, target-bared ctx r c (first_tree ts))
  plan-bared (steps c) n ts = rw (callee-bared r n ts, choice-bared c n ts)

  -- the plan for children that are alike
  pub plan-alike : (sh : Shape) (n : Node) (ts ts' : Trees) → all_bared ts ≡ all_bared ts' → plan ctx v r sh n ts ≡ plan ctx v r sh n ts'
  plan-alike sh n = alike-tests (plan ctx v r sh n) (plan-bared sh n)
