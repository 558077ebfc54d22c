-- An assignment's target: the code's tests and the rules'. Assumes nothing.
use Prim.Native.Nat.{ℕ, ◌*◌, ◌<◌}
use native.Mathlib.Omega.{arith}
use mathlib.Core.Bool.{Bool, true, false, ◌||◌}
use mathlib.Core.List.{List}
use mathlib.Core.Path.{◌≡◌, refl, ◌∙◌}
use lib.Dec.{eqb}
use Rattle.records.specs.Record.{node_at}
use Rattle.records.specs.Tree.{Tree, node, none, more, count, node_of, others}
use Rattle.records.specs.File.{first_tree}
use Rattle.records.specs.Place.{root}
use Rattle.records.specs.declared.layout.NodeRecord.{NodeRecord}
use Rattle.records_table.proofs.Laid.{first}
use Rattle.walk_rules.specs.Context.{Context}
use Rattle.walk_rules.specs.Effect.{is_literal_value}
use Rattle.walk_rules.specs.Substitute.{stops_at_target}
use Rattle.walk_rules.specs.Target.{member_part_blocks_reorder, computed_key_blocks_reorder, may_depend_on_side_effect}
use Rattle.walk_arms.specs.declared.replacement.Replacement.{Replacement}
use Rattle.walk_arms.specs.Child.{FirstChild, SecondChild}
use Rattle.walk_arms.specs.Target.{DependsOnSideEffect}
use Rattle.walk_arms.specs.Begins.{StopsAt}
use Rattle.walk_arms.proofs.Children.{node-is}

-- a part is told by its root
module _ (ctx : Context) (n : NodeRecord) where
  object-root : (t : Tree) → root t ≡ node_of n → member_part_blocks_reorder ctx (node (node_of n) none) ≡ member_part_blocks_reorder ctx t
  unfolding member_part_blocks_reorder
  object-root (node m kids) e = rw e refl

  key_root : (t : Tree) → root t ≡ node_of n → computed_key_blocks_reorder ctx (node (node_of n) none) ≡ computed_key_blocks_reorder ctx t
  unfolding computed_key_blocks_reorder member_part_blocks_reorder is_literal_value
  key_root (node m kids) e = rw e refl

module _ (ctx : Context) {table : List ℕ} {at : ℕ} {n : NodeRecord} (e : n ≡ node_at table (16 * at)) where
  pub depends_name : eqb n.kind 29 ≡ true → DependsOnSideEffect ctx table at false
  unfolding may_depend_on_side_effect node_of
  depends_name k pre (node m kids) rest h = rw (node-is e h, k) refl

  -- a computed member: by its object, then by its key
  module _ (no_name : eqb n.kind 29 ≡ false) (k : eqb n.kind 12 ≡ true) (object : NodeRecord) (o : FirstChild table at object) {r : Bool} (a : r ≡ member_part_blocks_reorder ctx (node (node_of object) none)) where
    pub depends_object : r ≡ true → DependsOnSideEffect ctx table at r
    unfolding may_depend_on_side_effect node_of
    depends_object b pre (node m kids) rest h =
        b ∙ rw (node-is e h, no_name, k, ← object-root ctx object (first_tree kids) (o pre m kids rest h), ← a, b) refl

    pub depends_key : r ≡ false → (key : NodeRecord) → SecondChild table at key → {q : Bool} → q ≡ computed_key_blocks_reorder ctx (node (node_of key) none)
        → DependsOnSideEffect ctx table at q
    unfolding may_depend_on_side_effect node_of
    depends_key b key s x pre (node m kids) rest h =
        x ∙ rw (node-is e h, no_name, k, ← object-root ctx object (first_tree kids) (o pre m kids rest h), ← a, b) (key_root ctx key (first_tree (others 1 kids)) (s pre m kids rest h))

  pub depends_member : eqb n.kind 29 ≡ false → eqb n.kind 12 ≡ false → (eqb n.kind 11 || eqb n.kind 10) ≡ true → (object : NodeRecord) → FirstChild table at object
      → {r : Bool} → r ≡ member_part_blocks_reorder ctx (node (node_of object) none) → DependsOnSideEffect ctx table at r
  unfolding may_depend_on_side_effect node_of
  depends_member no_name no-computed k object o a pre (node m kids) rest h =
      a ∙ rw (node-is e h, no_name, no-computed, k) (object-root ctx object (first_tree kids) (o pre m kids rest h))

  pub depends_other : eqb n.kind 29 ≡ false → eqb n.kind 12 ≡ false → (eqb n.kind 11 || eqb n.kind 10) ≡ false → DependsOnSideEffect ctx table at true
  unfolding may_depend_on_side_effect node_of
  depends_other no_name no-computed no_member pre (node m kids) rest h = rw (node-is e h, no_name, no-computed, no_member) refl

-- The last of the three tests.
module _ (ctx : Context) {table : List ℕ} {at many : ℕ} {known : Replacement} (isCompound : Bool) {effect : Bool} where
  -- where there is a target, and where there is none
  pub stops_depends : effect ≡ false → known.effect ≡ true → isCompound ≡ false → 0 < many → {r : Bool} → DependsOnSideEffect ctx table at r
      → StopsAt ctx table at many known isCompound effect r
  unfolding stops_at_target count first_tree
  stops_depends e a k some p R d pre none rest h c f = absurd (omega (arith, c))
  stops_depends e a k some p R d pre (more t ts) rest h c f = rw (← f, e, ← d.effect, a, k) (p pre t _ (first h))

  pub stops_missing : effect ≡ false → known.effect ≡ true → isCompound ≡ false → many ≡ 0 → StopsAt ctx table at many known isCompound effect true
  unfolding stops_at_target count first_tree may_depend_on_side_effect
  stops_missing e a k z R d pre none rest h c f = rw (← f, e, ← d.effect, a, k) refl
  stops_missing e a k z R d pre (more t ts) rest h c f = absurd (omega (arith, c))
