-- A leaf, and a node over one leaf, that are passed at once. Assumes nothing.
use Prim.Native.Nat.{ℕ, ◌+◌, ◌*◌, ◌≤◌}
use native.Mathlib.Omega.{arith}
use mathlib.Core.Bool.{Bool, true, false, ◌||◌, or-false, and-false}
use mathlib.Core.List.{List}
use mathlib.Core.Path.{◌≡◌, refl, sym, ap, ◌∙◌}
use Rattle.std.specs.Int.{from_bool}
use lib.Dec.{eqb}
use lib.ListN.{length}
use borrow.Author.Tests.{eqb-true}
use Rattle.records.specs.Record.{node_at}
use Rattle.records.specs.Tree.{Node, Tree, Trees, node, none, more, count, size, sizes, record_of, node_of}
use Rattle.records.specs.File.{first_tree}
use Rattle.records.specs.Place.{root}
use Rattle.records.specs.declared.layout.NodeRecord.{NodeRecord}
use Rattle.records_table.specs.Laid.{At, TreeAt, Stands}
use Rattle.records_table.proofs.Laid.{room-node, first, inside, node_at_lem}
use Rattle.records_laws.proofs.Forests.{count_zero}
use Rattle.walk_rules.specs.Context.{Context}
use Rattle.walk_rules.specs.Shape.{is, shape as shape_of}
use Rattle.walk_rules.specs.Effect.{has_effect, may_have_side_effects, any_has_side_effects}
use Rattle.walk_rules.specs.Looks.{own_looks, looks_in_expression, looks_in_children}
use Rattle.walk_rules.specs.Substitute.{passed, may_pass, of_node, plan, keeps_indirect, is_specific_id, substitute_in_expression, substitute_in_children}
use Rattle.walk_arms.specs.declared.arms.Shape.{Shape}
use Rattle.walk_arms.specs.declared.replacement.Replacement.{Replacement}
use Rattle.walk_arms.specs.declared.arms.Plan.{Plan}
use Rattle.walk_arms.specs.Arms.{shaped, planned, is_assignment, is_nothing, PlansFor, MayPass}
use Rattle.walk_arms.specs.Described.{Describes}
use Rattle.walk_arms.proofs.Beginning.{no_target}
use Rattle.walk.specs.Small.{PassesLeaf, PassesOver, PassesTree}
use Rattle.walk.proofs.Leaves.{leaf-effect}
use Rattle.walk.proofs.OfForest.{only-passed}

-- a node whose children are passed, and that may be passed itself
module _ (ctx : Context) (name : ℕ) (replacement : Tree) (m : Node) (kids : Trees) where
  passed-node : is_specific_id name m ≡ false → may_pass ctx name replacement (shape_of m) m kids ≡ true → substitute_in_children ctx name replacement (plan ctx name replacement (shape_of m) m kids) kids ≡ passed
      → substitute_in_expression ctx name replacement (node m kids) ≡ passed
  unfolding substitute_in_expression of_node
  passed-node o p c = rw (o, c, p) refl

  looked-node : (k : ℕ) → looks_in_children ctx name replacement (plan ctx name replacement (shape_of m) m kids) kids ≡ k → looks_in_expression ctx name replacement (node m kids) ≡ own_looks m + k
  unfolding looks_in_expression
  looked-node k e = ap (λ k. own_looks m + k) e

-- the effect of a forest of one leaf, and of a node over it; the looks at a leaf
only-effect : (m : Node) → has_effect m ≡ any_has_side_effects (more (node m none) none)
unfolding any_has_side_effects
only-effect m = leaf-effect m ∙ sym (or-false (may_have_side_effects (node m none)))

over-effect : (n m : Node) → (has_effect n || has_effect m) ≡ may_have_side_effects (node n (more (node m none) none))
unfolding may_have_side_effects
over-effect n m = ap (λ b. has_effect n || b) (only-effect m)

leaf-looked : (ctx : Context) (name : ℕ) (replacement : Tree) (m : Node) → looks_in_expression ctx name replacement (node m none) ≡ own_looks m
unfolding looks_in_children
leaf-looked ctx name replacement m = looked-node ctx name replacement m none 0 refl ∙ omega arith

module _ (ctx : Context) (known : Replacement) (n : NodeRecord) (o : is_specific_id known.name.0 (node_of n) ≡ false) (shape : Shape) (e : shaped shape ≡ shape_of (node_of n)) (a : is_assignment shape ≡ false) (own : Bool) (f : own ≡ has_effect (node_of n)) where
  -- a node that is no assignment may be passed
  may_pass_lem : (replacement : Tree) → Describes known replacement → (kids : Trees) (below : Bool) → below ≡ any_has_side_effects kids → MayPass ctx shape n known own below false true
      → may_pass ctx known.name.0 replacement (shape_of (node_of n)) (node_of n) kids ≡ true
  may_pass_lem replacement d kids below b m =
      ap (λ x. may_pass ctx known.name.0 replacement x (node_of n) kids) (sym e) ∙ sym (m replacement d kids f b (no_target ctx replacement kids shape a))

  -- over a leaf, its only child
  module _ (leaf : NodeRecord) (w : PassesLeaf ctx leaf known) (p : Plan) (i : PlansFor shape n leaf known p) (enters : is_nothing p ≡ false) (acts : Bool) (g : acts ≡ has_effect (node_of leaf)) (m : MayPass ctx shape n known own acts false true) (replacement : Tree) (d : Describes known replacement) where
    abbrev kids : Trees
    kids = more (node (node_of leaf) none) none

    first_leaf : root (first_tree kids) ≡ node_of leaf
    unfolding first_tree
    first_leaf = refl

    not_indirect : keeps_indirect known.name.0 replacement (node_of n) kids ≡ false
    unfolding keeps_indirect
    not_indirect = rw (first_leaf, w.other, and-false (is 24 (node_of n))) refl

    leaf-plan : plan ctx known.name.0 replacement (shape_of (node_of n)) (node_of n) kids ≡ planned p
    leaf-plan = ap (λ x. plan ctx known.name.0 replacement x (node_of n) kids) (sym e) ∙ sym (i ctx replacement d kids first_leaf a not_indirect)

    over-both : (substitute_in_expression ctx known.name.0 replacement (node (node_of n) kids) ≡ passed) × (looks_in_expression ctx known.name.0 replacement (node (node_of n) kids) ≡ own_looks (node_of n) + 1)
    over-both =
        let (x, y) = only-passed ctx known.name.0 replacement p enters (node (node_of leaf) none) none (w.leaf-passed replacement d) refl in (
          passed-node ctx known.name.0 replacement (node_of n) kids o (may_pass_lem replacement d kids acts (g ∙ only-effect (node_of leaf)) m) (rw leaf-plan x),
          looked-node ctx known.name.0 replacement (node_of n) kids 1 (rw leaf-plan (y ∙ leaf-looked ctx known.name.0 replacement (node_of leaf) ∙ w.look)),
        )

  pub passes_over : (leaf : NodeRecord) → PassesLeaf ctx leaf known → (p : Plan) → PlansFor shape n leaf known p → is_nothing p ≡ false → (acts : Bool) → acts ≡ has_effect (node_of leaf) → MayPass ctx shape n known own acts false true → PassesOver ctx n leaf known
  passes_over leaf w p i enters acts g m = record { over-passed = λ replacement d. (over-both leaf w p i enters acts g m replacement d).0; over-looked = λ replacement d. (over-both leaf w p i enters acts g m replacement d).1 }

-- the node from its record
module _ {table : List ℕ} {at : ℕ} {m : Node} {kids : Trees} {pre rest : List ℕ} (n : NodeRecord) (e : n ≡ node_at table (16 * at)) (t : TreeAt table at (node m kids) pre rest) where
  node_of_record : m ≡ node_of n
  unfolding node_of record_of
  node_of_record = rw (e, node_at_lem t) refl

  count_of_record : count kids ≡ n.children
  unfolding record_of
  count_of_record = rw (e, node_at_lem t) refl

-- a forest of one leaf
only-leaf : {table : List ℕ} {at : ℕ} {pre rest : List ℕ} (leaf : NodeRecord) (ts : Trees) → count ts ≡ 1 → At table at ts pre rest → leaf ≡ node_at table (16 * at) → leaf.children ≡ 0 → ts ≡ more (node (node_of leaf) none) none
unfolding count
only-leaf leaf none o h e c = absurd (omega (arith, o))
only-leaf leaf (more (node x xs) none) o h e c = let z = count_zero xs (count_of_record leaf e (first h) ∙ c) in rw (z, node_of_record leaf e (first h)) refl
only-leaf leaf (more t (more u us)) o h e c = absurd (omega (arith, o))

module _ (ctx : Context) (known : Replacement) (table : List ℕ) (at : ℕ) (effect : Bool) (looks : ℕ) where
  pub small-leaf : (leaf : NodeRecord) → leaf ≡ node_at table (16 * at) → PassesLeaf ctx leaf known → effect ≡ has_effect (node_of leaf) → looks ≡ 1 → PassesTree ctx known table at 1 effect looks
  unfolding size sizes
  small-leaf leaf e w f l replacement d pre (node m kids) rest t =
      let z = count_zero kids (count_of_record leaf e t ∙ w.childless) in
      rw (z, node_of_record leaf e t) (w.leaf-passed replacement d, refl, f ∙ leaf-effect (node_of leaf), l ∙ sym (leaf-looked ctx known.name.0 replacement (node_of leaf) ∙ w.look))

  pub small-over : (n leaf : NodeRecord) → n ≡ node_at table (16 * at) → n.children ≡ 1 → leaf ≡ node_at table (16 * (at + 1)) → PassesLeaf ctx leaf known → PassesOver ctx n leaf known
      → effect ≡ (has_effect (node_of n) || has_effect (node_of leaf)) → looks ≡ own_looks (node_of n) + 1 → PassesTree ctx known table at 2 effect looks
  unfolding size sizes
  small-over n leaf e c g w v f l replacement d pre (node m kids) rest t =
      let z = only-leaf leaf kids (count_of_record n e t ∙ c) (inside t) g w.childless in
      rw (z, node_of_record n e t) (v.over-passed replacement d, refl, f ∙ over-effect (node_of n) (node_of leaf), l ∙ sym (v.over-looked replacement d))

-- the code's reads: the leaf is the node itself or its only child
pub leaf_room : (table : List ℕ) (at k : ℕ) (over : Bool) → over ≡ eqb (node_at table (16 * at)).children 1 → k ≡ from_bool over → Stands table at → 16 * (at + k) + 16 ≤ length table
unfolding count
leaf_room table at k false e z (pre, t, rest, h) = omega (arith, room-node h)
leaf_room table at k true e z (pre, node m none, rest, h) = let c = count_of_record (node_at table (16 * at)) refl h in let d = eqb-true (node_at table (16 * at)).children 1 (sym e) in absurd (omega (arith, c, d))
leaf_room table at k true e z (pre, node m (more (node x xs) ts), rest, h) = omega (arith, room-node (inside h))

pub leaf-at : (table : List ℕ) (at k : ℕ) (over : Bool) → over ≡ false → k ≡ from_bool over → {n : NodeRecord} → n ≡ node_at table (16 * (at + k)) → n ≡ node_at table (16 * at)
leaf-at table at k over o e h = h ∙ ap (λ k. node_at table (16 * k)) (ap (λ k. at + k) (e ∙ ap from_bool o) ∙ omega arith)

pub leaf-below : (table : List ℕ) (at k : ℕ) (over : Bool) → over ≡ true → k ≡ from_bool over → {n : NodeRecord} → n ≡ node_at table (16 * (at + k)) → n ≡ node_at table (16 * (at + 1))
leaf-below table at k over o e h = h ∙ ap (λ k. node_at table (16 * (at + k))) (e ∙ ap from_bool o)

pub one_child : (table : List ℕ) (at : ℕ) (over : Bool) → over ≡ eqb (node_at table (16 * at)).children 1 → over ≡ true → {n : NodeRecord} → n ≡ node_at table (16 * at) → n.children ≡ 1
one_child table at over e o h = ap (λ n. n.children) h ∙ eqb-true (node_at table (16 * at)).children 1 (sym e ∙ o)
