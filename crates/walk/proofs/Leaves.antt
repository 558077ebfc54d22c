-- A node without children that is passed at once. Assumes nothing.
use Prim.Native.Nat.{ℕ}
use mathlib.Core.Bool.{Bool, true, false, cond, ◌&&◌, ◌||◌, not, or-true, or-false}
use mathlib.Core.Path.{◌≡◌, refl, sym, ap, ◌∙◌}
use lib.Dec.{eqb}
use borrow.Author.Tests.{eqb-true, ne_eqb, not-true}
use Rattle.records.specs.Flags.{optional}
use Rattle.records.specs.Tree.{Node, Tree, Trees, node, none, node_of}
use Rattle.records.specs.Place.{is_expression}
use Rattle.records.specs.declared.layout.NodeRecord.{NodeRecord}
use Rattle.records.proofs.Tests.{both, clash}
use Rattle.walk_rules.specs.Context.{Context}
use Rattle.walk_rules.specs.Unsettled.{unsettled}
use Rattle.walk_rules.specs.Shape.{is, is_member_expression, never, skips, cuts, picks, Shape, constant, identifier, target_name, leaf, chain, import, delete, sequence, property, stopping, assignment, steps, shape}
use Rattle.walk_rules.specs.Effect.{has_effect, may_have_side_effects, any_has_side_effects}
use Rattle.walk_rules.specs.Looks.{own_looks}
use Rattle.walk_rules.specs.Substitute.{passed, can_reorder, may_pass, of_node, is_specific_id, substitute_in_expression, substitute_in_children}
use Rattle.walk_arms.specs.declared.replacement.Replacement.{Replacement}
use Rattle.walk_arms.specs.Arms.{Reorders}
use Rattle.walk.specs.Small.{PassesLeaf}

-- The shapes of expressions, but of assignments: where the replacement may be reordered past such a node, it is passed.
abbrev moves : Shape → Bool
moves constant = true
moves identifier = true
moves target_name = true
moves leaf = true
moves chain = true
moves import = true
moves delete = true
moves sequence = true
moves property = false
moves stopping = false
moves (assignment isCompound) = false
moves (steps choice) = true

module _ (ctx : Context) (name : ℕ) (replacement : Tree) (n : Node) (kids : Trees) where
  moves-past : (x : Shape) → moves x ≡ true → can_reorder replacement (node n kids) ≡ true → may_pass ctx name replacement x n kids ≡ true
  unfolding may_pass
  moves-past constant m h = refl
  moves-past identifier m h = rw (h, or-true (not (unsettled ctx n.label))) refl
  moves-past target_name m h = h
  moves-past leaf m h = h
  moves-past chain m h = refl
  moves-past import m h = rw (h, or-true (not (may_have_side_effects replacement) && not (any_has_side_effects kids))) refl
  moves-past delete m h = h
  moves-past sequence m h = h
  moves-past property m h = clash false refl m
  moves-past stopping m h = clash false refl m
  moves-past (assignment isCompound) m h = clash false refl m
  moves-past (steps choice) m h = h

data Moves : Shape → Type 0 where
  moving : (x : Shape) → moves x ≡ true → Moves x

of_two : (b : Bool) {x y : Shape} → Moves x → Moves y → Moves (cond b x y)
of_two true e f = e
of_two false e f = f

is-moving : {x : Shape} → Moves x → moves x ≡ true
is-moving (moving x e) = e

moving-shape : (n : Node) → is 26 n ≡ false → is 25 n ≡ false → is 20 n ≡ false → Moves (shape n)
unfolding shape
moving-shape n f g h =
    rw (f, g, h)
    (of_two (is 1 n || is 2 n || is 27 n) (moving constant refl)
    (of_two (is 4 n) (moving identifier refl)
    (of_two (is 29 n) (moving target_name refl)
    (of_two (is 0 n || is 3 n || is 5 n || is 30 n) (moving leaf refl)
    (of_two (is 13 n) (moving chain refl)
    (of_two (is 8 n) (moving import refl)
    (of_two (is 9 n && eqb n.label 1) (moving delete refl)
    (of_two (is 28 n) (moving sequence refl)
    (of_two (is 17 n) (moving (steps skips) refl)
    (of_two (is 19 n) (moving (steps picks) refl)
    (of_two ((is_member_expression n || is 14 n) && optional n.flags) (moving (steps cuts) refl)
    (moving (steps never) refl))))))))))))

-- the kinds of these shapes
expression-moves : (n : Node) → is_expression n.kind ≡ true → is 20 n ≡ false → moves (shape n) ≡ true
unfolding is_expression
expression-moves n e a =
    is-moving
    (moving-shape n
    (ne_eqb n.kind 26 (λ z. clash (is_expression n.kind) (rw z refl) e))
    (ne_eqb n.kind 25 (λ z. clash (is_expression n.kind) (rw z refl) e)) a)

name-shape : (n : Node) → is 4 n ≡ true → shape n ≡ identifier
unfolding shape
name-shape n e = rw (eqb-true n.kind 4 e) refl

constant-shape : (n : Node) → (is 1 n || is 2 n) ≡ true → shape n ≡ constant
unfolding shape
constant-shape n e = by (is 1 n) refl
  where
    by : (b : Bool) → is 1 n ≡ b → shape n ≡ constant
    by true q = rw (eqb-true n.kind 1 q) refl
    by false q = rw (eqb-true n.kind 2 (sym (ap (λ (b : Bool). b || is 2 n) q) ∙ e)) refl

-- the effect of a node without children
pub leaf-effect : (m : Node) → has_effect m ≡ may_have_side_effects (node m none)
unfolding may_have_side_effects any_has_side_effects
leaf-effect m = sym (or-false (has_effect m))

-- such a node is passed if it may be
leaf-passes : (ctx : Context) (name : ℕ) (replacement : Tree) (m : Node) → is_specific_id name m ≡ false → may_pass ctx name replacement (shape m) m none ≡ true
    → substitute_in_expression ctx name replacement (node m none) ≡ passed
unfolding substitute_in_expression substitute_in_children of_node
leaf-passes ctx name replacement m o p = rw (o, p) refl

one-look : (m : Node) → is_expression m.kind ≡ true → own_looks m ≡ 1
unfolding own_looks
one-look m e = rw e refl

module _ (ctx : Context) (known : Replacement) (n : NodeRecord) (c : n.children ≡ 0) (o : is_specific_id known.name.0 (node_of n) ≡ false) where
  pub leaf-moved : (acts : Bool) → acts ≡ has_effect (node_of n) → Reorders known acts true → (is_expression n.kind && not (eqb n.kind 20)) ≡ true → PassesLeaf ctx n known
  unfolding node_of
  leaf-moved acts f w t =
      let (e, a) = both (is_expression n.kind) (not (eqb n.kind 20)) t in
      record {
        childless = c;
        other = o;
        look = one-look (node_of n) e;
        leaf-passed = λ replacement d.
            leaf-passes ctx known.name.0 replacement (node_of n) o (moves-past ctx known.name.0 replacement (node_of n) none (shape (node_of n)) (expression-moves (node_of n) e (not-true (eqb n.kind 20) a)) (sym (w replacement (node (node_of n) none) d (f ∙ leaf-effect (node_of n)))));
      }

  pub leaf-settled : eqb n.kind 4 ≡ true → not (unsettled ctx n.label) ≡ true → PassesLeaf ctx n known
  unfolding node_of may_pass is_expression
  leaf-settled k u = record {
    childless = c;
    other = o;
    look = one-look (node_of n) (rw (eqb-true n.kind 4 k) refl);
    leaf-passed = λ replacement d. leaf-passes ctx known.name.0 replacement (node_of n) o (rw (name-shape (node_of n) k, u) refl);
  }

  pub leaf-constant : (eqb n.kind 1 || eqb n.kind 2) ≡ true → PassesLeaf ctx n known
  unfolding node_of may_pass is_expression
  leaf-constant k = record {
    childless = c;
    other = o;
    look = one-look (node_of n) (by (eqb n.kind 1) refl);
    leaf-passed = λ replacement d. leaf-passes ctx known.name.0 replacement (node_of n) o (rw (constant-shape (node_of n) k) refl);
  }
    where
      by : (b : Bool) → eqb n.kind 1 ≡ b → is_expression n.kind ≡ true
      by true q = rw (eqb-true n.kind 1 q) refl
      by false q = rw (eqb-true n.kind 2 (sym (ap (λ (b : Bool). b || eqb n.kind 2) q) ∙ k)) refl
