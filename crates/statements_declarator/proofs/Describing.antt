-- What is known of the tree at a place, by what was read of it. Assumes nothing.
use Prim.Native.Nat.{ℕ, ◌*◌}
use mathlib.Core.Bool.{Bool, ◌&&◌, ◌||◌}
use mathlib.Core.List.{List}
use mathlib.Core.Path.{◌≡◌, refl, sym, ap, ap₂}
use lib.Dec.{eqb}
use Rattle.records.specs.Record.{node_at}
use Rattle.records.specs.Tree.{Tree, node, record_of, node_of}
use Rattle.records.specs.File.{first_tree}
use Rattle.records.specs.Place.{root}
use Rattle.records.specs.declared.layout.NameId.{NameId}
use Rattle.records.specs.declared.layout.NodeRecord.{NodeRecord}
use Rattle.records_table.specs.Laid.{TreeAt}
use Rattle.records_table.proofs.Laid.{node_at_lem}
use Rattle.walk_rules.specs.Shape.{is, is_member_expression}
use Rattle.walk_rules.specs.Effect.{may_have_side_effects, is_literal_value}
use Rattle.walk_rules.specs.Substitute.{is_member_tag}
use Rattle.walk_arms.specs.Child.{FirstChild}
use Rattle.walk_arms.specs.Described.{Describes}

-- the tree's root is what was read
pub root_is : {table : List ℕ} {at : ℕ} {n : NodeRecord} → n ≡ node_at table (16 * at) → {pre rest : List ℕ} (t : Tree) → TreeAt table at t pre rest → root t ≡ node_of n
unfolding record_of node_of
root_is e (node m kids) h = rw (e, node_at_lem h) refl

module _ {table : List ℕ} {at : ℕ} {n : NodeRecord} (child : NodeRecord) {effect member inner : Bool} (e : n ≡ node_at table (16 * at)) (f : FirstChild table at child) (p : (pre : List ℕ) (t : Tree) (rest : List ℕ) → TreeAt table at t pre rest → effect ≡ may_have_side_effects t) (k : member ≡ is_member_expression (node_of n)) (i : inner ≡ is_member_expression (node_of child)) (name : NameId) where
  pub described : (pre : List ℕ) (t : Tree) (rest : List ℕ) → TreeAt table at t pre rest
      → Describes (record { name = name; effect = effect; literal = eqb n.kind 1 || eqb n.kind 2; member_or_chain = member || eqb n.kind 13; member_tag = member || eqb n.kind 13 && inner }) t
      × (name ≡ name)
  unfolding node_of is_literal_value is_member_tag
  described pre (node m kids) rest h =
      let q : node_of n ≡ m = sym (root_is e (node m kids) h) in
      let c : node_of child ≡ root (first_tree kids) = sym (f pre m kids rest h) in (
        record {
          effect = p pre (node m kids) rest h;
          literal = ap (λ x. is 1 x || is 2 x) q;
          member_or_chain = rw k (ap (λ x. is_member_expression x || is 13 x) q);
          member-tag = rw (k, i) (ap₂ (λ x y. is_member_expression x || is 13 x && is_member_expression y) q c);
        },
        refl,
      )
