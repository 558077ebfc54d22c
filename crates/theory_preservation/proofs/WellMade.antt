-- Trees whose nodes are good by themselves, with as many children as they have: row 7 of the refusal table, for trees.
use Prim.Native.Nat.{ℕ}
use native.Mathlib.Omega.{arith}
use mathlib.Core.Bool.{Bool, true, false, ◌&&◌, ◌||◌, not}
use mathlib.Core.List.{List}
use mathlib.Core.Path.{◌≡◌}
use lib.ListN.{length, get_or}
use lib.Dec.{eqb, ltb, leb}
use borrow.Author.Tests.{eqb-true, leb-true}
use Rattle.records.specs.Flags.{marked}
use Rattle.records.specs.Limits.{no_position}
use Rattle.records.specs.Script.{flags_of}
use Rattle.records.specs.Node.{is_named, fewest, most, good_children, good_flags, may_mark, good_node_of, good_node}
use Rattle.records.specs.Tree.{Node, Tree, Trees, node, none, more, count, record_of}
use Rattle.records.specs.declared.layout.NameFacts.{NameFacts}
use Rattle.records.specs.declared.layout.NodeRecord.{NodeRecord}
use Rattle.records.proofs.Tests.{both}
use Rattle.theory_preservation.proofs.Tests.{by_or, or_left}

unfoldable mutual
  pub well_made : List NameFacts → Tree → Bool
  well_made names (node n kids) = good_node names (record_of n (count kids)) && all_well_made names kids

  pub all_well_made : List NameFacts → Trees → Bool
  all_well_made names none = true
  all_well_made names (more t ts) = well_made names t && all_well_made names ts

module _ (names : List NameFacts) where
  pub well-node : (n : Node) (ts : Trees) → well_made names (node n ts) ≡ true → (good_node names (record_of n (count ts)) ≡ true) × (all_well_made names ts ≡ true)
  unfolding well_made
  well-node n ts e = both _ (all_well_made names ts) e

  pub well-more : (t : Tree) (ts : Trees) → all_well_made names (more t ts) ≡ true → (well_made names t ≡ true) × (all_well_made names ts ≡ true)
  unfolding well_made
  well-more t ts e = both (well_made names t) (all_well_made names ts) e

  pub make_node : (n : Node) (ts : Trees) → good_node names (record_of n (count ts)) ≡ true → all_well_made names ts ≡ true → well_made names (node n ts) ≡ true
  unfolding well_made
  make_node n ts a b = rw (a, b)

  pub make_more : (t : Tree) (ts : Trees) → well_made names t ≡ true → all_well_made names ts ≡ true → all_well_made names (more t ts) ≡ true
  unfolding well_made
  make_more t ts a b = rw (a, b)

  right : (x y : Bool) → (not x || y) ≡ true → x ≡ true → y ≡ true
  right true y e g = e
  right false y e g = absurd (let z : ◌≡◌ {A = ℕ} 0 1 = cc in omega arith)

  abbrev parts : NodeRecord → Bool
  parts n = leb n.kind 30 && (not (is_named n.kind) || ltb n.label (length names))

  -- all but the last of what is asked of a node
  abbrev before : NodeRecord → Bool
  before n = parts n && eqb n.zero 0 && not (eqb n.position no_position) && good_flags n && (not (marked n.flags) || may_mark (flags_of names n.label) n)

  -- a name is one of the file's
  pub named_in : (n : Node) (k : ℕ) → good_node names (record_of n k) ≡ true → eqb n.kind 4 ≡ true → ltb n.label (length names) ≡ true
  unfolding good_node good_node_of record_of
  named_in n k e g =
      let a = (both _ (good_children (record_of n k)) e).0 in
      let b = (both _ (not (marked n.flags) || may_mark (flags_of names n.label) (record_of n k)) a).0 in
      let c = (both _ (good_flags (record_of n k)) b).0 in
      let d = (both _ (not (eqb n.position no_position)) c).0 in
      let f = (both (parts (record_of n k)) (eqb (record_of n k).zero 0) d).0 in
      right (is_named n.kind) (ltb n.label (length names)) (both (leb n.kind 30) _ f).1 (or_left (eqb n.kind 4) _ g)

  -- a member has its object, and a computed one its key too
  children-by : (k x y c : ℕ) (b : Bool) → (leb x k && leb k y && b) ≡ true → x ≡ c → y ≡ c → k ≡ c
  children-by k x y c b e g h =
      let a = (both (leb x k && leb k y) b e).0 in
      let (p, q) = both (leb x k) (leb k y) a in
      let p' = leb-true x k p in
      let q' = leb-true k y q in
      omega arith

  good_children_lem : (n : Node) (k : ℕ) → good_node names (record_of n k) ≡ true → good_children (record_of n k) ≡ true
  unfolding good_node good_node_of
  good_children_lem n k e = (both (before (record_of n k)) (good_children (record_of n k)) e).1

  count_by : (n : Node) (k c : ℕ) → good_node names (record_of n k) ≡ true → get_or fewest n.kind 0 ≡ c → get_or most n.kind 0 ≡ c → k ≡ c
  unfolding good_children record_of
  count_by n k c e g h = children-by k (get_or fewest n.kind 0) (get_or most n.kind 0) c _ (good_children_lem n k e) g h

  pub one_child : (n : Node) (k : ℕ) → good_node names (record_of n k) ≡ true → (eqb n.kind 11 || eqb n.kind 10) ≡ true → k ≡ 1
  unfolding fewest most
  one_child n k e =
      by_or (eqb n.kind 11) (eqb n.kind 10)
      (λ g. count_by n k 1 e (rw (eqb-true n.kind 11 g)) (rw (eqb-true n.kind 11 g)))
      (λ g. count_by n k 1 e (rw (eqb-true n.kind 10 g)) (rw (eqb-true n.kind 10 g)))

  pub two-children : (n : Node) (k : ℕ) → good_node names (record_of n k) ≡ true → eqb n.kind 12 ≡ true → k ≡ 2
  unfolding fewest most
  two-children n k e g = count_by n k 2 e (rw (eqb-true n.kind 12 g)) (rw (eqb-true n.kind 12 g))
