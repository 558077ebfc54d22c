-- Names without children stay so, whatever a search places; those of an accepted file are so. Assumes nothing.
use Prim.Native.Nat.{ℕ, ◌≤◌}
use native.Mathlib.Omega.{arith}
use mathlib.Core.Bool.{Bool, true, false, cond, ◌&&◌, ◌||◌, not}
use mathlib.Core.List.{List, []}
use mathlib.Core.Path.{◌≡◌, refl, ap, ap₂, ◌∙◌}
use lib.ListN.{length, get_or}
use lib.Dec.{eqb, ltb, leb}
use borrow.Author.Tests.{eqb-true, eq-eqb, leb-true}
use Rattle.records.specs.Flags.{marked}
use Rattle.records.specs.Limits.{no_position}
use Rattle.records.specs.Records.{every}
use Rattle.records.specs.Script.{flags_of}
use Rattle.records.specs.Node.{is_named, fewest, most, good_children, good_flags, may_mark, good_node_of, good_node}
use Rattle.records.specs.Tree.{Node, Tree, Trees, node, none, more, count, record_of, preorder, preorders}
use Rattle.records.specs.File.{read, all_trees, names_of}
use Rattle.records.specs.Refusal.{refusal}
use Rattle.records.specs.declared.layout.NameFacts.{NameFacts}
use Rattle.records.specs.declared.layout.NodeRecord.{NodeRecord}
use Rattle.records.proofs.Tests.{and_left, and_right, every-parts}
use Rattle.records_laws.proofs.Accepted.{accepted, good_nodes}
use Rattle.records_laws.proofs.ReadFile.{read-nodes}
use Rattle.walk_rules.specs.Context.{Context}
use Rattle.walk_rules.specs.Shape.{is, shape, cleared}
use Rattle.walk_rules.specs.Substitute.{Answer, replaced, stopped, passed, Plan, all, first, nothing, value, test, branches, tag, next, at, preserve_indirect_access, as_tag, in_order, in_branches, by_plan, of_node, is_specific_id, plan, substitute_in_expression, substitute_in_children}
use Rattle.walk_arms.specs.Search.{bare_names, all_bare_names}
use Rattle.walk.proofs.BareNames.{all-bare, bare-node}

-- a node that is no name, or has no children, over trees whose names have none
pub node-bare : (n : Node) (kids : Trees) → (not (is 4 n) || eqb (count kids) 0) ≡ true → all_bare_names kids ≡ true → bare_names (node n kids) ≡ true
unfolding bare_names
node-bare n kids h i = ap₂ ◌&&◌ h i

-- such a tree before such a forest
pub more-bare : (t : Tree) (ts : Trees) → bare_names t ≡ true → all_bare_names ts ≡ true → all_bare_names (more t ts) ≡ true
unfolding all_bare_names
more-bare t ts h i = ap₂ ◌&&◌ h i

pub none_bare : all_bare_names none ≡ true
unfolding all_bare_names
none_bare = refl

-- what an answer leaves
abbrev pub Bare : Answer Tree → Type 0
Bare (replaced t) = bare_names t ≡ true
Bare (stopped t) = bare_names t ≡ true
Bare passed = Unit {0}

-- of a forest also as many trees as there were
abbrev pub AllBare : Trees → Answer Trees → Type 0
AllBare ts (replaced ts') = (all_bare_names ts' ≡ true) × (count ts' ≡ count ts)
AllBare ts (stopped ts') = (all_bare_names ts' ≡ true) × (count ts' ≡ count ts)
AllBare ts passed = Unit {0}

as_tag_lem : (a : Answer Tree) → Bare a → Bare (as_tag a)
unfolding as_tag preserve_indirect_access bare_names all_bare_names
as_tag_lem (replaced (node m ks)) p = ap (λ b. b && true) p
as_tag_lem (stopped t') p = p
as_tag_lem passed p = tt

module _ (t : Tree) (ts : Trees) (h : bare_names t ≡ true) (hs : all_bare_names ts ≡ true) where
  in_order_lem : (a : Answer Tree) (b : Answer Trees) → Bare a → AllBare ts b → AllBare (more t ts) (in_order t ts a b)
  unfolding in_order count
  in_order_lem (replaced t') b p q = (more-bare t' ts p hs, refl)
  in_order_lem (stopped t') b p q = (more-bare t' ts p hs, refl)
  in_order_lem passed (replaced ts') p q = (more-bare t ts' h q.0, omega (arith, q.1))
  in_order_lem passed (stopped ts') p q = (more-bare t ts' h q.0, omega (arith, q.1))
  in_order_lem passed passed p q = tt

  in_branches_lem : (a : Answer Tree) (b : Answer Trees) → Bare a → AllBare ts b → AllBare (more t ts) (in_branches t ts a b)
  unfolding in_branches count
  in_branches_lem (replaced t') b p q = (more-bare t' ts p hs, refl)
  in_branches_lem (stopped t') (replaced ts') p q = (more-bare t' ts' p q.0, omega (arith, q.1))
  in_branches_lem (stopped t') (stopped ts') p q = (more-bare t' ts' p q.0, omega (arith, q.1))
  in_branches_lem (stopped t') passed p q = (more-bare t' ts p hs, refl)
  in_branches_lem passed b p q = in_order_lem passed b p q

  by-plan : (p : Plan) (a : Answer Tree) (b : Answer Trees) → Bare a → AllBare ts b → AllBare (more t ts) (by_plan p t ts a b)
  unfolding by_plan
  by-plan all a b s q = in_order_lem a b s q
  by-plan first a b s q = in_order_lem a b s q
  by-plan nothing a b s q = tt
  by-plan value a b s q = in_order_lem passed b tt q
  by-plan test a b s q = in_order_lem a b s q
  by-plan branches a b s q = in_branches_lem a b s q
  by-plan tag a b s q = in_order_lem (as_tag a) b (as_tag_lem a s) q

module _ (n : Node) (kids : Trees) (h : bare_names (node n kids) ≡ true) where
  -- other children, as many
  others-bare : (kids' : Trees) → (all_bare_names kids' ≡ true) × (count kids' ≡ count kids) → bare_names (node (cleared n) kids') ≡ true
  unfolding cleared
  others-bare kids' q = node-bare (cleared n) kids' (rw q.1 (bare-node n kids h).0) q.0

  of_node_lem : (pass : Bool) (a : Answer Trees) → AllBare kids a → Bare (of_node n kids pass a)
  unfolding of_node
  of_node_lem pass (replaced kids') q = others-bare kids' q
  of_node_lem pass (stopped kids') q = others-bare kids' q
  of_node_lem true passed q = tt
  of_node_lem false passed q = h

module _ (ctx : Context) (searchFor : ℕ) (replacement : Tree) (r : bare_names replacement ≡ true) where
  placed-bare : (position : ℕ) (t : Tree) → bare_names (at position t) ≡ bare_names t
  unfolding at bare_names
  placed-bare position (node n kids) = refl

  name-bare : (b : Bool) (position : ℕ) (a : Answer Tree) → Bare a → Bare (cond b (replaced (at position replacement)) a)
  name-bare true position a p = placed-bare position replacement ∙ r
  name-bare false position a p = p

  mutual
    unfolding substitute_in_expression

    pub bare-answer : (t : Tree) → bare_names t ≡ true → Bare (substitute_in_expression ctx searchFor replacement t)
    bare-answer (node n kids) h =
        name-bare (is_specific_id searchFor n) n.position _
        (of_node_lem n kids h _ _ (bare-children kids (plan ctx searchFor replacement (shape n) n kids) (bare-node n kids h).1))

    pub bare-children : (ts : Trees) (p : Plan) → all_bare_names ts ≡ true → AllBare ts (substitute_in_children ctx searchFor replacement p ts)
    bare-children none p h = tt
    bare-children (more t ts) p h =
        let (x, y) = all-bare t ts h in by-plan t ts x y p _ _ (bare-answer t x) (bare-children ts (next p) y)

-- Row 7: a good name has no children.
good_fewer : (names : List NameFacts) (n : NodeRecord) → good_node names n ≡ true → n.children ≤ get_or most n.kind 0
unfolding good_node good_node_of good_children
good_fewer names n g =
    let byItself =
    leb n.kind 30
    && (not (is_named n.kind) || ltb n.label (length names))
    && eqb n.zero 0
    && not (eqb n.position no_position)
    && good_flags n
    && (not (marked n.flags) || may_mark (flags_of names n.label) n)
    in
    let enough = leb (get_or fewest n.kind 0) n.children in
    let few = leb n.children (get_or most n.kind 0) in
    leb-true n.children (get_or most n.kind 0) (and_right enough few (and_left (enough && few) _ (and_right byItself (good_children n) g)))

good_bare : (names : List NameFacts) (n : Node) (many : ℕ) → good_node names (record_of n many) ≡ true → (not (is 4 n) || eqb many 0) ≡ true
unfolding record_of most
good_bare names n many g = by (is 4 n) refl
  where
    by : (b : Bool) → is 4 n ≡ b → (not b || eqb many 0) ≡ true
    by false e = refl
    by true e =
        let z : get_or most n.kind 0 ≡ 0 = rw (eqb-true n.kind 4 e) refl in
        eq-eqb many 0 (omega (arith, good_fewer names (record_of n many) g, z))

module _ (names : List NameFacts) where
  mutual
    unfolding preorder

    tree-bare : (t : Tree) (rest : List NodeRecord) → every (good_node names) (preorder t rest) ≡ true → (bare_names t ≡ true) × (every (good_node names) rest ≡ true)
    tree-bare (node n kids) rest h =
        let (a, b) = every-parts (good_node names) (record_of n (count kids)) (preorders kids rest) h in
        let (c, d) = trees-bare kids rest b in
        (node-bare n kids (good_bare names n (count kids) a) c, d)

    trees-bare : (ts : Trees) (rest : List NodeRecord) → every (good_node names) (preorders ts rest) ≡ true → (all_bare_names ts ≡ true) × (every (good_node names) rest ≡ true)
    trees-bare none rest h = (none_bare, h)
    trees-bare (more t ts) rest h =
        let (a, b) = tree-bare t (preorders ts rest) h in
        let (c, d) = trees-bare ts rest b in
        (more-bare t ts a c, d)

-- no name of an accepted file has children
pub accepted-bare : (bs : List ℕ) (room : ℕ) → refusal bs room ≡ 0 → all_bare_names (all_trees (read bs).statements) ≡ true
accepted-bare bs room e =
    let a = accepted bs room e in (trees-bare (names_of bs) (all_trees (read bs).statements) [] (rw (read-nodes bs room a) (good_nodes a))).0
