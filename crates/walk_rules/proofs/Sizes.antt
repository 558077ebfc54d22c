-- A search adds no more than the initializer and one node. Assumes nothing.
use Prim.Native.Nat.{ℕ, ◌+◌, ◌≤◌}
use native.Mathlib.Omega.{arith}
use mathlib.Core.Path.{◌≡◌, refl}
use mathlib.Core.Bool.{Bool, true, false, cond}
use Rattle.records.specs.Tree.{Node, Tree, Trees, node, none, more, size, sizes}
use Rattle.records.specs.File.{first_tree}
use Rattle.walk_rules.specs.Context.{Context}
use Rattle.walk_rules.specs.Shape.{shape}
use Rattle.walk_rules.specs.Substitute.{Answer, replaced, stopped, passed, Plan, all, first, nothing, value, test, branches, tag, next, at, preserve_indirect_access, as_tag, in_order, in_branches, by_plan, of_node, is_specific_id, plan, substitute_in_expression, substitute_in_children}
use Rattle.walk_rules.proofs.Tagged.{Tagged, tagged, next-untagged}

pub size-at : (position : ℕ) (t : Tree) → size (at position t) ≡ size t
unfolding at size
size-at position (node n kids) = refl

module _ (replacement : Tree) where
  -- the size of what an answer leaves
  abbrev pub Sized : Tree → Answer Tree → Type 0
  Sized t (replaced t') = size t' ≤ size t + size replacement + 1
  Sized t (stopped t') = size t' ≡ size t
  Sized t passed = Unit {0}

  abbrev pub AllSized : Trees → Answer Trees → Type 0
  AllSized ts (replaced ts') = sizes ts' ≤ sizes ts + size replacement + 1
  AllSized ts (stopped ts') = sizes ts' ≡ sizes ts
  AllSized ts passed = Unit {0}

  -- of a tag that is kept indirect: what replaced it is the initializer
  abbrev Placed : Plan → Answer Tree → Type 0
  Placed tag (replaced t) = size t ≡ size replacement
  Placed tag (stopped t) = Unit {0}
  Placed tag passed = Unit {0}
  Placed all a = Unit {0}
  Placed first a = Unit {0}
  Placed nothing a = Unit {0}
  Placed value a = Unit {0}
  Placed test a = Unit {0}
  Placed branches a = Unit {0}

  in_order_lem : (t : Tree) (ts : Trees) (a : Answer Tree) (b : Answer Trees) → Sized t a → AllSized ts b → AllSized (more t ts) (in_order t ts a b)
  unfolding in_order size
  in_order_lem t ts (replaced t') b p q = omega arith
  in_order_lem t ts (stopped t') b p q = omega arith
  in_order_lem t ts passed (replaced ts') p q = omega arith
  in_order_lem t ts passed (stopped ts') p q = omega arith
  in_order_lem t ts passed passed p q = tt

  in_branches_lem : (t : Tree) (ts : Trees) (a : Answer Tree) (b : Answer Trees) → Sized t a → AllSized ts b → AllSized (more t ts) (in_branches t ts a b)
  unfolding in_branches size
  in_branches_lem t ts (replaced t') b p q = omega arith
  in_branches_lem t ts (stopped t') (replaced ts') p q = omega arith
  in_branches_lem t ts (stopped t') (stopped ts') p q = omega arith
  in_branches_lem t ts (stopped t') passed p q = omega arith
  in_branches_lem t ts passed b p q = in_order_lem t ts passed b p q

  as_tag_lem : (t : Tree) (a : Answer Tree) → Sized t a → Placed tag a → Sized t (as_tag a)
  unfolding as_tag preserve_indirect_access size
  as_tag_lem (node n kids) (replaced (node m ks)) p q = omega arith
  as_tag_lem t (stopped t') p q = p
  as_tag_lem t passed p q = tt

  by-plan : (p : Plan) (t : Tree) (ts : Trees) (a : Answer Tree) (b : Answer Trees)
      → Sized t a → Placed p a → AllSized ts b → AllSized (more t ts) (by_plan p t ts a b)
  unfolding by_plan
  by-plan all t ts a b s l q = in_order_lem t ts a b s q
  by-plan first t ts a b s l q = in_order_lem t ts a b s q
  by-plan nothing t ts a b s l q = tt
  by-plan value t ts a b s l q = in_order_lem t ts passed b tt q
  by-plan test t ts a b s l q = in_order_lem t ts a b s q
  by-plan branches t ts a b s l q = in_branches_lem t ts a b s q
  by-plan tag t ts a b s l q = in_order_lem t ts (as_tag a) b (as_tag_lem t a s l) q

  of_node_lem : (n : Node) (kids : Trees) (pass : Bool) (a : Answer Trees) → AllSized kids a → Sized (node n kids) (of_node n kids pass a)
  unfolding of_node size
  of_node_lem n kids pass (replaced kids') q = omega arith
  of_node_lem n kids pass (stopped kids') q = omega arith
  of_node_lem n kids true passed q = tt
  of_node_lem n kids false passed q = refl

module _ (ctx : Context) (searchFor : ℕ) (replacement : Tree) where
  placed : (p : Plan) (t : Tree) (ts : Trees) → Tagged searchFor p (more t ts) → Placed replacement p (substitute_in_expression ctx searchFor replacement t)
  unfolding substitute_in_expression first_tree
  placed all t ts e = tt
  placed first t ts e = tt
  placed nothing t ts e = tt
  placed value t ts e = tt
  placed test t ts e = tt
  placed branches t ts e = tt
  placed tag (node n kids) ts e = rw e (size-at n.position replacement)

  name-sized : (b : Bool) (n : Node) (kids : Trees) (a : Answer Tree)
      → Sized replacement (node n kids) a → Sized replacement (node n kids) (cond b (replaced (at n.position replacement)) a)
  name-sized true n kids a p = omega (arith, size-at n.position replacement)
  name-sized false n kids a p = p

  mutual
    unfolding substitute_in_expression

    pub sized : (t : Tree) → Sized replacement t (substitute_in_expression ctx searchFor replacement t)
    sized (node n kids) =
        name-sized (is_specific_id searchFor n) n kids _
        (of_node_lem replacement n kids _ _ (all-sized kids (plan ctx searchFor replacement (shape n) n kids) (tagged ctx searchFor replacement (shape n) n kids)))

    pub all-sized : (ts : Trees) (p : Plan) → Tagged searchFor p ts → AllSized replacement ts (substitute_in_children ctx searchFor replacement p ts)
    all-sized none p l = tt
    all-sized (more t ts) p l =
        by-plan replacement p t ts _ _ (sized t) (placed p t ts l) (all-sized ts (next p) (next-untagged searchFor p ts))
