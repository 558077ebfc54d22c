-- A search that stopped stops again where it is made once more, and changes nothing then. Assumes nothing.
use Prim.Native.Nat.{ℕ, ◌+◌, ◌-◌, ◌/◌, ◌%◌}
use native.Mathlib.Omega.{arith}
use mathlib.Core.Bool.{Bool, true, false, cond, ◌&&◌}
use mathlib.Core.Path.{◌≡◌, refl, ap, ap₂, ◌∙◌, subst}
use borrow.Author.Tests.{eqb-true, eq-eqb}
use Rattle.records.specs.Flags.{shorthand, computed, proto}
use Rattle.records.specs.Tree.{Node, Tree, Trees, node, none, more}
use Rattle.records.proofs.Tests.{clash, and_right}
use Rattle.walk_rules.specs.Context.{Context}
use Rattle.walk_rules.specs.Shape.{is, Choice, never, skips, cuts, picks, Shape, constant, identifier, target_name, leaf, chain, import, delete, sequence, property, stopping, assignment, steps, shape, cleared}
use Rattle.walk_rules.specs.Substitute.{Answer, replaced, stopped, passed, Plan, all, first, nothing, value, test, branches, tag, next, at, as_tag, in_order, in_branches, by_plan, of_node, is_specific_id, keeps_callee, keeps_indirect, plan_for, plan, may_pass, substitute_in_expression, substitute_in_children}
use Rattle.theory_preservation.proofs.Tests.{and_off}
use Rattle.theory_steady.proofs.Bared.{bared, all_bared, Alike, once, specific-cleared, shape-cleared, plan-alike}

-- An answer of a search: where it stopped, the tree that it left is the same but for shorthands, and the search of that tree
-- stops at once.
abbrev Again : (Tree → Answer Tree) → Tree → Answer Tree → Type 0
Again search t (replaced t') = Unit {0}
Again search t (stopped t') = Alike t' t × (search t' ≡ stopped t')
Again search t passed = Unit {0}

abbrev AllAgain : (Trees → Answer Trees) → Trees → Answer Trees → Type 0
AllAgain search ts (replaced ts') = Unit {0}
AllAgain search ts (stopped ts') = (all_bared ts' ≡ all_bared ts) × (search ts' ≡ stopped ts')
AllAgain search ts passed = Unit {0}

row : (t t' : Tree) (ts ts' : Trees) → Alike t t' → all_bared ts ≡ all_bared ts' → all_bared (more t ts) ≡ all_bared (more t' ts')
unfolding bared
row t t' ts ts' e g = ap₂ more e g

-- a child before others
module _ (one : Tree → Answer Tree) (others whole : Trees → Answer Trees) where
  order-again : ((t : Tree) (ts : Trees) → whole (more t ts) ≡ in_order t ts (one t) (others ts)) → (t : Tree) (ts : Trees) (a : Answer Tree) (b : Answer Trees) → one t ≡ a → others ts ≡ b
      → Again one t a → AllAgain others ts b → AllAgain whole (more t ts) (in_order t ts a b)
  unfolding in_order
  order-again h t ts (replaced t') b e g x y = tt
  order-again h t ts (stopped t') b e g (l, x) y = (row t' t ts ts l refl, h t' ts ∙ ap (λ a. in_order t' ts a (others ts)) x)
  order-again h t ts passed (replaced ts') e g x y = tt
  order-again h t ts passed (stopped ts') e g x (l, y) = (row t t ts' ts refl l, h t ts' ∙ ap₂ (in_order t ts') e y)
  order-again h t ts passed passed e g x y = tt

  branches-again : ((t : Tree) (ts : Trees) → whole (more t ts) ≡ in_branches t ts (one t) (others ts)) → (t : Tree) (ts : Trees) (a : Answer Tree) (b : Answer Trees) → one t ≡ a → others ts ≡ b
      → Again one t a → AllAgain others ts b → AllAgain whole (more t ts) (in_branches t ts a b)
  unfolding in_branches in_order
  branches-again h t ts (replaced t') b e g x y = tt
  branches-again h t ts (stopped t') (replaced ts') e g (l, x) y = tt
  branches-again h t ts (stopped t') (stopped ts') e g (l, x) (k, y) = (row t' t ts' ts l k, h t' ts' ∙ ap₂ (in_branches t' ts') x y)
  branches-again h t ts (stopped t') passed e g (l, x) y = (row t' t ts ts l refl, h t' ts ∙ ap₂ (in_branches t' ts) x g)
  branches-again h t ts passed (replaced ts') e g x y = tt
  branches-again h t ts passed (stopped ts') e g x (l, y) = (row t t ts' ts refl l, h t ts' ∙ ap₂ (in_branches t ts') e y)
  branches-again h t ts passed passed e g x y = tt

tag-again : (search : Tree → Answer Tree) (t : Tree) (a : Answer Tree) → Again search t a → Again (λ t. as_tag (search t)) t (as_tag a)
unfolding as_tag
tag-again search t (replaced t') x = tt
tag-again search t (stopped t') (l, x) = (l, ap as_tag x)
tag-again search t passed x = tt

-- without bit 4 the higher bits are the same
higher : (f : ℕ) → f / 16 % 2 ≡ 1 → (f - 16 + 0) / 32 ≡ f / 32
higher f h = omega arith

-- a computed key stays one
computed-by : (n : Node) (b : Bool) → (is 26 n && shorthand n.flags) ≡ b → computed n.flags ≡ true → computed (cleared n).flags ≡ true
unfolding cleared
computed-by n true e h =
    let f = n.flags in
    let s : f / 16 % 2 ≡ 1 = eqb-true (f / 16 % 2) 1 (and_right (is 26 n) (shorthand f) e) in
    let c : f / 32 % 2 ≡ 1 = eqb-true (f / 32 % 2) 1 h in
    rw (e, h, and_off (proto f) false refl) (eq-eqb ((f - 16 + 0) / 32 % 2) 1 (ap (λ x. x % 2) (higher f s) ∙ c))
computed-by n false e h = rw e h

computed-kept : (n : Node) → computed n.flags ≡ true → computed (cleared n).flags ≡ true
computed-kept n h = computed-by n (is 26 n && shorthand n.flags) refl h

module _ (ctx : Context) (v : ℕ) (r : Tree) where
  abbrev search : Tree → Answer Tree
  search t = substitute_in_expression ctx v r t

  abbrev children : Plan → Trees → Answer Trees
  children p ts = substitute_in_children ctx v r p ts

  plan-again : (p : Plan) (t : Tree) (ts : Trees) → Again search t (search t) → AllAgain (children (next p)) ts (children (next p) ts) → AllAgain (children p) (more t ts) (by_plan p t ts (search t) (children (next p) ts))
  unfolding by_plan substitute_in_expression
  plan-again all t ts x y = order-again search (children (next all)) (children all) (λ t ts. refl) t ts (search t) (children (next all) ts) refl refl x y
  plan-again first t ts x y = order-again search (children (next first)) (children first) (λ t ts. refl) t ts (search t) (children (next first) ts) refl refl x y
  plan-again nothing t ts x y = tt
  plan-again value t ts x y = order-again (λ t. passed) (children (next value)) (children value) (λ t ts. refl) t ts passed (children (next value) ts) refl refl tt y
  plan-again test t ts x y = order-again search (children (next test)) (children test) (λ t ts. refl) t ts (search t) (children (next test) ts) refl refl x y
  plan-again branches t ts x y = branches-again search (children (next branches)) (children branches) (λ t ts. refl) t ts (search t) (children (next branches) ts) refl refl x y
  plan-again tag t ts x y = order-again (λ t. as_tag (search t)) (children (next tag)) (children tag) (λ t ts. refl) t ts (as_tag (search t)) (children (next tag) ts) refl refl (tag-again search t (search t) x) y

  none-searched : (ts : Trees) → children nothing ts ≡ passed
  unfolding substitute_in_expression by_plan
  none-searched none = refl
  none-searched (more t ts) = refl

  -- The plan of a node whose shorthand is cleared: the same, or, where a computed key was gained, that of a node which stops.
  data Replanned (n : Node) (ts : Trees) : Type 0 where
    same : plan ctx v r (shape n) (cleared n) ts ≡ plan ctx v r (shape n) n ts → Replanned n ts
    ends : plan ctx v r (shape n) (cleared n) ts ≡ nothing → may_pass ctx v r (shape n) (cleared n) ts ≡ false → Replanned n ts

  choice-kept : (c : Choice) (n : Node) (ts : Trees) → plan_for ctx v r c (cleared n) ts ≡ plan_for ctx v r c n ts
  unfolding plan_for keeps_indirect cleared
  choice-kept never n ts = refl
  choice-kept skips n ts = refl
  choice-kept cuts n ts = refl
  choice-kept picks n ts = refl

  replanned : (sh : Shape) (n : Node) (ts : Trees) (b c : Bool) → shape n ≡ sh → computed (cleared n).flags ≡ b → computed n.flags ≡ c → Replanned n ts
  replanned constant n ts b c e g h = same (rw e (unfold plan in refl))
  replanned identifier n ts b c e g h = same (rw e (unfold plan in refl))
  replanned target_name n ts b c e g h = same (rw e (unfold plan in refl))
  replanned leaf n ts b c e g h = same (rw e (unfold plan in refl))
  replanned chain n ts b c e g h = same (rw e (unfold plan in refl))
  replanned import n ts b c e g h = same (rw e (unfold plan in refl))
  replanned delete n ts b c e g h = same (rw e (unfold plan in refl))
  replanned sequence n ts b c e g h = same (rw e (unfold plan in refl))
  replanned property n ts true c e g h = ends (rw e (unfold plan in rw g)) (rw e (unfold may_pass in rw g))
  replanned property n ts false true e g h = clash (computed (cleared n).flags) g (computed-kept n h)
  replanned property n ts false false e g h = same (rw e (unfold plan in rw (g, h)))
  replanned stopping n ts b c e g h = same (rw e (unfold plan in refl))
  replanned (assignment d) n ts b c e g h = same (rw e (unfold plan in refl))
  replanned (steps d) n ts b c e g h = same (rw e (unfold plan keeps_callee cleared in rw (choice-kept d n ts)))

  -- a node whose children stopped: its shorthand is cleared
  cleared-again : (n : Node) (ts ts' : Trees) → all_bared ts' ≡ all_bared ts → children (plan ctx v r (shape n) n ts) ts' ≡ stopped ts' → is_specific_id v n ≡ false → Replanned n ts'
      → Again search (node n ts) (stopped (node (cleared n) ts'))
  unfolding substitute_in_expression of_node bared
  cleared-again n ts ts' l x i (same e) = (
    ap₂ node (once n) l,
    rw (specific-cleared v n, i, shape-cleared n, e, plan-alike ctx v r (shape n) n ts' ts l, x) (ap (λ m. stopped (node m ts')) (once n)),
  )
  cleared-again n ts ts' l x i (ends e p) =
      (ap₂ node (once n) l, rw (specific-cleared v n, i, shape-cleared n, e, p, none-searched ts'))

  node-again : (n : Node) (ts : Trees) (p : Bool) (a : Answer Trees) → is_specific_id v n ≡ false → may_pass ctx v r (shape n) n ts ≡ p → children (plan ctx v r (shape n) n ts) ts ≡ a
      → AllAgain (children (plan ctx v r (shape n) n ts)) ts a → Again search (node n ts) (of_node n ts p a)
  unfolding of_node
  node-again n ts p (replaced ts') i q e x = tt
  node-again n ts p (stopped ts') i q e (l, x) = cleared-again n ts ts' l x i (replanned (shape n) n ts' (computed (cleared n).flags) (computed n.flags) refl refl refl)
  node-again n ts true passed i q e x = tt
  node-again n ts false passed i q e x = (refl, (unfold substitute_in_expression in rw (i, e, q)))

  name_or : (n : Node) (ts : Trees) (b : Bool) (a : Answer Tree) → is_specific_id v n ≡ b → (is_specific_id v n ≡ false → Again search (node n ts) a) → Again search (node n ts) (cond b (replaced (at n.position r)) a)
  name_or n ts true a e h = tt
  name_or n ts false a e h = h e

  mutual
    unfolding substitute_in_expression

    again : (t : Tree) → Again search t (search t)
    again (node n ts) =
        name_or n ts (is_specific_id v n) _ refl (λ i.
        node-again n ts (may_pass ctx v r (shape n) n ts) (children (plan ctx v r (shape n) n ts) ts) i refl refl (all-again ts (plan ctx v r (shape n) n ts)))

    all-again : (ts : Trees) (p : Plan) → AllAgain (children p) ts (children p ts)
    all-again none p = tt
    all-again (more t ts) p = plan-again p t ts (again t) (all-again ts (next p))

  -- A search that stopped stops again on the tree that it left, and leaves it as it is.
  pub stopped-again : (t t' : Tree) → substitute_in_expression ctx v r t ≡ stopped t' → substitute_in_expression ctx v r t' ≡ stopped t'
  stopped-again t t' e = (subst (λ a. Again search t a) e (again t)).1
