-- What a search makes of a tree: the name's place is taken, as often as the search says, and shorthands may be cleared.
use Prim.Native.Nat.{ℕ, ◌+◌}
use mathlib.Core.Bool.{Bool, true, false, cond}
use mathlib.Core.Path.{◌≡◌, refl, subst}
use Rattle.records.specs.Tree.{Node, Tree, Trees, node, none, more}
use Rattle.records.specs.File.{first_tree}
use Rattle.records.specs.Place.{root}
use Rattle.walk_rules.specs.Context.{Context}
use Rattle.walk_rules.specs.Shape.{shape, cleared}
use Rattle.walk_rules.specs.Substitute.{Answer, replaced, stopped, passed, Plan, all, first, nothing, value, test, branches, tag, next, at, preserve_indirect_access, as_tag, in_order, in_branches, by_plan, of_node, is_specific_id, plan, substitute_in_expression, substitute_in_children}
use Rattle.walk_rules.proofs.Tagged.{Tagged, tagged, next-untagged}

-- the number says how often r was placed
mutual
  pub data Turned (v : ℕ) (r : Tree) : ℕ → Tree → Tree → Type 0 where
    same : {k : ℕ} {t u : Tree} → k ≡ 0 → u ≡ t → Turned v r k t u
    here : {k : ℕ} {n : Node} {ts : Trees} {u : Tree} → k ≡ 1 → is_specific_id v n ≡ true → u ≡ at n.position r → Turned v r k (node n ts) u
    apart : {k : ℕ} {t u : Tree} (t' : Tree) → k ≡ 1 → is_specific_id v (root t) ≡ true → Turned v r k t t' → u ≡ preserve_indirect_access t' → Turned v r k t u
    under : {k : ℕ} {n : Node} {ts : Trees} {u : Tree} (ts' : Trees) → AllTurned v r k ts ts' → u ≡ node (cleared n) ts' → Turned v r k (node n ts) u

  pub data AllTurned (v : ℕ) (r : Tree) : ℕ → Trees → Trees → Type 0 where
    no_more : {k : ℕ} → k ≡ 0 → AllTurned v r k none none
    both : {k : ℕ} {t t' : Tree} {ts ts' : Trees} (i j : ℕ) → k ≡ i + j → Turned v r i t t' → AllTurned v r j ts ts' → AllTurned v r k (more t ts) (more t' ts')

pub all_same : {v : ℕ} {r : Tree} (ts : Trees) → AllTurned v r 0 ts ts
all_same none = no_more refl
all_same (more t ts) = both 0 0 refl (same refl refl) (all_same ts)

module _ (ctx : Context) (v : ℕ) (r : Tree) where
  abbrev Made : Tree → Answer Tree → Type 0
  Made t (replaced t') = Turned v r 1 t t'
  Made t (stopped t') = Turned v r 0 t t'
  Made t passed = Unit {0}

  abbrev AllMade : Trees → Answer Trees → Type 0
  AllMade ts (replaced ts') = AllTurned v r 1 ts ts'
  AllMade ts (stopped ts') = AllTurned v r 0 ts ts'
  AllMade ts passed = Unit {0}

  order-made : (t : Tree) (ts : Trees) (a : Answer Tree) (b : Answer Trees) → Made t a → AllMade ts b → AllMade (more t ts) (in_order t ts a b)
  unfolding in_order
  order-made t ts (replaced t') b h g = both 1 0 refl h (all_same ts)
  order-made t ts (stopped t') b h g = both 0 0 refl h (all_same ts)
  order-made t ts passed (replaced ts') h g = both 0 1 refl (same refl refl) g
  order-made t ts passed (stopped ts') h g = both 0 0 refl (same refl refl) g
  order-made t ts passed passed h g = tt

  branches-made : (t : Tree) (ts : Trees) (a : Answer Tree) (b : Answer Trees) → Made t a → AllMade ts b → AllMade (more t ts) (in_branches t ts a b)
  unfolding in_branches
  branches-made t ts (replaced t') b h g = both 1 0 refl h (all_same ts)
  branches-made t ts (stopped t') (replaced ts') h g = both 0 1 refl h g
  branches-made t ts (stopped t') (stopped ts') h g = both 0 0 refl h g
  branches-made t ts (stopped t') passed h g = both 0 0 refl h (all_same ts)
  branches-made t ts passed b h g = order-made t ts passed b h g

  tag-made : (t : Tree) (a : Answer Tree) → is_specific_id v (root t) ≡ true → Made t a → Made t (as_tag a)
  unfolding as_tag
  tag-made t (replaced t') e h = apart t' refl e h refl
  tag-made t (stopped t') e h = h
  tag-made t passed e h = tt

  plan-made : (p : Plan) (t : Tree) (ts : Trees) (a : Answer Tree) (b : Answer Trees) → Tagged v p (more t ts) → Made t a → AllMade ts b → AllMade (more t ts) (by_plan p t ts a b)
  unfolding by_plan first_tree
  plan-made all t ts a b e h g = order-made t ts a b h g
  plan-made first t ts a b e h g = order-made t ts a b h g
  plan-made nothing t ts a b e h g = tt
  plan-made value t ts a b e h g = order-made t ts passed b tt g
  plan-made test t ts a b e h g = order-made t ts a b h g
  plan-made branches t ts a b e h g = branches-made t ts a b h g
  plan-made tag t ts a b e h g = order-made t ts (as_tag a) b (tag-made t a e h) g

  node_made : (n : Node) (ts : Trees) (p : Bool) (a : Answer Trees) → AllMade ts a → Made (node n ts) (of_node n ts p a)
  unfolding of_node
  node_made n ts p (replaced ts') g = under ts' g refl
  node_made n ts p (stopped ts') g = under ts' g refl
  node_made n ts true passed g = tt
  node_made n ts false passed g = same refl refl

  name-made : (n : Node) (ts : Trees) (b : Bool) (a : Answer Tree) → is_specific_id v n ≡ b → Made (node n ts) a → Made (node n ts) (cond b (replaced (at n.position r)) a)
  name-made n ts true a e g = here refl e refl
  name-made n ts false a e g = g

  mutual
    unfolding substitute_in_expression

    made : (t : Tree) → Made t (substitute_in_expression ctx v r t)
    made (node n ts) = name-made n ts (is_specific_id v n) _ refl (node_made n ts _ _ (all_made ts (plan ctx v r (shape n) n ts) (tagged ctx v r (shape n) n ts)))

    all_made : (ts : Trees) (p : Plan) → Tagged v p ts → AllMade ts (substitute_in_children ctx v r p ts)
    all_made none p e = tt
    all_made (more t ts) p e = plan-made p t ts _ _ e (made t) (all_made ts (next p) (next-untagged v p ts))

  -- a search that replaces places the initializer once; one that stops, nowhere
  pub replaced-turned : (t t' : Tree) → substitute_in_expression ctx v r t ≡ replaced t' → Turned v r 1 t t'
  replaced-turned t t' e = subst (λ a. Made t a) e (made t)

  pub stopped-turned : (t t' : Tree) → substitute_in_expression ctx v r t ≡ stopped t' → Turned v r 0 t t'
  stopped-turned t t' e = subst (λ a. Made t a) e (made t)
