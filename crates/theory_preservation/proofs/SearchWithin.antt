-- What a search leaves makes no step and no choice that the tree and the initializer don't make.
use Prim.Native.Nat.{ℕ}
use mathlib.Core.Bool.{Bool, true, false, cond, ◌&&◌, ◌||◌, not, or-false}
use mathlib.Core.List.{List, [], ◌∷◌}
use mathlib.Core.Path.{◌≡◌, refl, sym, ap, ◌∙◌, subst}
use Rattle.records.specs.Flags.{is_eval}
use Rattle.records.specs.Script.{flags_of}
use Rattle.records.specs.Tree.{Node, Tree, Trees, node, none, more}
use Rattle.records.specs.Place.{root, stand_under, placed, all_placed}
use Rattle.records.specs.File.{File}
use Rattle.records.specs.declared.layout.NameFacts.{NameFacts}
use Rattle.records.proofs.Tests.{clash, both}
use Rattle.walk_rules.specs.Context.{Context}
use Rattle.walk_rules.specs.Shape.{shape, cleared as walked}
use Rattle.walk_rules.specs.Substitute.{Answer, replaced, stopped, passed, Plan, all, first, nothing as none_at_all, value as behind, test, branches, tag, next, at, preserve_indirect_access, as_tag, in_order, in_branches, by_plan, of_node, is_specific_id, is_member_tag, plan, may_pass, substitute_in_expression, substitute_in_children}
use Rattle.theory_runs.specs.Hand.{Beside, nothing, Hand, first_or}
use Rattle.theory_runs.specs.Step.{Role, value, Step}
use Rattle.theory_runs.specs.Form.{is, cleared, form, order, is_name, is_chain, choice_of, first_role, origin_of}
use Rattle.theory_runs.specs.Run.{Turn, takes, then, kept, beside}
use Rattle.theory_runs.specs.Shapes.{eval_whole}
use Rattle.theory_runs.specs.InHand.{sort_of, same_beside, is_nothing, beside_of, first_of, may_keep, are_values, may_have}
use Rattle.theory_runs.specs.Makes.{Asked, choice, step, is_made, makes_own, asks, some_turn, same_origin, makes_here, makes_in, makes_in_forest, makes}
use Rattle.theory_preservation.proofs.Tests.{and_then, and_on, by_or, or_left, or_right}
use Rattle.theory_preservation.proofs.Tables.{walked_cleared, cleared-once, form-shape, shape-kinds}
use Rattle.theory_preservation.proofs.Kept.{under, in_row}
use Rattle.theory_preservation.proofs.Uses.{specific}
use Rattle.theory_preservation.proofs.Counts.{zero_at, sequence_at}
use Rattle.theory_preservation.proofs.Bare.{gives_nothing}
use Rattle.theory_preservation.proofs.Entered.{Entering}
use Rattle.theory_preservation.proofs.Entering.{Enters, kept-value, value_of_all, plan-enters}
use Rattle.theory_preservation.proofs.MakesAt.{beside_at, makes-at}
use Rattle.theory_preservation.proofs.Besides.{same_sort, sort_same, nothing_is, nothing_sort, same-nothing, nothing-kept, kept_like, beside_like}
use Rattle.theory_preservation.proofs.ByKind.{name-test}
use Rattle.theory_preservation.proofs.Hands.{turn_on}
use Rattle.theory_preservation.proofs.Placeable as G
use Rattle.theory_preservation.proofs.Within.{Within, WithinForest, node-children, row_first, row-others, row-join}

same-cleared : (n : Node) → cleared (walked n) ≡ cleared n
same-cleared n = ap cleared (walked_cleared n) ∙ cleared-once n

-- a child that is the name is evaluated for its value
value-first : (v : ℕ) (r : Tree) (n : Node) (t : Tree) → Entering v r (form n) n t → is_specific_id v (root t) ≡ true → (role : Role) → first_role (form n) n role ≡ value
value-first v r n t e g role = value_of_all (form n) n e.unassigned e.undeleted (and_on (is_chain (form n)) (is_specific_id v (root t)) g e.unchained) role

module _ (Value : Type 0) (f : File) (v : ℕ) (r : Tree) where
  abbrev names : List NameFacts
  names = f.names

  -- a node that keeps nothing of what r gives beside its value
  abbrev KeepsNone : Node → Type 0
  KeepsNone n = is_nothing (kept (form n) n (beside_of names r)) ≡ true

  abbrev Placeable : Type 0
  Placeable = G.Placeable Value f v r

  -- A tree and what a search leaves of it. Where the tree isn't the name, it gives the same beside its value; and where a node
  -- keeps nothing of what r gives, it has no more in hand of what is left than of the tree.
  record Follows (t t' : Tree) : Type 0 where
    same : is_specific_id v (root t) ≡ false → sort_of (beside_of names t') ≡ sort_of (beside_of names t)
    keep : (n : Node) → (is_specific_id v (root t) ≡ true → KeepsNone n) → (b : Beside Value) → may_keep names n t' b ≡ true → may_keep names n t b ≡ true
    within : (role : Role) → (is_specific_id v (root t) ≡ true → role ≡ value) → Within Value f role t → Within Value f role t'

  -- a row of children behind the first
  record FollowsForest (ts ts' : Trees) : Type 0 where
    values : (w : Turn) (hs : Hand Value) → are_values w ts' hs ≡ true → are_values w ts hs ≡ true
    within : WithinForest Value f value ts → WithinForest Value f value ts'

  -- the children of a node
  record FollowsChildren (n : Node) (ts ts' : Trees) : Type 0 where
    first-same : is_chain (form n) ≡ true → sort_of (first_or tt (first_of names n ts')).beside ≡ sort_of (first_or tt (first_of names n ts)).beside
    hand : (w : Turn) (hs : Hand Value) → may_have names n w ts' hs ≡ true → may_have names n w ts hs ≡ true
    within : (role : Role) → WithinForest Value f (first_role (form n) n role) ts → WithinForest Value f (first_role (form n) n role) ts'

  -- so it is of an answer; a tree at which the search stopped isn't the name
  abbrev Follow : Tree → Answer Tree → Type 0
  Follow t (replaced t') = Placeable → Follows t t'
  Follow t (stopped t') = (is_specific_id v (root t) ≡ false) × Follows t t'
  Follow t passed = Unit {0}

  abbrev Answered : (Trees → Trees → Type 0) → Trees → Answer Trees → Type 0
  Answered R ts (replaced ts') = Placeable → R ts ts'
  Answered R ts (stopped ts') = R ts ts'
  Answered R ts passed = Unit {0}

  in_order_lem : (R : Trees → Trees → Type 0) (t : Tree) (ts : Trees)
      → ((t' : Tree) → Placeable → Follows t t' → R (more t ts) (more t' ts))
      → ((t' : Tree) → is_specific_id v (root t) ≡ false → Follows t t' → R (more t ts) (more t' ts))
      → ((ts' : Trees) → FollowsForest ts ts' → R (more t ts) (more t ts'))
      → (a : Answer Tree) (b : Answer Trees) → Follow t a → Answered FollowsForest ts b → Answered R (more t ts) (in_order t ts a b)
  unfolding in_order
  in_order_lem R t ts h g k (replaced t') b x y = λ p. h t' p (x p)
  in_order_lem R t ts h g k (stopped t') b x y = g t' x.0 x.1
  in_order_lem R t ts h g k passed (replaced ts') x y = λ p. k ts' (y p)
  in_order_lem R t ts h g k passed (stopped ts') x y = k ts' y
  in_order_lem R t ts h g k passed passed x y = tt

  -- Children behind the first.
  values-both : (t t' : Tree) (ts ts' : Trees) → ((w : Turn) (hs : Hand Value) → are_values w ts' hs ≡ true → are_values w ts hs ≡ true) → (w : Turn) (hs : Hand Value) → are_values w (more t' ts') hs ≡ true → are_values w (more t ts) hs ≡ true
  unfolding are_values
  values-both t t' ts ts' h w [] e = let (a, b) = both (not (takes w)) (are_values (then w) ts' []) e in rw (a, h (then w) [] b)
  values-both t t' ts ts' h w (x ∷ hs) e = by (takes w) e
    where
      by : (c : Bool) → cond c (is_nothing x.beside && are_values (then w) ts' hs) (are_values (then w) ts' (x ∷ hs)) ≡ true → cond c (is_nothing x.beside && are_values (then w) ts hs) (are_values (then w) ts (x ∷ hs)) ≡ true
      by true e = let (a, b) = both (is_nothing x.beside) (are_values (then w) ts' hs) e in rw (a, h (then w) hs b)
      by false e = h (then w) (x ∷ hs) e

  row-both : (t t' : Tree) (ts ts' : Trees) → Follows t t' → FollowsForest ts ts' → FollowsForest (more t ts) (more t' ts')
  row-both t t' ts ts' h g = record {
    values = values-both t t' ts ts' g.values;
    within = λ w. row-join Value f t' ts' value (h.within value (λ e. refl) (row_first Value f t ts value w)) (g.within (row-others Value f t ts value w));
  }

  tree-same : (t : Tree) → Follows t t
  tree-same t = record { same = λ e. refl; keep = λ n k b e. e; within = λ role g h. h }

  row_same : (ts : Trees) → FollowsForest ts ts
  row_same ts = record { values = λ w hs e. e; within = λ h. h }

  row-order : (t : Tree) (ts : Trees) (a : Answer Tree) (b : Answer Trees) → Follow t a → Answered FollowsForest ts b → Answered FollowsForest (more t ts) (in_order t ts a b)
  row-order t ts a b x y =
      in_order_lem FollowsForest t ts (λ t' p h. row-both t t' ts ts h (row_same ts)) (λ t' e h. row-both t t' ts ts h (row_same ts)) (λ ts' h. row-both t t ts ts' (tree-same t) h) a b x y

  row-branches : (t : Tree) (ts : Trees) (a : Answer Tree) (b : Answer Trees) → Follow t a → Answered FollowsForest ts b → Answered FollowsForest (more t ts) (in_branches t ts a b)
  unfolding in_branches
  row-branches t ts (replaced t') b x y = λ p. row-both t t' ts ts (x p) (row_same ts)
  row-branches t ts (stopped t') (replaced ts') x y = λ p. row-both t t' ts ts' x.1 (y p)
  row-branches t ts (stopped t') (stopped ts') x y = row-both t t' ts ts' x.1 y
  row-branches t ts (stopped t') passed x y = row-both t t' ts ts x.1 (row_same ts)
  row-branches t ts passed b x y = row-order t ts passed b x y

  row-plan : (p : Plan) (t : Tree) (ts : Trees) (a : Answer Tree) (b : Answer Trees) → Follow t a → Answered FollowsForest ts b → Answered FollowsForest (more t ts) (by_plan (next p) t ts a b)
  unfolding next by_plan
  row-plan all t ts a b x y = row-order t ts a b x y
  row-plan first t ts a b x y = tt
  row-plan none_at_all t ts a b x y = tt
  row-plan behind t ts a b x y = row-order t ts a b x y
  row-plan test t ts a b x y = row-branches t ts a b x y
  row-plan branches t ts a b x y = row-order t ts a b x y
  row-plan tag t ts a b x y = row-order t ts a b x y

  -- The first child of a node.
  hand-both : (n : Node) (t t' : Tree) (ts ts' : Trees) → ((b : Beside Value) → may_keep names n t' b ≡ true → may_keep names n t b ≡ true) → ((w : Turn) (hs : Hand Value) → are_values w ts' hs ≡ true → are_values w ts hs ≡ true)
      → (w : Turn) (hs : Hand Value) → may_have names n w (more t' ts') hs ≡ true → may_have names n w (more t ts) hs ≡ true
  unfolding may_have
  hand-both n t t' ts ts' k h w [] e = e
  hand-both n t t' ts ts' k h w (x ∷ hs) e = let (a, b) = both (may_keep names n t' x.beside) (are_values w ts' hs) e in rw (k x.beside a, h w hs b)

  same_first : (n : Node) (t t' : Tree) (ts ts' : Trees) → sort_of (beside_of names t') ≡ sort_of (beside_of names t) → sort_of (first_or tt (first_of names n (more t' ts'))).beside ≡ sort_of (first_or tt (first_of names n (more t ts))).beside
  unfolding beside_of first_or
  same_first n t t' ts ts' e = kept_like (form n) n (beside_of names t') (beside_of names t) e

  child_first : (n : Node) (t t' : Tree) (ts : Trees) → (is_specific_id v (root t) ≡ true → KeepsNone n) → Entering v r (form n) n t → Follows t t' → FollowsChildren n (more t ts) (more t' ts)
  child_first n t t' ts k e h = record {
    first-same = λ q. same_first n t t' ts ts (h.same (unnamed q));
    hand = hand-both n t t' ts ts (λ b q. h.keep n k b q) (λ w hs q. q);
    within = λ role w. row-join Value f t' ts (first_role (form n) n role) (h.within (first_role (form n) n role) (λ g. value-first v r n t e g role) (row_first Value f t ts (first_role (form n) n role) w)) (row-others Value f t ts (first_role (form n) n role) w);
  }
    where
      unnamed : is_chain (form n) ≡ true → is_specific_id v (root t) ≡ false
      unnamed q = and_then (is_chain (form n)) (is_specific_id v (root t)) q e.unchained

  child_rest : (n : Node) (t : Tree) (ts ts' : Trees) → FollowsForest ts ts' → FollowsChildren n (more t ts) (more t ts')
  child_rest n t ts ts' h = record {
    first-same = λ q. same_first n t t ts ts' refl;
    hand = hand-both n t t ts ts' (λ b q. q) h.values;
    within = λ role w. row-join Value f t ts' (first_role (form n) n role) (row_first Value f t ts (first_role (form n) n role) w) (h.within (row-others Value f t ts (first_role (form n) n role) w));
  }

  -- r gives nothing or a member beside its value, and that isn't kept
  keeps-by : (b : Bool) (n : Node) (t : Tree) → is_member_tag r ≡ b → Placeable → Entering v r (form n) n t → is_specific_id v (root t) ≡ true → KeepsNone n
  keeps-by true n t q p e g = ap is_nothing (kept-value v r (form n) n t e g q (beside_of names r)) ∙ (unfold is_nothing sort_of in refl)
  keeps-by false n t q p e g = nothing-kept (form n) n (beside_of names r) (ap is_nothing (gives_nothing names r p.standing p.expression (unfold eval_whole in p.no_eval) q) ∙ (unfold is_nothing sort_of in refl))

  keeps-none : (n : Node) (t : Tree) → Placeable → Entering v r (form n) n t → is_specific_id v (root t) ≡ true → KeepsNone n
  keeps-none n t p e g = keeps-by (is_member_tag r) n t refl p e g

  first-order : (n : Node) (t : Tree) (ts : Trees) (a : Answer Tree) (b : Answer Trees) → Entering v r (form n) n t → Follow t a → Answered FollowsForest ts b → Answered (FollowsChildren n) (more t ts) (in_order t ts a b)
  first-order n t ts a b e x y =
      in_order_lem (FollowsChildren n) t ts (λ t' p h. child_first n t t' ts (λ g. keeps-none n t p e g) e h)
      (λ t' s h. child_first n t t' ts (λ g. clash (is_specific_id v (root t)) s g) e h) (λ ts' h. child_rest n t ts ts' h) a b x y

  rest-order : (n : Node) (t : Tree) (ts : Trees) (b : Answer Trees) → Answered FollowsForest ts b → Answered (FollowsChildren n) (more t ts) (in_order t ts passed b)
  unfolding in_order
  rest-order n t ts (replaced ts') y = λ p. child_rest n t ts ts' (y p)
  rest-order n t ts (stopped ts') y = child_rest n t ts ts' y
  rest-order n t ts passed y = tt

  -- The name gives nothing beside its value.
  name-beside : (n : Node) (ts : Trees) → is_specific_id v n ≡ true → is_eval (flags_of names v) ≡ false → beside_of names (node n ts) ≡ nothing
  unfolding beside_of beside cleared
  name-beside n ts e g = let (k, l) = specific v n e in rw (name-test n, k, l, g)

  name-keep : (n : Node) (t : Tree) (b : Beside Value) → is_specific_id v (root t) ≡ true → is_eval (flags_of names v) ≡ false → is_nothing b ≡ true → may_keep names n t b ≡ true
  unfolding may_keep
  name-keep n (node k ts) b e g h = or_left _ _ (same_sort (kept (form n) n (beside_of names (node k ts))) b (nothing_sort (kept (form n) n (beside_of names (node k ts))) (nothing-kept (form n) n (beside_of names (node k ts)) (ap is_nothing (name-beside k ts e g) ∙ (unfold is_nothing sort_of in refl))) ∙ sym (nothing_sort b h)))

  -- what is kept of a tree that gives nothing to keep is nothing
  keep-nothing : (n : Node) (t : Tree) (b : Beside Value) → is_nothing (kept (form n) n (beside_of names t)) ≡ true → may_keep names n t b ≡ true → is_nothing b ≡ true
  unfolding may_keep
  keep-nothing n t b e h =
      by_or (same_beside (kept (form n) n (beside_of names t)) b) (is 13 (root t) && is_nothing b) (λ q. same-nothing (kept (form n) n (beside_of names t)) b (nothing_is (kept (form n) n (beside_of names t)) e) q) (λ q. (both (is 13 (root t)) (is_nothing b) q).1) h

  -- A tag in whose place the initializer stays indirect.
  still-here : (d : Asked) (x : Step Value) (n : Node) (role : Role) (ts : Trees) → asks d names (form n) n role ≡ false → makes_here names d x n role ts ≡ false
  unfolding makes_here
  still-here d x n role ts e = rw e (and_none (some_turn d (choice_of (form n)) (λ w. may_have names n w ts x.hand)))
    where
      and_none : (b : Bool) → (b && false && same_origin (origin_of n role) x.origin) ≡ false
      and_none true = refl
      and_none false = refl

  quiet : (d : Asked) (p : ℕ) (role : Role) → (asks d names (form (cleared (zero_at p))) (cleared (zero_at p)) role ≡ false) × (asks d names (form (cleared (sequence_at p))) (cleared (sequence_at p)) role ≡ false)
  unfolding asks makes_own is_made choice_of form cleared
  quiet choice p role = (refl, refl)
  quiet (step b) p role = (refl, refl)

  aside-row : (d : Asked) (x : Step Value) (p : ℕ) (t : Tree) (role : Role) → makes_in_forest names d x (more (node (zero_at p) none) (more t none)) role ≡ (makes_in names d x t value || false)
  unfolding makes_in
  aside-row d x p t role = rw (still-here d x (cleared (zero_at p)) role none (quiet d p role).0)

  aside-within : (t : Tree) (role : Role) → Within Value f value t → Within Value f role (preserve_indirect_access t)
  unfolding preserve_indirect_access
  aside-within (node n ts) role h d x e = h d x (sym (or-false (makes_in names d x (node n ts) value)) ∙ sym (aside-by role) ∙ e)
    where
      aside-by : (role : Role) → makes_in names d x (node (sequence_at n.position) (more (node (zero_at n.position) none) (more (node n ts) none))) role ≡ (makes_in names d x (node n ts) value || false)
      aside-by role = unfold makes_in in (rw (still-here d x (cleared (sequence_at n.position)) role (more (node (zero_at n.position) none) (more (node n ts) none)) (quiet d n.position role).1) (aside-row d x n.position (node n ts) _))

  aside-beside : (t : Tree) → is_nothing (beside_of names (preserve_indirect_access t)) ≡ true
  unfolding preserve_indirect_access beside_of beside form cleared is_name is_chain order is_nothing sort_of
  aside-beside (node n ts) = refl

  child_aside : (n : Node) (t t' : Tree) (ts : Trees) → is_specific_id v (root t) ≡ true → Placeable → is_chain (form n) ≡ false → ((role : Role) → first_role (form n) n role ≡ value) → Follows t t' → FollowsChildren n (more t ts) (more (preserve_indirect_access t') ts)
  child_aside n t t' ts e p c g h = record {
    first-same = λ q. clash (is_chain (form n)) c q;
    hand = hand-both n t (preserve_indirect_access t') ts ts (λ b q. name-keep n t b e p.plain (keep-nothing n (preserve_indirect_access t') b (nothing-kept (form n) n (beside_of names (preserve_indirect_access t')) (aside-beside t')) q)) (λ w hs e. e);
    within = λ role w.
        row-join Value f (preserve_indirect_access t') ts (first_role (form n) n role)
        (aside-within t' (first_role (form n) n role) (h.within value (λ e. refl) (subst (λ (ρ : Role). Within Value f ρ t) (g role) (row_first Value f t ts (first_role (form n) n role) w))))
        (row-others Value f t ts (first_role (form n) n role) w);
  }

  tag-order : (n : Node) (t : Tree) (ts : Trees) (a : Answer Tree) (b : Answer Trees) → Enters v r tag (form n) n t → Follow t a → Answered FollowsForest ts b → Answered (FollowsChildren n) (more t ts) (in_order t ts (as_tag a) b)
  unfolding as_tag in_order
  tag-order n t ts (replaced t') b (e, g, h, k) x y = λ p. child_aside n t t' ts e p k (value_of_all (form n) n h g k) (x p)
  tag-order n t ts (stopped t') b (e, g, h, k) x y = clash (is_specific_id v (root t)) x.0 e
  tag-order n t ts passed b (e, g, h, k) x y = rest-order n t ts b y

  -- The children of a node, as the plan has it.
  plan-order : (p : Plan) (n : Node) (t : Tree) (ts : Trees) (a : Answer Tree) (b : Answer Trees) → Enters v r p (form n) n t → Follow t a → Answered FollowsForest ts b → Answered (FollowsChildren n) (more t ts) (by_plan p t ts a b)
  unfolding by_plan
  plan-order all n t ts a b e x y = first-order n t ts a b e x y
  plan-order first n t ts a b e x y = first-order n t ts a b e x y
  plan-order none_at_all n t ts a b e x y = tt
  plan-order behind n t ts a b e x y = rest-order n t ts b y
  plan-order test n t ts a b e x y = first-order n t ts a b e x y
  plan-order branches n t ts a b e x y = absurd e
  plan-order tag n t ts a b e x y = tag-order n t ts a b e x y

  -- A node.
  walked_kind : (n : Node) → (walked n).kind ≡ n.kind
  unfolding walked
  walked_kind n = refl

  node_like : (n : Node) (ts ts' : Trees) → FollowsChildren n ts ts' → sort_of (beside names tt (form n) n (first_of names n ts')) ≡ sort_of (beside names tt (form n) n (first_of names n ts))
  node_like n ts ts' h = beside_like names tt tt (form n) n (first_of names n ts') (first_of names n ts) h.first-same

  node-same : (n : Node) (ts ts' : Trees) → FollowsChildren (cleared n) ts ts' → sort_of (beside_of names (node (walked n) ts')) ≡ sort_of (beside_of names (node n ts))
  unfolding beside_of
  node-same n ts ts' h = ap (λ c. sort_of (beside names tt (form c) c (first_of names c ts'))) (same-cleared n) ∙ node_like (cleared n) ts ts' h

  node-keep : (n : Node) (ts ts' : Trees) (k : Node) (b : Beside Value) → FollowsChildren (cleared n) ts ts' → may_keep names k (node (walked n) ts') b ≡ true → may_keep names k (node n ts) b ≡ true
  unfolding may_keep
  node-keep n ts ts' k b h e =
      by_or (same_beside (kept (form k) k (beside_of names (node (walked n) ts'))) b) (is 13 (walked n) && is_nothing b)
      (λ q. or_left _ _ (same_sort (kept (form k) k (beside_of names (node n ts))) b (sym (kept_like (form k) k (beside_of names (node (walked n) ts')) (beside_of names (node n ts)) (node-same n ts ts' h)) ∙ sort_same (kept (form k) k (beside_of names (node (walked n) ts'))) b q)))
      (λ q. or_right (same_beside (kept (form k) k (beside_of names (node n ts))) b) _ (rw (walked_kind n) at q)) e

  node-within : (n : Node) (ts ts' : Trees) → FollowsChildren (cleared n) ts ts' → (role : Role) → Within Value f role (node n ts) → (d : Asked) (x : Step Value) → (makes_here names d x (cleared n) role ts' || makes_in_forest names d x ts' (first_role (form (cleared n)) (cleared n) role)) ≡ true → makes d f x ≡ true
  node-within n ts ts' h role g d x e =
      by_or (makes_here names d x (cleared n) role ts') (makes_in_forest names d x ts' (first_role (form (cleared n)) (cleared n) role))
      (λ q. g d x (here q)) (λ q. h.within role (node-children Value f n ts role g) d x q) e
    where
      hands : makes_here names d x (cleared n) role ts' ≡ true → makes_here names d x (cleared n) role ts ≡ true
      hands q = unfold makes_here in (
          let (a, b) = both (some_turn d (choice_of (form (cleared n))) (λ w. may_have names (cleared n) w ts' x.hand) && asks d names (form (cleared n)) (cleared n) role) (same_origin (origin_of (cleared n) role) x.origin) q in
          let (c, k) = both (some_turn d (choice_of (form (cleared n))) (λ w. may_have names (cleared n) w ts' x.hand)) (asks d names (form (cleared n)) (cleared n) role) a in
          rw (turn_on d (choice_of (form (cleared n))) (λ w. may_have names (cleared n) w ts' x.hand) (λ w. may_have names (cleared n) w ts x.hand) (λ w z. h.hand w x.hand z) c, k, b)
          )

      here : makes_here names d x (cleared n) role ts' ≡ true → makes_in names d x (node n ts) role ≡ true
      here q = unfold makes_in in or_left (makes_here names d x (cleared n) role ts) _ (hands q)

  node-follows : (n : Node) (ts ts' : Trees) → FollowsChildren (cleared n) ts ts' → Follows (node n ts) (node (walked n) ts')
  node-follows n ts ts' h = record {
    same = λ e. node-same n ts ts' h;
    keep = λ k z b e. node-keep n ts ts' k b h e;
    within = λ role s g d x e. node-within n ts ts' h role g d x (subst (λ c. (makes_here names d x c role ts' || makes_in_forest names d x ts' (first_role (form c) c role)) ≡ true) (same-cleared n) (unfold makes_in in e));
  }

  of_node_lem : (n : Node) (ts : Trees) (pass : Bool) (a : Answer Trees) → is_specific_id v n ≡ false → Answered (FollowsChildren (cleared n)) ts a → Follow (node n ts) (of_node n ts pass a)
  unfolding of_node
  of_node_lem n ts pass (replaced ts') e h = λ p. node-follows n ts ts' (h p)
  of_node_lem n ts pass (stopped ts') e h = (e, node-follows n ts ts' h)
  of_node_lem n ts true passed e h = tt
  of_node_lem n ts false passed e h = (e, tree-same (node n ts))

  -- the name itself
  at_name : (n : Node) (ts : Trees) → is_specific_id v n ≡ true → Placeable → Follows (node n ts) (at n.position r)
  at_name n ts e p = record {
    same = λ q. clash (is_specific_id v n) q e;
    keep = λ k z b g. name-keep k (node n ts) b e p.plain (keep-nothing k (at n.position r) b (ap (λ b. is_nothing (kept (form k) k b)) (beside_at names n.position r) ∙ z e) g);
    within = λ role s g. subst (λ (ρ : Role). Within Value f ρ (at n.position r)) (sym (s e)) (λ d x q. p.steps d x (sym (makes-at names n.position d x r value) ∙ q));
  }

  or_name : (n : Node) (ts : Trees) (b : Bool) (a : Answer Tree) → is_specific_id v n ≡ b → (b ≡ false → Follow (node n ts) a) → Follow (node n ts) (cond b (replaced (at n.position r)) a)
  or_name n ts true a e h = λ p. at_name n ts e p
  or_name n ts false a e h = h refl

  module _ (ctx : Context) where
    enters : (n : Node) (t : Tree) (ts : Trees) → stand_under n 0 (more t ts) ≡ true → Enters v r (plan ctx v r (shape n) n (more t ts)) (form (cleared n)) (cleared n) t
    enters n t ts h = subst (λ F. Enters v r (plan ctx v r (shape n) n (more t ts)) F (cleared n) t) (sym (form-shape n)) (plan-enters v r ctx (shape n) n t ts (shape-kinds n) h)

    mutual
      unfolding substitute_in_expression

      follows : (t : Tree) → placed t ≡ true → Follow t (substitute_in_expression ctx v r t)
      follows (node n ts) h = or_name n ts (is_specific_id v n) _ refl (λ e. of_node_lem n ts (may_pass ctx v r (shape n) n ts) _ e (children_follow ts n (under n ts h).0 (under n ts h).1))

      children_follow : (ts : Trees) (n : Node) → stand_under n 0 ts ≡ true → all_placed ts ≡ true → Answered (FollowsChildren (cleared n)) ts (substitute_in_children ctx v r (plan ctx v r (shape n) n ts) ts)
      children_follow none n h g = tt
      children_follow (more t ts) n h g =
          plan-order (plan ctx v r (shape n) n (more t ts)) (cleared n) t ts _ _ (enters n t ts h) (follows t (in_row t ts g).0) (others_follow ts (plan ctx v r (shape n) n (more t ts)) (in_row t ts g).1)

      others_follow : (ts : Trees) (p : Plan) → all_placed ts ≡ true → Answered FollowsForest ts (substitute_in_children ctx v r (next p) ts)
      others_follow none p g = tt
      others_follow (more t ts) p g = row-plan p t ts _ _ (follows t (in_row t ts g).0) (others_follow ts (next p) (in_row t ts g).1)

    -- a search that replaces, and one that stops
    pub replaced-within : (t t' : Tree) → placed t ≡ true → substitute_in_expression ctx v r t ≡ replaced t' → Placeable → Within Value f value t → Within Value f value t'
    replaced-within t t' h e p w = (subst (λ a. Follow t a) e (follows t h) p).within value (λ g. refl) w

    pub stopped-within : (t t' : Tree) → placed t ≡ true → substitute_in_expression ctx v r t ≡ stopped t' → Within Value f value t → Within Value f value t'
    stopped-within t t' h e w = (subst (λ a. Follow t a) e (follows t h)).1.within value (λ g. refl) w
