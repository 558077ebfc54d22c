-- What the calls of the walk and of the list walk ask of each other, and what they return. Assumes nothing.
use Prim.Native.Nat.{ℕ, ◌+◌, ◌*◌, ◌-◌, ◌≤◌, ◌<◌}
use native.Mathlib.Omega.{arith}
use mathlib.Core.Bool.{Bool, true, false, ◌&&◌, ◌||◌, not, or-false}
use mathlib.Core.List.{List, [], ◌++◌}
use mathlib.Core.Path.{◌≡◌, refl, sym, ap, ◌∙◌, subst}
use lib.ListN.{length}
use lib.Dec.{eqb}
use borrow.Author.Tests.{eqb-true, not-true}
use Rattle.records.specs.Tree.{Tree, Trees, node, none, more, count, size, sizes}
use Rattle.records.specs.declared.layout.NodeId.{NodeId}
use Rattle.records.proofs.Tests.{both}
use Rattle.records_table.specs.Laid.{laid, laids, At, tree_at, forest_at}
use Rattle.records_table.proofs.Laid.{room, first}
use Rattle.records_table.proofs.TreesAt.{tree-there}
use Rattle.walk_reorder.specs.Passes.{Passes}
use Rattle.walk_rules.specs.Context.{Context}
use Rattle.walk_rules.specs.Substitute.{next, substitute_in_expression}
use Rattle.walk_rules.specs.Looks.{looks_in_expression, looks_in_children}
use Rattle.walk_rules.proofs.Looks.{all-looks_most}
use Rattle.walk_arms.specs.declared.arms.Plan.{Plan}
use Rattle.walk_arms.specs.declared.arms.Plan.TheVariants.{All}
use Rattle.walk_arms.specs.declared.arms.Begun.{Begun}
use Rattle.walk_arms.specs.declared.replacement.Replacement.{Replacement}
use Rattle.walk_arms.specs.declared.walked.Answer.{Answer}
use Rattle.walk_arms.specs.declared.walked.Answer.TheVariants.{Replaced, Stopped, Passed}
use Rattle.walk_arms.specs.declared.walked.Walked.{Walked}
use Rattle.walk_arms.specs.Arms.{planned, is_nothing, is_branches}
use Rattle.walk_arms.specs.Answers.{is_replaced, is_passed, behind, either}
use Rattle.walk_arms.specs.Described.{Describes, IsDescription}
use Rattle.walk_arms.specs.Begins.{BeginsAt}
use Rattle.walk_arms.specs.Search.{all_bare_names, Searchable, SearchableForest, Did, Searches, SearchesForest}
use Rattle.walk.proofs.BareNames.{all-bare}
use Rattle.walk.specs.declared.forest.Forest.{Forest}
use Rattle.walk.specs.Forests.{GoesOn}
use Rattle.walk.proofs.OfForest.{ForestDid, forest_none, forest_nothing, forest_alone, forest_replaced, forest_stopped, forest_branches, others-left, first-looks, as_passed}
use Rattle.walk.proofs.Searching.{forest_stands, there, sought, SeeksForest, sought_forest, begun_forest}
use Rattle.walk.proofs.Rest.{PassesNext, goes-next, goes_further, rest-looks, finished}

-- One child is left, and the plan enters it.
pub is_one_of : (left : ℕ) (p : Plan) → (eqb left 1 && not (is_nothing p)) ≡ true → (left ≡ 1) × (is_nothing p ≡ false)
is_one_of left p h = let (x, y) = both (eqb left 1) (not (is_nothing p)) h in (eqb-true left 1 x, not-true (is_nothing p) y)

pub only_child : {table : List ℕ} {at : ℕ} (many : ℕ) → many ≡ 1 → SearchableForest table at many → Searchable table at × (size (tree_at table at) ≡ sizes (forest_at table at many))
unfolding count sizes
only_child many o (pre, none, rest, h, c, b) = absurd (omega (arith, c, o))
only_child many o (pre, more t none, rest, h, c, b) = ((pre, t, rest, h, (all-bare t none b).0), rw (tree-there h, there h c) (omega arith))
only_child many o (pre, more t (more u us), rest, h, c, b) = absurd (omega (arith, c, o))

module _ (ctx : Context) (known : Replacement) {table table' : List ℕ} {at : ℕ} {r : Walked} where
  pub one_seek : (left : ℕ) (p : Plan) → left ≡ 1 → is_nothing p ≡ false → Searches ctx known table table' at r → SeeksForest ctx known table table' at left p r
  unfolding count
  one_seek left p o n f replacement d pre none rest h c b = absurd (omega (arith, c, o))
  one_seek left p o n f replacement d pre (more t none) rest h c b =
      let (held, x, l) = sought ctx known table table' at r f replacement d pre t rest h in
      let (held', y, k) = forest_alone ctx known.name.0 replacement p n t none refl x in
      (held', y, l ∙ k)
  one_seek left p o n f replacement d pre (more t (more u us)) rest h c b = absurd (omega (arith, c, o))

-- where the call was made, the table and the result are those of the call
pub came : (ctx : Context) (known : Replacement) {table : List ℕ} {nodes nodes' : List ℕ} {at many : ℕ} (p : Plan) {r r' : Walked} → nodes ≡ nodes' → r ≡ r' → SeeksForest ctx known table nodes' at many p r' → SeeksForest ctx known table nodes at many p r
came ctx known {table} {nodes} {nodes'} {at} {many} p {r} {r'} e f w = subst (λ n. SeeksForest ctx known table n at many p r) (sym e) (subst (λ r. SeeksForest ctx known table nodes' at many p r) (sym f) w)

-- the looks of a forest are no more than its nodes
pub forest_looks-most : (ctx : Context) {known : Replacement} {table table' : List ℕ} {at many : ℕ} (p : Plan) {r : Walked} → SeeksForest ctx known table table' at many p r → IsDescription known → SearchableForest table at many → 16 * r.looks ≤ length table
forest_looks-most ctx {known} p f (replacement, d) (pre, ts, rest, h, c, b) =
    let (held, x, l) = f replacement d pre ts rest h c b in omega (arith, l, all-looks_most ctx known.name.0 replacement (planned p) ts, room h)

-- The trees that are left, and the nodes in them.
module _ (ctx : Context) (known : Replacement) {table table' : List ℕ} (r q : Forest) (f : GoesOn ctx known table table' r q) (k : IsDescription known) (w : SearchableForest table r.next.0 r.trees) where
  pub rest-searchable : SearchableForest table' q.next.0 q.trees × (sizes (forest_at table' q.next.0 q.trees) ≤ sizes (forest_at table r.next.0 r.trees))
  rest-searchable =
      let (replacement, d) = k in
      let (pre, ts, rest, h, c, b) = w in
      let (rem, pre', e, l) = f replacement d pre ts rest h c in
      ((pre', rem, rest, l.here, l.many, l.bare b), rw (there h c, there l.here l.many) l.less)

-- the first of the trees that are left, and the others
pub first_child : {table : List ℕ} {at many : ℕ} → (many ≡ 0 → ⊥) → SearchableForest table at many → Searchable table at × (size (tree_at table at) ≤ sizes (forest_at table at many))
unfolding count sizes
first_child z (pre, none, rest, h, c, b) = absurd (z (sym c))
first_child z (pre, more t ts, rest, h, c, b) = ((pre, t, laids ts rest, first h, (all-bare t ts b).0), rw (tree-there (first h), there h c) (omega arith))

-- The first of the trees that are left was searched, from `table` to `table'`.
module _ (ctx : Context) (known : Replacement) {table table' : List ℕ} {at : ℕ} {r : Walked} (f : Searches ctx known table table' at r) where
  -- the looks at it
  pub one-looks : (replacement : Tree) → Describes known replacement → (pre : List ℕ) (ts : Trees) (rest : List ℕ) → At table at ts pre rest → (count ts ≡ 0 → ⊥) → (p : Plan) → is_nothing p ≡ false → r.looks ≤ looks_in_children ctx known.name.0 replacement (planned p) ts
  unfolding count
  one-looks replacement d pre none rest h z p n = absurd (z refl)
  one-looks replacement d pre (more t ts) rest h z p n =
      let (held, x, l) = sought ctx known table table' at r f replacement d pre t (laids ts rest) (first h) in
      omega (arith, l, first-looks ctx known.name.0 replacement p n t ts)

  -- the others, where nothing was replaced in it
  pub others-searchable : {many : ℕ} → IsDescription known → (many ≡ 0 → ⊥) → is_replaced r.answer ≡ false → SearchableForest table at many → SearchableForest table' r.end.0 (many - 1) × (sizes (forest_at table' r.end.0 (many - 1)) < sizes (forest_at table at many))
  unfolding count sizes size
  others-searchable {many} k z g (pre, none, rest, h, c, b) = absurd (z (sym c))
  others-searchable {many} (replacement, d) z g (pre, more (node m kids) ts, rest, h, c, b) =
      let (held, x, l) = sought ctx known table table' at r f replacement d pre (node m kids) (laids ts rest) (first h) in
      let y = others-left ctx known.name.0 replacement All refl (node m kids) ts x g in
      let e : count ts ≡ many - 1 = omega (arith, c) in
      ((pre ++ laid held [], ts, rest, y, e, (all-bare (node m kids) ts b).1), rw (there y e, there h c) (omega arith))

-- What the list walk returns, where `q` is left of the forest.
module _ (ctx : Context) (known : Replacement) (table table₁ : List ℕ) (at : NodeId) (many : ℕ) (p : Plan) (q : Forest) (f : GoesOn ctx known table table₁ (record { next = at; trees = many; plan = p; effect = false; looks = 0 }) q) where
  abbrev started : Forest
  started = record { next = at; trees = many; plan = p; effect = false; looks = 0 }

  pub list_none : (r : Walked) → q.trees ≡ 0 → r ≡ record { answer = Passed q.effect; end = q.next; looks = q.looks } → SeeksForest ctx known table table₁ at.0 many p r
  list_none r z e =
      rw e
      (finished ctx known table table₁ table₁ at.0 many p started q (record { answer = Passed q.effect; end = q.next; looks = q.looks }) (Passed false) 0 refl refl refl refl refl f
      (λ replacement d pre rem rest h c b. forest_none ctx known.name.0 replacement q.plan rem (c ∙ z) h) (ap Passed (sym (or-false q.effect))) (omega arith))

  pub list_nothing : (r : Walked) (end : NodeId) (effect : Bool) → is_nothing q.plan ≡ true → Passes table₁ q.next.0 q.trees end.0 effect → r ≡ record { answer = Passed (q.effect || effect); end = end; looks = q.looks } → SeeksForest ctx known table table₁ at.0 many p r
  list_nothing r end effect n w e =
      rw e
      (finished ctx known table table₁ table₁ at.0 many p started q (record { answer = Passed (q.effect || effect); end = end; looks = q.looks }) (Passed effect) 0 refl refl refl refl refl f
      (λ replacement d pre rem rest h c b. forest_nothing ctx known.name.0 replacement q.plan rem n c h w) refl (omega arith))

  -- The first tree that is left was searched.
  module _ (table₂ : List ℕ) (v : Walked) (g : Searches ctx known table₁ table₂ q.next.0 v) (z : q.trees ≡ 0 → ⊥) (n : is_nothing q.plan ≡ false) where
    tree-first : (r : Walked) (table' : List ℕ) (w : Answer) (looks : ℕ)
        → ((replacement : Tree) → Describes known replacement → (pre : List ℕ) (t : Tree) (ts : Trees) (rest : List ℕ) → At table₁ q.next.0 (more t ts) pre rest → count (more t ts) ≡ q.trees → all_bare_names (more t ts) ≡ true → (held : Tree)
        → Did table₂ q.next.0 t pre (laids ts rest) known.name.0 replacement v.answer v.end.0 (substitute_in_expression ctx known.name.0 replacement t) held → v.looks ≡ looks_in_expression ctx known.name.0 replacement t
        → ForestDid ctx known.name.0 replacement table' q.next.0 q.plan (more t ts) pre rest w r.end.0 looks)
        → r.answer ≡ behind q.effect w → r.looks ≡ q.looks + looks → SeeksForest ctx known table table' at.0 many p r
    unfolding count
    tree-first r table' w looks m a l = finished ctx known table table₁ table' at.0 many p started q r w looks refl refl refl refl refl f by a l
      where
        by : (replacement : Tree) → Describes known replacement → (pre : List ℕ) (rem : Trees) (rest : List ℕ) → At table₁ q.next.0 rem pre rest → count rem ≡ q.trees → all_bare_names rem ≡ true
            → ForestDid ctx known.name.0 replacement table' q.next.0 q.plan rem pre rest w r.end.0 looks
        by replacement d pre none rest h c b = absurd (z (sym c))
        by replacement d pre (more t ts) rest h c b =
            let (held, x, k) = sought ctx known table₁ table₂ q.next.0 v g replacement d pre t (laids ts rest) (first h) in
            m replacement d pre t ts rest h c b held x k

    pub list_replaced : (r : Walked) (place : NodeId) (indirect : Bool) → v.answer ≡ Replaced place indirect → r ≡ record { answer = v.answer; end = v.end; looks = q.looks + v.looks } → SeeksForest ctx known table table₂ at.0 many p r
    list_replaced r place indirect h e =
        rw e
        (tree-first (record { answer = v.answer; end = v.end; looks = q.looks + v.looks }) table₂ v.answer v.looks
        (λ replacement d pre t ts rest j c b held x k. let (held', y, l) = forest_replaced ctx known.name.0 replacement q.plan n t ts x {last = v.end.0} (ap is_replaced h) in (held', y, k ∙ l)) (h ∙ sym (ap (behind q.effect) h)) refl)

    module _ (stopped : v.answer ≡ Stopped) where
      h : is_passed v.answer ≡ false
      h = ap is_passed stopped

      g' : is_replaced v.answer ≡ false
      g' = ap is_replaced stopped

      pub list_stopped : (r : Walked) (end : NodeId) (effect : Bool) → is_branches q.plan ≡ false → Passes table₂ v.end.0 (q.trees - 1) end.0 effect → r ≡ record { answer = Stopped; end = end; looks = q.looks + v.looks } → SeeksForest ctx known table table₂ at.0 many p r
      unfolding count
      list_stopped r end effect o w e =
          rw e
          (tree-first (record { answer = Stopped; end = end; looks = q.looks + v.looks }) table₂ v.answer v.looks
          (λ replacement d pre t ts rest j c b held x k.
          let y = others-left ctx known.name.0 replacement q.plan n t ts x g' in
          let (end_is, acts) = w (pre ++ laid held []) ts rest y (omega (arith, c)) in
          let (held', u, l) = forest_stopped ctx known.name.0 replacement q.plan n t ts x h g' o end_is in (held', u, k ∙ l))
          (ap (behind q.effect) (sym stopped)) refl)

      pub list_branches : (r : Walked) (table₃ : List ℕ) (others : Walked) → is_branches q.plan ≡ true → SearchesForest ctx known table₂ table₃ v.end.0 (q.trees - 1) All others → r ≡ record { answer = either others.answer; end = others.end; looks = q.looks + v.looks + others.looks } → SeeksForest ctx known table table₃ at.0 many p r
      unfolding count
      list_branches r table₃ others o w e =
          rw e
          (tree-first (record { answer = either others.answer; end = others.end; looks = q.looks + v.looks + others.looks }) table₃ (either others.answer) (v.looks + others.looks)
          (λ replacement d pre t ts rest j c b held x k.
          let y = others-left ctx known.name.0 replacement q.plan n t ts x g' in
          let z = sought_forest ctx known table₂ table₃ v.end.0 (q.trees - 1) All others w replacement d (pre ++ laid held []) ts rest y (omega (arith, c)) (all-bare t ts b).1 in
          let (held', u, l) = forest_branches ctx known.name.0 replacement q.plan n t ts x h g' o z in (held', u, ap (λ m. m + others.looks) k ∙ l))
          (behind-either others.answer) (omega arith))
        where
          behind-either : (w : Answer) → either w ≡ behind q.effect (either w)
          behind-either (Replaced place indirect) = refl
          behind-either Stopped = refl
          behind-either (Passed effect) = refl

-- The first tree that is left is passed: what is left behind it.
module _ (ctx : Context) (known : Replacement) (table₁ table₂ : List ℕ) (q : Forest) (v : Walked) (acts : Bool) (g : Searches ctx known table₁ table₂ q.next.0 v) (n : is_nothing q.plan ≡ false) (a : v.answer ≡ Passed acts) where
  next-passed : (q' : Forest) → q'.next ≡ v.end → q'.looks ≡ q.looks + v.looks → PassesNext ctx known table₁ table₂ q q' acts
  next-passed q' x y replacement d pre t us rest h c =
      let (held, u, l) = sought ctx known table₁ table₂ q.next.0 v g replacement d pre t (laids us rest) (first h) in
      let u' = subst (λ w. Did table₂ q.next.0 t pre (laids us rest) known.name.0 replacement w v.end.0 (substitute_in_expression ctx known.name.0 replacement t) held) a u in
      let e : q'.next.0 ≡ v.end.0 = ap (λ k. k.0) x in
      let o = others-left ctx known.name.0 replacement q.plan n t us u' refl in (
        as_passed q.next.0 replacement held acts u'.says,
        u'.besides.2,
        y ∙ ap (λ k. q.looks + k) l,
        subst (λ k. At table₂ k us (pre ++ laid t []) rest) (sym e) (subst (λ z. At table₂ v.end.0 us (pre ++ laid z []) rest) u'.besides.0 o),
        e ∙ u'.besides.1,
      )

  pub list_next : (table : List ℕ) (r₀ q' : Forest) (p : Plan) → planned p ≡ next (planned q.plan) → GoesOn ctx known table table₁ r₀ q → (q.trees ≡ 0 → ⊥) → q' ≡ record { next = v.end; trees = q.trees - 1; plan = p; effect = q.effect || acts; looks = q.looks + v.looks } → GoesOn ctx known table table₂ r₀ q'
  list_next table r₀ q' p y f z e =
      rw e
      (goes_further ctx known table table₁ table₂ r₀ q (record { next = v.end; trees = q.trees - 1; plan = p; effect = q.effect || acts; looks = q.looks + v.looks }) f
      (goes-next ctx known table₁ table₂ q (record { next = v.end; trees = q.trees - 1; plan = p; effect = q.effect || acts; looks = q.looks + v.looks }) acts n y (omega (arith, z)) refl
      (next-passed (record { next = v.end; trees = q.trees - 1; plan = p; effect = q.effect || acts; looks = q.looks + v.looks }) refl refl)))

-- The calls of the walk: what falls is the number of nodes.
module _ (ctx : Context) {known : Replacement} {table : List ℕ} {at : ℕ} {g : Begun} (w : BeginsAt ctx table at known g) (k : IsDescription known) (h : Searchable table at) where
  pub list_call : SearchableForest table g.next.0 g.trees × (2 * sizes (forest_at table g.next.0 g.trees) + 1 < 2 * size (tree_at table at))
  list_call = let (replacement, d) = k in let (x, y, z) = begun_forest ctx w replacement d h in (x, omega (arith, y))

  pub child_call : g.trees ≡ 1 → Searchable table g.next.0 × (2 * size (tree_at table g.next.0) < 2 * size (tree_at table at))
  child_call o = let (replacement, d) = k in let (x, y, z) = begun_forest ctx w replacement d h in let (u, v) = only_child g.trees o x in (u, omega (arith, y, v))

-- The looks of a forest so far, and with those at its next tree.
module _ (ctx : Context) (known : Replacement) {table table' : List ℕ} (r q : Forest) (f : GoesOn ctx known table table' r q) (o : r.looks ≡ 0) (k : IsDescription known) (w : SearchableForest table r.next.0 r.trees) where
  pub list_looks : 16 * q.looks ≤ length table
  list_looks = let (replacement, d) = k in let (pre, rem, rest, h, c, l) = rest-looks ctx known table table' r q f k (forest_stands w) replacement d in omega (arith, l, o)

  pub next-looks : (table'' : List ℕ) (v : Walked) → Searches ctx known table' table'' q.next.0 v → (q.trees ≡ 0 → ⊥) → is_nothing q.plan ≡ false → 16 * (q.looks + v.looks) ≤ length table
  next-looks table'' v g z n =
      let (replacement, d) = k in
      let (pre, rem, rest, h, c, l) = rest-looks ctx known table table' r q f k (forest_stands w) replacement d in
      omega (arith, l, o, one-looks ctx known g replacement d pre rem rest h (λ e. z (sym c ∙ e)) q.plan n)
