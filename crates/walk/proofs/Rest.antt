-- What is left of a forest while its trees are passed one after the other, and what the search of that says of the forest.
-- Assumes nothing.
use Prim.Native.Nat.{ℕ, ◌+◌, ◌*◌, ◌≤◌, ◌<◌}
use native.Mathlib.Omega.{arith}
use mathlib.Core.Bool.{Bool, true, false, ◌||◌, or-false}
use mathlib.Core.List.{List, [], ◌++◌}
use mathlib.Core.Path.{◌≡◌, refl, sym, ap, ◌∙◌, subst}
use lib.ListN.{length}
use Rattle.records.specs.Tree.{Tree, Trees, none, more, count, size, sizes}
use Rattle.records.proofs.Tests.{clash}
use Rattle.records_table.specs.Laid.{laid, laids, At, ForestStands}
use Rattle.records_table.proofs.Laid.{room, first, beyond}
use Rattle.walk_rules.specs.Context.{Context}
use Rattle.walk_rules.specs.Effect.{may_have_side_effects}
use Rattle.walk_rules.specs.Substitute.{passed, next, substitute_in_expression, substitute_in_children}
use Rattle.walk_rules.specs.Looks.{looks_in_expression, looks_in_children}
use Rattle.walk_rules.proofs.Looks.{all-looks_most}
use Rattle.walk_arms.specs.declared.arms.Plan.{Plan}
use Rattle.walk_arms.specs.declared.arms.Plan.TheVariants.{All, First, Nothing, Test, Branches}
use Rattle.walk_arms.specs.declared.replacement.Replacement.{Replacement}
use Rattle.walk_arms.specs.declared.walked.Answer.{Answer}
use Rattle.walk_arms.specs.declared.walked.Walked.{Walked}
use Rattle.walk_arms.specs.Arms.{planned, is_all, is_nothing}
use Rattle.walk_arms.specs.Answers.{behind}
use Rattle.walk_arms.specs.Described.{Describes, IsDescription}
use Rattle.walk_arms.specs.Search.{all_bare_names, DidForest}
use Rattle.walk.proofs.BareNames.{all-bare}
use Rattle.walk.specs.declared.forest.Forest.{Forest}
use Rattle.walk.specs.Forests.{GoesOn}
use Rattle.walk.specs.Small.{PassesTree}
use Rattle.walk.proofs.OfForest.{ForestDid, passed_forest, passed-looks}
use Rattle.walk.proofs.Searching.{behind-behind, behind_false, SeeksForest}

-- a plan that enters each tree
all-plan : (p : Plan) → is_all p ≡ true → (is_nothing p ≡ false) × (planned p ≡ next (planned p))
unfolding next
all-plan All h = (refl, refl)
all-plan First h = clash false refl h
all-plan Nothing h = clash false refl h
all-plan Test h = clash false refl h
all-plan Branches h = clash false refl h

or_three : (a b c : Bool) → ((a || b) || c) ≡ (a || (b || c))
or_three true b c = refl
or_three false b c = refl

module _ (ctx : Context) (known : Replacement) where
  -- nothing is passed yet
  pub goes_same : (table : List ℕ) (r : Forest) → GoesOn ctx known table table r r
  goes_same table r replacement d pre ts rest h c = (
    ts,
    pre,
    false,
    record {
      here = h;
      many = c;
      bare = λ b. b;
      less = omega arith;
      effects = sym (or-false r.effect);
      looks = refl;
      on = λ {table'} {answer} {end} {held} f. (held, subst (λ w. DidForest table' r.next.0 ts pre rest known.name.0 replacement w end (substitute_in_children ctx known.name.0 replacement (planned r.plan) ts) held) (sym (behind_false answer)) f);
    },
  )

  -- further trees are passed
  pub goes_further : (table table' table'' : List ℕ) (r q q' : Forest) → GoesOn ctx known table table' r q → GoesOn ctx known table' table'' q q' → GoesOn ctx known table table'' r q'
  goes_further table table' table'' r q q' f g replacement d pre ts rest h c =
      let (rem, pre', e, l) = f replacement d pre ts rest h c in
      let (rem', pre'', e', l') = g replacement d pre' rem rest l.here l.many in (
        rem',
        pre'',
        e || e',
        record {
          here = l'.here;
          many = l'.many;
          bare = λ b. l'.bare (l.bare b);
          less = omega (arith, l.less, l'.less);
          effects = l'.effects ∙ ap (λ b. b || e') l.effects ∙ or_three r.effect e e';
          looks = l.looks ∙ l'.looks;
          on = λ {table' = u} {answer} {end} f. let (held, x) = l'.on f in let (held', y) = l.on x in (held', subst (λ w. DidForest u r.next.0 ts pre rest known.name.0 replacement w end (substitute_in_children ctx known.name.0 replacement (planned r.plan) ts) held') (behind-behind e e' answer) y);
        },
      )

  -- The next tree is passed, from `table` to `table'`.
  abbrev pub PassesNext : List ℕ → List ℕ → Forest → Forest → Bool → Type 0
  PassesNext table table' q q' acts =
      (replacement : Tree) → Describes known replacement → (pre : List ℕ) (t : Tree) (us : Trees) (rest : List ℕ) → At table q.next.0 (more t us) pre rest → count (more t us) ≡ q.trees
      → (substitute_in_expression ctx known.name.0 replacement t ≡ passed) × (acts ≡ may_have_side_effects t) × (q'.looks ≡ q.looks + looks_in_expression ctx known.name.0 replacement t)
      × At table' q'.next.0 us (pre ++ laid t []) rest × (q'.next.0 ≡ q.next.0 + size t)

  module _ (table table' : List ℕ) (q q' : Forest) (acts : Bool) (n : is_nothing q.plan ≡ false) (z : planned q'.plan ≡ next (planned q.plan)) (m : q'.trees + 1 ≡ q.trees) (e : q'.effect ≡ (q.effect || acts)) where
    pub goes-next : PassesNext table table' q q' acts → GoesOn ctx known table table' q q'
    unfolding count sizes
    goes-next f replacement d pre none rest h c = absurd (omega (arith, m, c))
    goes-next f replacement d pre (more t us) rest h c =
        let (o, a, l, h', k) = f replacement d pre t us rest h c in (
          us,
          pre ++ laid t [],
          acts,
          record {
            here = h';
            many = omega (arith, m, c);
            bare = λ b. (all-bare t us b).1;
            less = omega arith;
            effects = e;
            looks = ap (λ k. q.looks + k) (passed-looks ctx known.name.0 replacement q.plan n t us o) ∙ rw z (omega (arith, l));
            on = λ {table' = u} {answer} {end} {held} f. (more t held, passed_forest ctx known.name.0 replacement q.plan n t us o acts a (subst (λ k. DidForest u k us (pre ++ laid t []) rest known.name.0 replacement answer end (substitute_in_children ctx known.name.0 replacement (next (planned q.plan)) us) held) k (subst (λ x. DidForest u q'.next.0 us (pre ++ laid t []) rest known.name.0 replacement answer end (substitute_in_children ctx known.name.0 replacement x us) held) z f)));
          },
        )

  -- What is known of the trees that are left, where some forest stood and some tree is to be placed.
  module _ (table table' : List ℕ) (r q : Forest) (f : GoesOn ctx known table table' r q) (k : IsDescription known) (w : ForestStands table r.next.0 r.trees) where
    pub rest-stands : ForestStands table' q.next.0 q.trees
    rest-stands = let (replacement, d) = k in let (pre, ts, rest, h, c) = w in let (rem, pre', e, l) = f replacement d pre ts rest h c in (pre', rem, rest, l.here, l.many)

    -- the looks so far, and those at the trees that are left
    pub rest-looks : (replacement : Tree) → Describes known replacement → (pre' : List ℕ) × (rem : Trees) × (rest : List ℕ) × At table' q.next.0 rem pre' rest × (count rem ≡ q.trees)
        × (16 * (q.looks + looks_in_children ctx known.name.0 replacement (planned q.plan) rem) ≤ 16 * r.looks + length table)
    rest-looks replacement d =
        let (pre, ts, rest, h, c) = w in
        let (rem, pre', e, l) = f replacement d pre ts rest h c in
        (pre', rem, rest, l.here, l.many, omega (arith, l.looks, all-looks_most ctx known.name.0 replacement (planned r.plan) ts, room h))

  -- a small tree is passed
  module _ (table : List ℕ) (r q : Forest) (f : GoesOn ctx known table table r q) (k : IsDescription known) (w : ForestStands table r.next.0 r.trees) (nodes : ℕ) (acts : Bool) (looks : ℕ) (t : PassesTree ctx known table q.next.0 nodes acts looks) (a : is_all q.plan ≡ true) where
    n : is_nothing q.plan ≡ false
    n = (all-plan q.plan a).0

    small-looks : {pre rest : List ℕ} (replacement : Tree) → Describes known replacement → (rem : Trees) → At table q.next.0 rem pre rest → 0 < count rem → looks ≤ looks_in_children ctx known.name.0 replacement (planned q.plan) rem
    unfolding count
    small-looks replacement d none h c = absurd (omega (arith, c))
    small-looks {pre} {rest} replacement d (more u us) h c =
        let (o, z, a, l) = t replacement d pre u (laids us rest) (first h) in
        omega (arith, l, passed-looks ctx known.name.0 replacement q.plan n u us o)

    small-room : {pre rest : List ℕ} (replacement : Tree) → Describes known replacement → (rem : Trees) → At table q.next.0 rem pre rest → 0 < count rem → q.next.0 + nodes ≤ length table
    unfolding count sizes
    small-room replacement d none h c = absurd (omega (arith, c))
    small-room {pre} {rest} replacement d (more u us) h c = let (o, z, a, l) = t replacement d pre u (laids us rest) (first h) in omega (arith, z, room h)

    pub small-bounds : 0 < q.trees → (q.next.0 + nodes ≤ length table) × (16 * (q.looks + looks) ≤ 16 * r.looks + length table)
    small-bounds p =
        let (replacement, d) = k in
        let (pre, rem, rest, h, c, l) = rest-looks table table r q f k w replacement d in
        (small-room replacement d rem h (omega (arith, c)), omega (arith, l, small-looks replacement d rem h (omega (arith, c))))

    passes-next : (q' : Forest) → q'.next.0 ≡ q.next.0 + nodes → q'.looks ≡ q.looks + looks → PassesNext table table q q' acts
    passes-next q' x y replacement d pre u us rest h c =
        let (o, z, a, l) = t replacement d pre u (laids us rest) (first h) in
        let e : q'.next.0 ≡ q.next.0 + size u = x ∙ ap (λ k. q.next.0 + k) z in
        (o, a, y ∙ ap (λ k. q.looks + k) l, subst (λ k. At table k us (pre ++ laid u []) rest) (sym e) (beyond h), e)

    pub small-passed : (q' : Forest) → q'.plan ≡ q.plan → q'.trees + 1 ≡ q.trees → q'.next.0 ≡ q.next.0 + nodes → q'.effect ≡ (q.effect || acts) → q'.looks ≡ q.looks + looks → GoesOn ctx known table table r q'
    small-passed q' p m x e y = goes_further table table table r q q' f (goes-next table table q q' acts n (ap planned p ∙ (all-plan q.plan a).1) m e (passes-next q' x y))

  -- What the search of the trees that are left did is what it did of the forest.
  pub finished : (table table₁ table' : List ℕ) (at many : ℕ) (p : Plan) (r₀ q : Forest) (r : Walked) (w : Answer) (looks : ℕ) → r₀.next.0 ≡ at → r₀.trees ≡ many → r₀.plan ≡ p → r₀.effect ≡ false → r₀.looks ≡ 0 → GoesOn ctx known table table₁ r₀ q
      → ((replacement : Tree) → Describes known replacement → (pre : List ℕ) (rem : Trees) (rest : List ℕ) → At table₁ q.next.0 rem pre rest → count rem ≡ q.trees → all_bare_names rem ≡ true → ForestDid ctx known.name.0 replacement table' q.next.0 q.plan rem pre rest w r.end.0 looks)
      → r.answer ≡ behind q.effect w → r.looks ≡ q.looks + looks → SeeksForest ctx known table table' at many p r
  finished table table₁ table' at many p r₀ q r w looks x₁ x₂ x₃ x₄ x₅ f g a k replacement d pre ts rest h c b =
      let (rem, pre', e, l) = f replacement d pre ts rest (subst (λ k. At table k ts pre rest) (sym x₁) h) (c ∙ sym x₂) in
      let (held, y, z) = g replacement d pre' rem rest l.here l.many (l.bare b) in
      let (held', u) = l.on y in
      let q-effect : q.effect ≡ e = l.effects ∙ ap (λ b. b || e) x₄ in (
        held',
        subst (λ v. DidForest table' at ts pre rest known.name.0 replacement v r.end.0 (substitute_in_children ctx known.name.0 replacement (planned p) ts) held') (sym (a ∙ ap (λ b. behind b w) q-effect))
            (subst (λ k. DidForest table' k ts pre rest known.name.0 replacement (behind e w) r.end.0 (substitute_in_children ctx known.name.0 replacement (planned p) ts) held') x₁
            (subst (λ p. DidForest table' r₀.next.0 ts pre rest known.name.0 replacement (behind e w) r.end.0 (substitute_in_children ctx known.name.0 replacement (planned p) ts) held') x₃ u)),
        k ∙ ap (λ n. q.looks + n) z ∙ sym l.looks ∙ ap (λ n. n + looks_in_children ctx known.name.0 replacement (planned r₀.plan) ts) x₅ ∙ ap (λ p. 0 + looks_in_children ctx known.name.0 replacement (planned p) ts) x₃ ∙ omega arith,
      )
