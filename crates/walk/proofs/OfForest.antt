-- The search of a forest, from what it did of the first tree and of the others. Assumes nothing.
use Prim.Native.Nat.{ℕ, suc, ◌+◌, ◌≤◌}
use native.Mathlib.Omega.{arith}
use mathlib.Core.Bool.{Bool, true, false, cond}
use mathlib.Core.List.{List, [], ◌++◌}
use mathlib.Core.Path.{◌≡◌, refl, sym, ap, ◌∙◌, subst}
use Rattle.records.specs.Tree.{Tree, Trees, none, more, count, size, sizes}
use Rattle.records.proofs.Tests.{clash}
use Rattle.records_table.specs.Laid.{laid, laids, At}
use Rattle.records_table.proofs.Laid.{back, beyond, whole}
use Rattle.walk_reorder.specs.Passes.{Passes}
use Rattle.walk_rules.specs.Context.{Context}
use Rattle.walk_rules.specs.Effect.{may_have_side_effects, any_has_side_effects}
use Rattle.walk_rules.specs.Substitute.{Answer as RuleAnswer, replaced, stopped, passed, branches, next, in_order, in_branches, by_plan, substitute_in_expression, substitute_in_children}
use Rattle.walk_rules.specs.Looks.{enters_first, goes_on, is_replaced as is_placed, is_passed as isOpen, looks_in_expression, looks_in_children}
use Rattle.walk_arms.specs.declared.arms.Plan.{Plan}
use Rattle.walk_arms.specs.declared.arms.Plan.TheVariants.{All, First, Nothing, Test, Branches}
use Rattle.walk_arms.specs.declared.walked.Answer.{Answer}
use Rattle.walk_arms.specs.declared.walked.Answer.TheVariants.{Replaced, Stopped, Passed}
use Rattle.walk_arms.specs.Arms.{planned, is_nothing, is_branches}
use Rattle.walk_arms.specs.Answers.{is_replaced, is_passed, behind, either, told, told_forest}
use Rattle.walk_arms.specs.Search.{Besides, Did, DidForest}
use Rattle.walk_arms.proofs.Beginning.{nothing-found, nothing-looked}
use Rattle.walk.proofs.Putting.{alone-besides, alone-told, first-besides, first-told, behind-besides, behind-told, either-besides, either-told}

-- The rules' answer that the code's stands for, by its case.
module _ (at : ℕ) (replacement held : Tree) {a : RuleAnswer Tree} where
  as_replaced : (w : Answer) → told w at replacement held ≡ a → is_replaced w ≡ true → (t : Tree) × (a ≡ replaced t)
  unfolding told
  as_replaced (Replaced place indirect) e h = (_, sym e)
  as_replaced Stopped e h = clash false refl h
  as_replaced (Passed effect) e h = clash false refl h

  as_stopped : (w : Answer) → told w at replacement held ≡ a → is_passed w ≡ false → is_replaced w ≡ false → a ≡ stopped held
  unfolding told
  as_stopped (Replaced place indirect) e h g = clash true g refl
  as_stopped Stopped e h g = sym e
  as_stopped (Passed effect) e h g = clash true h refl

  pub as_passed : (effect : Bool) → told (Passed effect) at replacement held ≡ a → a ≡ passed
  unfolding told
  as_passed effect e = sym e

-- where a tree ends in which nothing was replaced
tree-end : (name at : ℕ) (t held : Tree) (end : ℕ) (w : Answer) → is_replaced w ≡ false → Besides name at t held end w → end ≡ at + size t
tree-end name at t held end (Replaced place indirect) g b = clash true g refl
tree-end name at t held end Stopped g b = b
tree-end name at t held end (Passed effect) g b = b.1

-- A plan that enters the first tree, by that tree's answer.
module _ (t : Tree) (ts : Trees) (b : RuleAnswer Trees) where
  enters : (p : Plan) → is_nothing p ≡ false → enters_first (planned p) ≡ true
  unfolding enters_first
  enters All h = refl
  enters First h = refl
  enters Nothing h = clash true h refl
  enters Test h = refl
  enters Branches h = refl

  plan-replaced : (p : Plan) (t' : Tree) → is_nothing p ≡ false → (by_plan (planned p) t ts (replaced t') b ≡ in_order t ts (replaced t') b) × (goes_on (planned p) (replaced t') ≡ false)
  unfolding by_plan in_order in_branches goes_on isOpen is_placed
  plan-replaced All t' h = (refl, refl)
  plan-replaced First t' h = (refl, refl)
  plan-replaced Nothing t' h = clash true h refl
  plan-replaced Test t' h = (refl, refl)
  plan-replaced Branches t' h = (refl, refl)

  plan-passed : (p : Plan) → is_nothing p ≡ false → (by_plan (planned p) t ts passed b ≡ in_order t ts passed b) × (goes_on (planned p) passed ≡ true)
  unfolding by_plan in_branches goes_on isOpen is_placed
  plan-passed All h = (refl, refl)
  plan-passed First h = (refl, refl)
  plan-passed Nothing h = clash true h refl
  plan-passed Test h = (refl, refl)
  plan-passed Branches h = (refl, refl)

  plan-alone : (p : Plan) → is_nothing p ≡ false → (a : RuleAnswer Tree) → by_plan (planned p) t none a passed ≡ in_order t none a passed
  unfolding by_plan in_branches in_order
  plan-alone All h a = refl
  plan-alone First h a = refl
  plan-alone Nothing h a = clash true h refl
  plan-alone Test h a = refl
  plan-alone Branches h (replaced t') = refl
  plan-alone Branches h (stopped t') = refl
  plan-alone Branches h passed = refl

  plan-stopped : (p : Plan) (t' : Tree) → is_nothing p ≡ false → is_branches p ≡ false → (by_plan (planned p) t ts (stopped t') b ≡ in_order t ts (stopped t') b) × (goes_on (planned p) (stopped t') ≡ false)
  unfolding by_plan goes_on isOpen
  plan-stopped All t' h g = (refl, refl)
  plan-stopped First t' h g = (refl, refl)
  plan-stopped Nothing t' h g = clash true h refl
  plan-stopped Test t' h g = (refl, refl)
  plan-stopped Branches t' h g = clash true g refl

  plan-branches : (t' : Tree) → (by_plan branches t ts (stopped t') b ≡ in_branches t ts (stopped t') b) × (goes_on branches (stopped t') ≡ true)
  unfolding by_plan goes_on is_placed
  plan-branches t' = (refl, refl)

-- the plan of branches, and that of nothing
branches-is : (p : Plan) → is_branches p ≡ true → p ≡ Branches
branches-is All h = clash false refl h
branches-is First h = clash false refl h
branches-is Nothing h = clash false refl h
branches-is Test h = clash false refl h
branches-is Branches h = refl

nothing_is : (p : Plan) → is_nothing p ≡ true → p ≡ Nothing
nothing_is All h = clash false refl h
nothing_is First h = clash false refl h
nothing_is Nothing h = refl
nothing_is Test h = clash false refl h
nothing_is Branches h = clash false refl h

cond_none : (b : Bool) (k : ℕ) → k ≡ 0 → ◌≡◌ {A = ℕ} (cond b k 0) 0
cond_none true k e = e
cond_none false k e = refl

module _ (ctx : Context) (name : ℕ) (replacement : Tree) where
  abbrev answer : Tree → RuleAnswer Tree
  answer t = substitute_in_expression ctx name replacement t

  abbrev looks_of : Tree → ℕ
  looks_of t = looks_in_expression ctx name replacement t

  -- What a search did of the trees `ts` by the plan `p`, with its looks.
  abbrev pub ForestDid : List ℕ → ℕ → Plan → Trees → List ℕ → List ℕ → Answer → ℕ → ℕ → Type 0
  ForestDid table at p ts pre rest w end looks =
      (held : Trees) × DidForest table at ts pre rest name replacement w end (substitute_in_children ctx name replacement (planned p) ts) held
      × (looks ≡ looks_in_children ctx name replacement (planned p) ts)

  -- no tree is left
  pub forest_none : {table : List ℕ} {at : ℕ} {pre rest : List ℕ} (p : Plan) (ts : Trees) → count ts ≡ 0 → At table at ts pre rest → ForestDid table at p ts pre rest (Passed false) at 0
  unfolding substitute_in_children looks_in_children count sizes any_has_side_effects told_forest
  forest_none p none z h = (none, record { here = h; says = refl; besides = (refl, omega arith, refl); same = refl; many = refl }, refl)
  forest_none p (more t ts) z h = absurd (omega (arith, z))

  -- nothing is entered
  pub forest_nothing : {table : List ℕ} {at many : ℕ} {pre rest : List ℕ} {end : ℕ} {effect : Bool} (p : Plan) (ts : Trees) → is_nothing p ≡ true → count ts ≡ many → At table at ts pre rest → Passes table at many end effect
      → ForestDid table at p ts pre rest (Passed effect) end 0
  unfolding told_forest
  forest_nothing {pre = pre} {rest} p ts n z h w =
      let (x, y) = w pre ts rest h z in
      (ts, record { here = h; says = rw (nothing_is p n) (sym (nothing-found ctx name replacement ts)); besides = (refl, x, y); same = refl; many = refl }, rw (nothing_is p n) (sym (nothing-looked ctx name replacement ts)))

  -- The forest's first tree `t`, by its answer; the looks at it, and at the others.
  module _ (p : Plan) (n : is_nothing p ≡ false) (t : Tree) (ts : Trees) where
    abbrev rest-answer : RuleAnswer Trees
    rest-answer = substitute_in_children ctx name replacement (next (planned p)) ts

    forest_answer : (a : RuleAnswer Tree) → answer t ≡ a → substitute_in_children ctx name replacement (planned p) (more t ts) ≡ by_plan (planned p) t ts a rest-answer
    unfolding substitute_in_children
    forest_answer a e = ap (λ a. by_plan (planned p) t ts a rest-answer) e

    forest_looks : (a : RuleAnswer Tree) → answer t ≡ a → (on : Bool) → goes_on (planned p) a ≡ on → looks_in_children ctx name replacement (planned p) (more t ts) ≡ looks_of t + cond on (looks_in_children ctx name replacement (next (planned p)) ts) 0
    unfolding looks_in_children
    forest_looks a e on g = rw (enters t ts passed p n, e, g) refl

    alone-looks : (a : RuleAnswer Tree) → answer t ≡ a → goes_on (planned p) a ≡ false → looks_of t ≡ looks_in_children ctx name replacement (planned p) (more t ts)
    alone-looks a e g = omega (arith, forest_looks a e false g)

    none-looks : ts ≡ none → looks_in_children ctx name replacement (next (planned p)) ts ≡ 0
    unfolding looks_in_children
    none-looks z = ap (looks_in_children ctx name replacement (next (planned p))) z

    pub first-looks : looks_of t ≤ looks_in_children ctx name replacement (planned p) (more t ts)
    first-looks = omega (arith, forest_looks (answer t) refl (goes_on (planned p) (answer t)) refl)

    -- it is passed: what a search does of the others, it does of the forest
    module _ (o : answer t ≡ passed) where
      pub passed-looks : looks_in_children ctx name replacement (planned p) (more t ts) ≡ looks_of t + looks_in_children ctx name replacement (next (planned p)) ts
      passed-looks = forest_looks passed o true (plan-passed t ts rest-answer p n).1

      pub passed_forest : {table : List ℕ} {at : ℕ} {pre rest : List ℕ} {w : Answer} {end : ℕ} {held : Trees} (effect : Bool) → effect ≡ may_have_side_effects t
          → DidForest table (at + size t) ts (pre ++ laid t []) rest name replacement w end rest-answer held
          → DidForest table at (more t ts) pre rest name replacement (behind effect w) end (substitute_in_children ctx name replacement (planned p) (more t ts)) (more t held)
      unfolding sizes count
      passed_forest {at = at} {w = w} {end} {held} effect e d = record {
        here = back d.here;
        says = behind-told name at replacement t ts held end effect w d.besides ∙ ap (in_order t ts passed) d.says ∙ sym (forest_answer passed o ∙ (plan-passed t ts rest-answer p n).0);
        besides = behind-besides name at replacement t ts held end effect e w d.besides;
        same = ap (λ k. size t + k) d.same;
        many = ap suc d.many;
      }

      -- it is the only one
      pub only-passed : ts ≡ none → (substitute_in_children ctx name replacement (planned p) (more t ts) ≡ passed) × (looks_in_children ctx name replacement (planned p) (more t ts) ≡ looks_of t)
      unfolding substitute_in_children looks_in_children in_order
      only-passed z = (
        forest_answer passed o ∙ (plan-passed t ts rest-answer p n).0 ∙ ap (λ us. in_order t ts passed (substitute_in_children ctx name replacement (next (planned p)) us)) z,
        passed-looks ∙ ap (λ us. looks_of t + looks_in_children ctx name replacement (next (planned p)) us) z ∙ omega arith,
      )

    alone-answer : (t : Tree) → substitute_in_children ctx name replacement (planned p) (more t none) ≡ in_order t none (answer t) passed
    unfolding substitute_in_children
    alone-answer t = plan-alone t ts passed p n (answer t)

    -- it is the only one: what a search did of it, it did of the forest
    pub forest_alone : {table : List ℕ} {at : ℕ} {pre rest : List ℕ} {w : Answer} {end : ℕ} {held : Tree} → ts ≡ none → Did table at t pre rest name replacement w end (answer t) held → ForestDid table at p (more t ts) pre rest w end (looks_of t)
    unfolding sizes count
    forest_alone {at = at} {w = w} {end} {held} z d = (
      more held none,
      rw z (record {
        here = d.here;
        says = alone-told name at replacement t held d.same end w d.besides ∙ ap (λ a. in_order t none a passed) d.says ∙ sym (alone-answer t);
        besides = alone-besides name at replacement t held d.same end w d.besides;
        same = omega (arith, d.same);
        many = refl;
      }),
      sym (forest_looks (answer t) refl (goes_on (planned p) (answer t)) refl ∙ ap (λ k. looks_of t + k) (cond_none (goes_on (planned p) (answer t)) (looks_in_children ctx name replacement (next (planned p)) ts) (none-looks z)) ∙ omega arith),
    )

    module _ {table : List ℕ} {at : ℕ} {pre rest : List ℕ} {w : Answer} {end : ℕ} {held : Tree} (d : Did table at t pre (laids ts rest) name replacement w end (answer t) held) where
      -- its answer is the forest's own
      answered : {last : ℕ} → is_passed w ≡ false → (is_replaced w ≡ false → last ≡ end + sizes ts) → (a : RuleAnswer Trees) → in_order t ts (answer t) rest-answer ≡ a → DidForest table at (more t ts) pre rest name replacement w last a (more held ts)
      unfolding sizes count
      answered {last} o l a e = record {
        here = whole d.here;
        says = first-told name at replacement t held ts d.same end last w o d.besides rest-answer ∙ ap (λ a. in_order t ts a rest-answer) d.says ∙ e;
        besides = first-besides name at replacement t held ts d.same end last w o d.besides l;
        same = omega (arith, d.same);
        many = refl;
      }

      pub forest_replaced : {last : ℕ} → is_replaced w ≡ true → ForestDid table at p (more t ts) pre rest w last (looks_of t)
      forest_replaced h =
          let (t', e) = as_replaced at replacement held w d.says h in
          let (x, y) = plan-replaced t ts rest-answer p t' n in
          (more held ts, answered (not_passed w h) (λ g. clash (is_replaced w) g h) (substitute_in_children ctx name replacement (planned p) (more t ts)) (ap (λ a. in_order t ts a rest-answer) e ∙ sym (forest_answer (replaced t') e ∙ x)), alone-looks (replaced t') e y)
        where
          not_passed : (w : Answer) → is_replaced w ≡ true → is_passed w ≡ false
          not_passed (Replaced place indirect) h = refl
          not_passed Stopped h = clash false refl h
          not_passed (Passed effect) h = clash false refl h

      -- the others, where they stand now
      pub others-left : is_replaced w ≡ false → At table end ts (pre ++ laid held []) rest
      others-left g = subst (λ k. At table k ts (pre ++ laid held []) rest) (sym (tree-end name at t held end w g d.besides ∙ omega (arith, d.same))) (beyond (whole d.here))

      module _ (h : is_passed w ≡ false) (g : is_replaced w ≡ false) where
        pub forest_stopped : {last : ℕ} → is_branches p ≡ false → last ≡ end + sizes ts → ForestDid table at p (more t ts) pre rest w last (looks_of t)
        forest_stopped b l =
            let e = as_stopped at replacement held w d.says h g in
            let (x, y) = plan-stopped t ts rest-answer p held n b in
            (more held ts, answered h (λ z. l) (substitute_in_children ctx name replacement (planned p) (more t ts)) (ap (λ a. in_order t ts a rest-answer) e ∙ sym (forest_answer (stopped held) e ∙ x)), alone-looks (stopped held) e y)

        -- the search ended in a branch; the others are searched all the same
        pub forest_branches : {table' : List ℕ} {v : Answer} {last looks : ℕ} → is_branches p ≡ true → ForestDid table' end All ts (pre ++ laid held []) rest v last looks → ForestDid table' at p (more t ts) pre rest (either v) last (looks_of t + looks)
        unfolding sizes count next
        forest_branches {table'} {v} {last} {looks} b (us, f, l) =
            let e = as_stopped at replacement held w d.says h g in
            let q = branches-is p b in
            let k : end ≡ at + size held = tree-end name at t held end w g d.besides ∙ omega (arith, d.same) in
            let f' = subst (λ k. DidForest table' k ts (pre ++ laid held []) rest name replacement v last (substitute_in_children ctx name replacement (planned All) ts) us) k f in
            let (x, y) = plan-branches t ts (substitute_in_children ctx name replacement (planned All) ts) held in (
              more held us,
              record {
                here = back f'.here;
                says = either-told name at replacement t held ts us d.same last v f'.besides ∙ ap (in_branches t ts (stopped held)) f'.says ∙ rw q (sym x) ∙ sym (forest_answer (stopped held) e);
                besides = either-besides name at replacement t held ts us d.same last v f'.besides;
                same = omega (arith, f'.same, d.same);
                many = ap suc f'.many;
              },
              ap (λ k. looks_of t + k) (l ∙ sym (ap (λ x. looks_in_children ctx name replacement (next (planned x)) ts) q)) ∙ sym (forest_looks (stopped held) e true (rw q y)),
            )
