-- What an answer says of a forest and of a node, from what it says of a tree of the forest, of the others, and of the children.
-- Assumes nothing.
use Prim.Native.Nat.{ℕ, zero, suc, ◌+◌, ◌-◌, ◌≤◌, ◌<◌}
use native.Mathlib.Omega.{arith}
use mathlib.Core.Bool.{Bool, true, false, cond, or-false}
use mathlib.Core.Path.{◌≡◌, refl, sym, ap, ◌∙◌}
use lib.Dec.{ltb}
use borrow.Author.Tests.{ltb-false, lt-ltb, le-ltb}
use Rattle.records.specs.Tree.{Node, Tree, Trees, node, none, more, size, sizes}
use Rattle.records.proofs.Tests.{clash}
use Rattle.walk_rules.specs.Shape.{cleared}
use Rattle.walk_rules.specs.Effect.{may_have_side_effects, any_has_side_effects}
use Rattle.walk_rules.specs.Substitute.{Answer as RuleAnswer, replaced, stopped, passed, in_order, in_branches, of_node}
use Rattle.walk_arms.specs.declared.walked.Answer.{Answer}
use Rattle.walk_arms.specs.declared.walked.Answer.TheVariants.{Replaced, Stopped, Passed}
use Rattle.walk_arms.specs.Answers.{is_replaced, is_passed, behind, either, in_place, put_at, put_in, is_name_at, is_name_in, told, told_forest}
use Rattle.walk_arms.specs.Search.{Besides, BesidesForest}

-- a name that is found stands in its tree, and in its forest
module _ (name : ℕ) where
  in_forest : (b : Bool) (k m n : ℕ) (x y : Bool) → ltb k m ≡ b → (x ≡ true → k < m) → (y ≡ true → k - m < n) → cond b x y ≡ true → k < m + n
  in_forest true k m n x y e f g h = omega (arith, f h)
  in_forest false k m n x y e f g h = omega (arith, ltb-false k m e, g h)

  mutual
    unfolding is_name_at is_name_in size sizes

    pub name-within : (t : Tree) (k : ℕ) → is_name_at name t k ≡ true → k < size t
    name-within (node n kids) zero h = omega arith
    name-within (node n kids) (suc k) h = omega (arith, names-within kids k h)

    pub names-within : (ts : Trees) (k : ℕ) → is_name_in name ts k ≡ true → k < sizes ts
    names-within none k h = clash false refl h
    names-within (more t ts) k h =
        in_forest (ltb k (size t)) k (size t) (sizes ts) (is_name_at name t k) (is_name_in name ts (k - size t)) refl (λ x. name-within t k x) (λ x. names-within ts (k - size t) x) h

-- a node of a forest stands in its first tree, or behind that
module _ (t : Tree) (ts : Trees) (k : ℕ) where
  module _ (h : k < size t) where
    pub put_first : (put : Node → Tree) → put_in (more t ts) k put ≡ more (put_at t k put) ts
    unfolding put_in
    put_first put = rw (lt-ltb k (size t) h) refl

    pub name-first : (name : ℕ) → is_name_in name (more t ts) k ≡ is_name_at name t k
    unfolding is_name_in
    name-first name = rw (lt-ltb k (size t) h) refl

  module _ (h : size t ≤ k) where
    put-behind : (put : Node → Tree) → put_in (more t ts) k put ≡ more t (put_in ts (k - size t) put)
    unfolding put_in
    put-behind put = rw (le-ltb k (size t) h) refl

    name-behind : (name : ℕ) → is_name_in name (more t ts) k ≡ is_name_in name ts (k - size t)
    unfolding is_name_in
    name-behind name = rw (le-ltb k (size t) h) refl

-- the place of a name behind a tree
less-size : (place at m : ℕ) → at + m ≤ place → place - at - m ≡ place - (at + m)
less-size place at m h = omega arith

module _ (name at : ℕ) (replacement : Tree) where
  -- The first tree of a forest gave an answer.
  module _ (t held : Tree) (ts : Trees) (m : size held ≡ size t) (end last : ℕ) where
    pub first-besides : (w : Answer) → is_passed w ≡ false → Besides name at t held end w → (is_replaced w ≡ false → last ≡ end + sizes ts) → BesidesForest name at (more t ts) (more held ts) last w
    unfolding sizes
    first-besides (Replaced place indirect) o b l = (b.0, name-first held ts (place.0 - at) (name-within name held (place.0 - at) b.1) name ∙ b.1)
    first-besides Stopped o b l = omega (arith, l refl, b)
    first-besides (Passed effect) o b l = clash true o refl

    pub first-told : (w : Answer) → is_passed w ≡ false → Besides name at t held end w → (b : RuleAnswer Trees) → told_forest w at replacement (more held ts) ≡ in_order t ts (told w at replacement held) b
    unfolding told told_forest in_order
    first-told (Replaced place indirect) o h b = ap replaced (put_first held ts (place.0 - at) (name-within name held (place.0 - at) h.1) (in_place indirect replacement))
    first-told Stopped o h b = refl
    first-told (Passed effect) o h b = clash true o refl

  -- the only tree of a forest
  module _ (t held : Tree) (m : size held ≡ size t) (end : ℕ) where
    pub alone-besides : (w : Answer) → Besides name at t held end w → BesidesForest name at (more t none) (more held none) end w
    unfolding sizes any_has_side_effects
    alone-besides (Replaced place indirect) b = first-besides t held none m end end (Replaced place indirect) refl b (λ h. clash true h refl)
    alone-besides Stopped b = omega (arith, b)
    alone-besides (Passed effect) b = (ap (λ u. more u none) b.0, omega (arith, b.1), b.2 ∙ sym (or-false (may_have_side_effects t)))

    pub alone-told : (w : Answer) → Besides name at t held end w → told_forest w at replacement (more held none) ≡ in_order t none (told w at replacement held) passed
    unfolding told told_forest in_order
    alone-told (Replaced place indirect) b = first-told t held none m end end (Replaced place indirect) refl b passed
    alone-told Stopped b = refl
    alone-told (Passed effect) b = refl

  -- The first tree is passed, and the others gave an answer or are passed.
  module _ (t : Tree) (ts held : Trees) (end : ℕ) where
    shifted : (place : ℕ) → at + size t ≤ place → (size t ≤ place - at) × (place - at - size t ≡ place - (at + size t))
    shifted place h = (omega arith, less-size place at (size t) h)

    pub behind-besides : (effect : Bool) → effect ≡ may_have_side_effects t → (w : Answer) → BesidesForest name (at + size t) ts held end w → BesidesForest name at (more t ts) (more t held) end (behind effect w)
    unfolding sizes any_has_side_effects
    behind-besides effect e (Replaced place indirect) b =
        let (x, y) = shifted place.0 b.0 in
        (omega (arith, b.0), name-behind t held (place.0 - at) x name ∙ ap (is_name_in name held) y ∙ b.1)
    behind-besides effect e Stopped b = omega (arith, b)
    behind-besides effect e (Passed acts) b = (ap (more t) b.0, omega (arith, b.1), rw (e, b.2) refl)

    pub behind-told : (effect : Bool) (w : Answer) → BesidesForest name (at + size t) ts held end w → told_forest (behind effect w) at replacement (more t held) ≡ in_order t ts passed (told_forest w (at + size t) replacement held)
    unfolding told_forest in_order
    behind-told effect (Replaced place indirect) b =
        let (x, y) = shifted place.0 b.0 in
        ap replaced (put-behind t held (place.0 - at) x (in_place indirect replacement) ∙ ap (λ k. more t (put_in held k (in_place indirect replacement))) y)
    behind-told effect Stopped b = refl
    behind-told effect (Passed acts) b = refl

  -- The search ended in the first tree, a branch, and the others are searched all the same.
  module _ (t t' : Tree) (ts held : Trees) (m : size t' ≡ size t) (end : ℕ) where
    pub either-besides : (w : Answer) → BesidesForest name (at + size t') ts held end w → BesidesForest name at (more t ts) (more t' held) end (either w)
    unfolding sizes
    either-besides (Replaced place indirect) b =
        let (x, y) = shifted t' ts held end place.0 b.0 in
        (omega (arith, b.0), name-behind t' held (place.0 - at) x name ∙ ap (is_name_in name held) y ∙ b.1)
    either-besides Stopped b = omega (arith, b, m)
    either-besides (Passed acts) b = omega (arith, b.1, m)

    pub either-told : (w : Answer) → BesidesForest name (at + size t') ts held end w → told_forest (either w) at replacement (more t' held) ≡ in_branches t ts (stopped t') (told_forest w (at + size t') replacement held)
    unfolding told_forest in_branches
    either-told (Replaced place indirect) b =
        let (x, y) = shifted t' ts held end place.0 b.0 in
        ap replaced (put-behind t' held (place.0 - at) x (in_place indirect replacement) ∙ ap (λ k. more t' (put_in held k (in_place indirect replacement))) y)
    either-told Stopped b = refl
    either-told (Passed acts) b = ap (λ us. stopped (more t' us)) b.0

  -- A node whose children gave an answer.
  module _ (n : Node) (kids held : Trees) (end : ℕ) where
    below : (place : ℕ) → at + 1 ≤ place → place - at ≡ suc (place - (at + 1))
    below place h = omega arith

    pub node-besides : (w : Answer) → is_passed w ≡ false → BesidesForest name (at + 1) kids held end w → Besides name at (node n kids) (node (cleared n) held) end w
    unfolding size is_name_at
    node-besides (Replaced place indirect) o b = (omega (arith, b.0), ap (is_name_at name (node (cleared n) held)) (below place.0 b.0) ∙ b.1)
    node-besides Stopped o b = omega (arith, b)
    node-besides (Passed effect) o b = clash true o refl

    pub node-told : (w : Answer) → is_passed w ≡ false → BesidesForest name (at + 1) kids held end w → (pass : Bool) → told w at replacement (node (cleared n) held) ≡ of_node n kids pass (told_forest w (at + 1) replacement held)
    unfolding told told_forest of_node put_at
    node-told (Replaced place indirect) o b pass = ap (λ k. replaced (put_at (node (cleared n) held) k (in_place indirect replacement))) (below place.0 b.0)
    node-told Stopped o b pass = refl
    node-told (Passed effect) o b pass = clash true o refl
