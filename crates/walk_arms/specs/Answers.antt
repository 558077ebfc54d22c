-- The answers of the code, `Some(true)`, `Some(false)` and `None` of the Rust, and the answers of the rules that they stand
-- for.
use Rattle.std.specs.Prelude.{ℕ, zero, suc, ◌-◌, Bool, true, false, cond, ◌&&◌, ◌||◌, eqb, ltb}
use Rattle.records.specs.Tree.{Node, Tree, Trees, node, none, more, count, size}
use Rattle.walk_rules.specs.Substitute.{Answer as RuleAnswer, replaced, stopped, passed, at as atPosition, preserve_indirect_access, is_specific_id}
use Rattle.walk_arms.specs.declared.walked.Answer.{Answer}
use Rattle.walk_arms.specs.declared.walked.Answer.TheVariants.{Replaced, Stopped, Passed}

abbrev pub is_replaced : Answer → Bool
is_replaced (Replaced place indirect) = true
is_replaced Stopped = false
is_replaced (Passed effect) = false

abbrev pub is_passed : Answer → Bool
is_passed (Replaced place indirect) = false
is_passed Stopped = false
is_passed (Passed effect) = true

-- an answer behind trees that are passed and have this effect
abbrev pub behind : Bool → Answer → Answer
behind effect (Replaced place indirect) = Replaced place indirect
behind effect Stopped = Stopped
behind effect (Passed acts) = Passed (effect || acts)

-- where the search ended in one branch: what it says of both, by what it says of the other
abbrev pub either : Answer → Answer
either (Replaced place indirect) = Replaced place indirect
either Stopped = Stopped
either (Passed effect) = Stopped

-- a tree in the place of a name; where the name is a tag it may have to stay indirect
abbrev pub in_place : Bool → Tree → Node → Tree
in_place indirect t name = cond indirect (preserve_indirect_access (atPosition name.position t)) (atPosition name.position t)

-- a tree with another one in the place of the node that has this number in its preorder; a forest
unfoldable mutual
  pub put_at : Tree → ℕ → (Node → Tree) → Tree
  put_at (node n kids) zero put = put n
  put_at (node n kids) (suc k) put = node n (put_in kids k put)

  pub put_in : Trees → ℕ → (Node → Tree) → Trees
  put_in none k put = none
  put_in (more t ts) k put = cond (ltb k (size t)) (more (put_at t k put) ts) (more t (put_in ts (k - size t) put))

-- the node that has this number is the name, and has no children
unfoldable mutual
  pub is_name_at : ℕ → Tree → ℕ → Bool
  is_name_at name (node n kids) zero = is_specific_id name n && eqb (count kids) 0
  is_name_at name (node n kids) (suc k) = is_name_in name kids k

  pub is_name_in : ℕ → Trees → ℕ → Bool
  is_name_in name none k = false
  is_name_in name (more t ts) k = cond (ltb k (size t)) (is_name_at name t k) (is_name_in name ts (k - size t))

-- The rule's answer: what the code's says of the tree `held` that stands now at node number `at`, where `t` is to be placed;
-- and of a forest.
unfoldable pub told : Answer → ℕ → Tree → Tree → RuleAnswer Tree
told (Replaced place indirect) at t held = replaced (put_at held (place.0 - at) (in_place indirect t))
told Stopped at t held = stopped held
told (Passed effect) at t held = passed

unfoldable pub told_forest : Answer → ℕ → Tree → Trees → RuleAnswer Trees
told_forest (Replaced place indirect) at t held = replaced (put_in held (place.0 - at) (in_place indirect t))
told_forest Stopped at t held = stopped held
told_forest (Passed effect) at t held = passed
