-- What can be made doesn't go by positions: a tree whose root was given another makes the steps and choices that it made.
use Prim.Native.Nat.{ℕ}
use mathlib.Core.Bool.{◌&&◌, ◌||◌}
use mathlib.Core.List.{List, [], ◌∷◌}
use mathlib.Core.Path.{◌≡◌, refl, ap, ap₂, ◌∙◌, fun_ext}
use Rattle.records.specs.Tree.{Node, Tree, Trees, node, none, more}
use Rattle.records.specs.Place.{root}
use Rattle.records.specs.declared.layout.NameFacts.{NameFacts}
use Rattle.walk_rules.specs.Substitute.{at}
use Rattle.theory_runs.specs.Hand.{Beside, Hand}
use Rattle.theory_runs.specs.Step.{Role, Step}
use Rattle.theory_runs.specs.Form.{is, cleared, is_marked, is_member, Form, constant, name, target_name, leaf, chain, property, importing, sequence, assignment, stepping, form, childless, choice_of, origin_of}
use Rattle.theory_runs.specs.Run.{Turn, kept, beside}
use Rattle.theory_runs.specs.InHand.{same_beside, is_nothing, beside_of, first_of, may_keep, are_values, may_have}
use Rattle.theory_runs.specs.Makes.{Asked, choice, step, makes_own, asks, some_turn, same_origin, makes_here, makes_in, makes_in_forest}
use Rattle.theory_preservation.proofs.At.{placed_at, kept_at, role_at}

form-at : (p : ℕ) (n : Node) → form (placed_at p n) ≡ form n
unfolding form placed_at
form-at p n = refl

origin-at : (p : ℕ) (n : Node) (role : Role) → origin_of (placed_at p n) role ≡ origin_of n role
unfolding origin_of is_member placed_at
origin-at p n role = refl

keeps-at : {Value : Type 0} (p : ℕ) (n : Node) (b : Beside Value) → kept (form (placed_at p n)) (placed_at p n) b ≡ kept (form n) n b
keeps-at p n b = ap (λ f. kept f (placed_at p n) b) (form-at p n) ∙ kept_at p (form n) n b

module _ (names : List NameFacts) (p : ℕ) where
  first-at : (n : Node) (ts : Trees) → first_of names (placed_at p n) ts ≡ first_of names n ts
  unfolding beside_of
  first-at n none = refl
  first-at n (more t ts) = ap (λ b. record { value = tt; beside = b } ∷ []) (keeps-at p n (beside_of names t))

  same-node : (f : Form) (n : Node) (hs : Hand (Unit {0})) → beside names tt f (placed_at p n) hs ≡ beside names tt f n hs
  unfolding beside placed_at
  same-node f n hs = refl

  beside-cleared : (n : Node) (ts : Trees) → beside names tt (form (placed_at p n)) (placed_at p n) (first_of names (placed_at p n) ts) ≡ beside names tt (form n) n (first_of names n ts)
  beside-cleared n ts = ap₂ (λ f hs. beside names tt f (placed_at p n) hs) (form-at p n) (first-at n ts) ∙ same-node (form n) n (first_of names n ts)

  beside-node : (n : Node) (ts : Trees) → beside_of names (node (placed_at p n) ts) ≡ beside_of names (node n ts)
  unfolding beside_of cleared placed_at
  beside-node n ts = beside-cleared (cleared n) ts

  pub beside_at : (t : Tree) → beside_of names (at p t) ≡ beside_of names t
  unfolding at placed_at
  beside_at (node n ts) = beside-node n ts

module _ {Value : Type 0} (names : List NameFacts) (p : ℕ) where
  keep_at : (n : Node) (t : Tree) (b : Beside Value) → may_keep names (placed_at p n) t b ≡ may_keep names n t b
  unfolding may_keep
  keep_at n t b = ap (λ k. same_beside k b || is 13 (root t) && is_nothing b) (keeps-at p n (beside_of names t))

  hand_at : (n : Node) (w : Turn) (ts : Trees) (hs : Hand Value) → may_have names (placed_at p n) w ts hs ≡ may_have names n w ts hs
  unfolding may_have
  hand_at n w none [] = refl
  hand_at n w none (h ∷ hs) = refl
  hand_at n w (more t ts) [] = ap childless (form-at p n)
  hand_at n w (more t ts) (h ∷ hs) = ap (λ b. b && are_values w ts hs) (keep_at n t h.beside)

  turn_at : (d : Asked) (n : Node) (ts : Trees) (hs : Hand Value) → some_turn d (choice_of (form (placed_at p n))) (λ w. may_have names (placed_at p n) w ts hs) ≡ some_turn d (choice_of (form n)) (λ w. may_have names n w ts hs)
  turn_at d n ts hs = ap₂ (λ f test. some_turn d (choice_of f) test) (form-at p n) (fun_ext (λ w. hand_at n w ts hs))

asks_at : (p : ℕ) (names : List NameFacts) (d : Asked) (f : Form) (n : Node) (role : Role) → asks d names f (placed_at p n) role ≡ asks d names f n role
unfolding asks makes_own placed_at is_marked
asks_at p names choice f n role = refl
asks_at p names (step b) constant n role = refl
asks_at p names (step b) name n role = refl
asks_at p names (step b) target_name n role = refl
asks_at p names (step b) leaf n role = refl
asks_at p names (step b) chain n role = refl
asks_at p names (step b) property n role = refl
asks_at p names (step b) importing n role = refl
asks_at p names (step b) sequence n role = refl
asks_at p names (step b) (assignment c) n role = refl
asks_at p names (step b) (stepping c) n role = refl

module _ {Value : Type 0} (names : List NameFacts) (p : ℕ) (d : Asked) (x : Step Value) where
  here-at : (n : Node) (role : Role) (ts : Trees) → makes_here names d x (placed_at p n) role ts ≡ makes_here names d x n role ts
  unfolding makes_here
  here-at n role ts =
      ap₂ (λ a b. a && b && same_origin (origin_of (placed_at p n) role) x.origin) (turn_at names p d n ts x.hand) (ap (λ f. asks d names f (placed_at p n) role) (form-at p n) ∙ asks_at p names d (form n) n role)
      ∙ ap (λ o. some_turn d (choice_of (form n)) (λ w. may_have names n w ts x.hand) && asks d names (form n) n role && same_origin o x.origin) (origin-at p n role)

  node_at_lem : (n : Node) (ts : Trees) (role : Role) → makes_in names d x (node (placed_at p n) ts) role ≡ makes_in names d x (node n ts) role
  unfolding makes_in form placed_at cleared
  node_at_lem n ts role = ap₂ (λ a ρ. a || makes_in_forest names d x ts ρ) (here-at (cleared n) role ts) (role_at p (form (cleared n)) (cleared n) role)

  pub makes-at : (t : Tree) (role : Role) → makes_in names d x (at p t) role ≡ makes_in names d x t role
  unfolding at placed_at
  makes-at (node n ts) role = node_at_lem n ts role
