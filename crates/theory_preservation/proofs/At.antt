-- A run doesn't look at positions: a tree whose root was given another runs as it did.
use Prim.Native.Nat.{ℕ}
use mathlib.Core.Bool.{Bool, true, false}
use mathlib.Core.List.{List}
use mathlib.Core.Path.{◌≡◌, refl, ap, ◌∙◌}
use Rattle.records.specs.Tree.{Node, Tree, Trees, node, none, more}
use Rattle.records.specs.declared.layout.NameFacts.{NameFacts}
use Rattle.walk_rules.specs.Substitute.{at}
use Rattle.theory_runs.specs.Hand.{Beside, nothing, bare_eval, target_name as aTarget, opaque_target, member, Given}
use Rattle.theory_runs.specs.Step.{Role, Step}
use Rattle.theory_runs.specs.Meaning.{Meaning}
use Rattle.theory_runs.specs.Form.{cleared, is_marked, is_member, is_delete, Form, constant, name, target_name, leaf, chain, property, importing, sequence, assignment, stepping, form, first_role, origin_of}
use Rattle.theory_runs.specs.State.{State, Out, gave, bind}
use Rattle.theory_runs.specs.Run.{Turn, kept, gathered, held, after_first, own, beside, finished, run_node, run, run_children, run_others}
use Rattle.theory_preservation.proofs.Passing.{bind-same}

-- a node at another position
unfoldable pub placed_at : ℕ → Node → Node
placed_at p n = record { kind = n.kind; flags = n.flags; label = n.label; position = p }

pub kept_at : {Value : Type 0} (p : ℕ) (f : Form) (n : Node) (b : Beside Value) → kept f (placed_at p n) b ≡ kept f n b
unfolding kept placed_at is_delete
kept_at p f n nothing = refl
kept_at p f n bare_eval = refl
kept_at p f n (aTarget a) = refl
kept_at p f n (opaque_target l) = refl
kept_at p f n (member o k) = refl

pub role_at : (p : ℕ) (f : Form) (n : Node) (role : Role) → first_role f (placed_at p n) role ≡ first_role f n role
unfolding first_role placed_at is_delete
role_at p f n role = refl

module _ {Value Rest : Type 0} (names : List NameFacts) (m : Meaning Value Rest) where
  held_at : (p : ℕ) (t : Bool) (n : Node) (x : Step Value) (s : State Value Rest) → held m t (placed_at p n) x s ≡ held m t n x s
  unfolding held placed_at is_marked
  held_at p true n x s = refl
  held_at p false n x s = refl

  own_at : (p : ℕ) (f : Form) (n : Node) (role : Role) (x : Step Value) (s : State Value Rest) → own names m f (placed_at p n) role x s ≡ own names m f n role x s
  unfolding own placed_at is_marked
  own_at p constant n role x s = refl
  own_at p name n role x s = held_at p _ n x s
  own_at p target_name n role x s = held_at p _ n x s
  own_at p leaf n role x s = refl
  own_at p chain n role x s = refl
  own_at p property n role x s = refl
  own_at p importing n role x s = refl
  own_at p sequence n role x s = refl
  own_at p (assignment c) n role x s = refl
  own_at p (stepping c) n role x s = refl

  finished-at : (p : ℕ) (f : Form) (n : Node) (role : Role) (hs : List (Given Value)) (s : State Value Rest) → finished names m f (placed_at p n) role hs s ≡ finished names m f n role hs s
  unfolding finished placed_at origin_of is_member beside
  finished-at p f n role hs s = ap (λ o. bind o (λ w s'. gave (record { value = w; beside = beside names m.undefined f n hs }) s')) (own_at p f n role (record { origin = origin_of n role; hand = hs }) s)

  after_first-at : (p : ℕ) (f : Form) (n : Node) (role : Role) (others : Turn → State Value Rest → Out Value Rest (List (Given Value))) (x : Given Value) (s : State Value Rest) → after_first m f (placed_at p n) role others x s ≡ after_first m f n role others x s
  unfolding after_first origin_of is_member
  after_first-at p f n role others x s = rw (kept_at p f n x.beside) (unfold placed_at in refl)

  children-at : (p : ℕ) (ts : Trees) (f : Form) (n : Node) (role : Role) (s : State Value Rest) → run_children names m ts f (placed_at p n) role s ≡ run_children names m ts f n role s
  unfolding run
  children-at p none f n role s = refl
  children-at p (more t ts) f n role s =
      ap (λ ρ. bind (run names m t ρ s) (after_first m f (placed_at p n) role (λ w s'. run_others names m ts w s'))) (role_at p f n role)
      ∙ bind-same (run names m t (first_role f n role) s) _ _ (λ x s'. after_first-at p f n role (λ w s''. run_others names m ts w s'') x s')

  node_at_lem : (p : ℕ) (n : Node) (ts : Trees) (role : Role) (s : State Value Rest) → run names m (node (placed_at p n) ts) role s ≡ run names m (node n ts) role s
  unfolding run run_node form cleared placed_at
  node_at_lem p n ts role s =
      ap (λ o. bind (gathered (form (cleared n)) o s) (finished names m (form (cleared n)) (placed_at p (cleared n)) role)) (children-at p ts (form (cleared n)) (cleared n) role s)
      ∙ bind-same (gathered (form (cleared n)) (run_children names m ts (form (cleared n)) (cleared n) role s) s) _ _ (λ hs s'. finished-at p (form (cleared n)) (cleared n) role hs s')

  -- the root's position makes no difference
  pub run_at : (p : ℕ) (t : Tree) (role : Role) (s : State Value Rest) → run names m (at p t) role s ≡ run names m t role s
  unfolding at placed_at
  run_at p (node n ts) role s = node_at_lem p n ts role s
