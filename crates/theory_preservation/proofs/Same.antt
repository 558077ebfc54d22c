-- Forests and nodes whose parts run the same run the same.
use mathlib.Core.Bool.{Bool, true, false, cond}
use mathlib.Core.List.{List, ◌∷◌}
use mathlib.Core.Path.{◌≡◌, refl, ap, ap₂, ◌∙◌}
use Rattle.records.specs.Tree.{Node, Tree, Trees, more}
use Rattle.records.specs.declared.layout.NameFacts.{NameFacts}
use Rattle.theory_runs.specs.Hand.{Given, only}
use Rattle.theory_runs.specs.Step.{Role, value}
use Rattle.theory_runs.specs.Meaning.{Meaning}
use Rattle.theory_runs.specs.Form.{Choice, never, logical, conditional, optionally, Form, choice_of, first_role}
use Rattle.theory_runs.specs.State.{State, Out, gave, bind}
use Rattle.theory_runs.specs.Run.{Turn, all, skipped, second, third, takes, then, kept, chosen, in_turn, after_first, run_node, run, run_children, run_others}
use Rattle.theory_preservation.proofs.Passing.{bind-same}

-- what a node has in hand of its first child
abbrev pub hand_of : {Value : Type 0} → Form → Node → Given Value → Given Value
hand_of f n x = record { value = x.value; beside = kept f n x.beside }

module _ {Value Rest : Type 0} where
  pub in_turn_same : (c c' : State Value Rest → Out Value Rest (Given Value)) (cs cs' : State Value Rest → Out Value Rest (List (Given Value))) → ((s : State Value Rest) → c' s ≡ c s) → ((s : State Value Rest) → cs' s ≡ cs s) → (s : State Value Rest) → in_turn c' cs' s ≡ in_turn c cs s
  unfolding in_turn
  in_turn_same c c' cs cs' h g s = rw (h s) (bind-same (c s) _ _ (λ x s'. ap (λ o. bind o (λ hs s''. gave (only x.value ∷ hs) s'')) (g s')))

  chosen-same : (c : Choice) (b : Bool) (cs cs' : Turn → State Value Rest → Out Value Rest (List (Given Value))) (s : State Value Rest) → ((w : Turn) → cs' w s ≡ cs w s) → chosen c b cs' s ≡ chosen c b cs s
  unfolding chosen
  chosen-same never b cs cs' s h = h all
  chosen-same logical true cs cs' s h = h all
  chosen-same logical false cs cs' s h = h skipped
  chosen-same conditional true cs cs' s h = h second
  chosen-same conditional false cs cs' s h = h third
  chosen-same optionally true cs cs' s h = h all
  chosen-same optionally false cs cs' s h = refl

  pub goes_same : (m : Meaning Value Rest) (f : Form) (n : Node) (role : Role) (cs cs' : Turn → State Value Rest → Out Value Rest (List (Given Value))) → ((w : Turn) (s : State Value Rest) → cs' w s ≡ cs w s) → (x : Given Value) (s : State Value Rest) → after_first m f n role cs' x s ≡ after_first m f n role cs x s
  unfolding after_first
  goes_same m f n role cs cs' h x s = ap (λ o. bind o (λ hs s'. gave (hand_of f n x ∷ hs) s')) (chosen-same (choice_of f) _ cs cs' s (λ w. h w s))

module _ {Value Rest : Type 0} (names : List NameFacts) (m : Meaning Value Rest) where
  pub others_same : (t t' : Tree) (ts ts' : Trees) (w : Turn) → ((s : State Value Rest) → run names m t' value s ≡ run names m t value s) → ((s : State Value Rest) → run_others names m ts' (then w) s ≡ run_others names m ts (then w) s) → (s : State Value Rest) → run_others names m (more t' ts') w s ≡ run_others names m (more t ts) w s
  unfolding run
  others_same t t' ts ts' w h g s = ap₂ (cond (takes w)) (in_turn_same _ _ _ _ h g s) (g s)

  pub children-same : (t t' : Tree) (ts ts' : Trees) (f : Form) (n : Node) → ((role : Role) (s : State Value Rest) → run names m t' role s ≡ run names m t role s) → ((w : Turn) (s : State Value Rest) → run_others names m ts' w s ≡ run_others names m ts w s) → (role : Role) (s : State Value Rest) → run_children names m (more t' ts') f n role s ≡ run_children names m (more t ts) f n role s
  unfolding run
  children-same t t' ts ts' f n h g role s =
      ap (λ o. bind o (after_first m f n role (λ w s'. run_others names m ts' w s'))) (h (first_role f n role) s)
      ∙ bind-same (run names m t (first_role f n role) s) _ _ (λ x s'. goes_same m f n role (λ w s''. run_others names m ts w s'') (λ w s''. run_others names m ts' w s'') g x s')

  pub node-same : (f : Form) (n : Node) (role : Role) (cs cs' : State Value Rest → Out Value Rest (List (Given Value))) → ((s : State Value Rest) → cs' s ≡ cs s) → (s : State Value Rest) → run_node names m f n role cs' s ≡ run_node names m f n role cs s
  unfolding run_node
  node-same f n role cs cs' h s = rw (h s)
