-- One fold of a tree keeps the run: `v = r` and then t, with v read at most once in t, does what the rewritten tree does, the
-- value of v apart.
use mathlib.Core.Path.{◌≡◌, sym, ap, ◌∙◌, subst}
use Rattle.records.specs.Tree.{Tree}
use Rattle.walk_rules.specs.Context.{context_of}
use Rattle.walk_rules.specs.Substitute.{replaced, substitute_in_expression}
use Rattle.theory_runs.specs.Hand.{Given}
use Rattle.theory_runs.specs.Step.{value}
use Rattle.theory_runs.specs.State.{State, Out, bind}
use Rattle.theory_runs.specs.Run.{run}
use Rattle.theory_preservation.proofs.Setting.{Setting}
use Rattle.theory_preservation.proofs.Passing.{Forgets, bind-same, first, drop, forget_bind, first-bind}
use Rattle.theory_preservation.proofs.Placing.{over-bind, value_only, value_only_value}
use Rattle.theory_preservation.proofs.Placing as P
use Rattle.theory_preservation.proofs.Sound.{sound}
use Rattle.theory_preservation.proofs.Asked.{Asked}

module _ {Value Rest : Type 0} (σ : Setting Value Rest) where
  open σ use {file, m, v, r}

  abbrev S : Type 0
  S = State Value Rest

  abbrev O : Type 0 → Type 0
  O A = Out Value Rest A

  abbrev D : {A : Type 0} → O A → O A
  D o = drop σ o

  abbrev go : Tree → S → O (Given Value)
  go t s = run file.names m t value s

  placed : (t t' : Tree) → Asked σ t → substitute_in_expression (context_of file) v r t ≡ replaced t' → (s : S) → P.FairAt σ s t → P.Placed σ t t' s
  placed t t' a e s u = let g : P.Good σ t (replaced t') = subst (λ x. P.Good σ t x) e (sound σ t a) in g.1 s u

  -- with whatever comes behind: all but the value of v is the same
  pub one-fold : {B : Type 0} (t t' : Tree) → Asked σ t → substitute_in_expression (context_of file) v r t ≡ replaced t' → (K : Value → S → O B) → ((w : Value) → Forgets σ (K w))
      → (s : S) → P.FairAt σ s t → D (first σ (λ s. bind (go t s) (λ x s'. K x.value s')) s) ≡ D (bind (go t' s) (λ x s'. K x.value s'))
  one-fold t t' a e K k s u =
      ap D (first-bind σ (go t) _ s ∙ sym (over-bind (value_only σ t) _ _ ∙ bind-same _ _ _ (λ x s'. ap (λ w. K w s') (value_only_value σ t x))))
      ∙ forget_bind σ _ _ (λ x s'. K x.value s') (λ x. k x.value) (placed t t' a e s u)
      ∙ ap D (over-bind (value_only σ t) _ _ ∙ bind-same _ _ _ (λ x s'. ap (λ w. K w s') (value_only_value σ t x)))
