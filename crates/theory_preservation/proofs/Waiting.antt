-- A tree without effect, in which the name doesn't stand, has a reason where the initializer only reads.
use mathlib.Core.Bool.{false}
use mathlib.Core.List.{List}
use mathlib.Core.Path.{◌≡◌, ap}
use Rattle.records.specs.Tree.{Tree, Trees}
use Rattle.records.specs.declared.layout.NameFacts.{NameFacts}
use Rattle.walk_rules.specs.Effect.{may_have_side_effects}
use Rattle.theory_runs.specs.Step.{Role}
use Rattle.theory_runs.specs.State.{State, Out}
use Rattle.theory_runs.specs.Run.{Turn, run, run_others}
use Rattle.theory_preservation.proofs.Ends.{ends-map}
use Rattle.theory_preservation.proofs.Uses.{reads, all_reads, targets, all_targets}
use Rattle.theory_preservation.proofs.Frame.{frame, frame-others}
use Rattle.theory_preservation.proofs.Kept.{still}
use Rattle.theory_preservation.proofs.Setting.{Setting}
use Rattle.theory_preservation.proofs.Passing.{Put, put_unseen, Framed, worth, Unchanging, Reason, reading, quiet-unchanging}

module _ {Value Rest : Type 0} (σ : Setting Value Rest) where
  open σ use {file, m, v, r, nothing_hidden}

  abbrev S : Type 0
  S = State Value Rest

  abbrev Why : {A : Type 0} → S → (S → Out Value Rest A) → Type 0
  Why s c = Reason σ s c

  abbrev names : List NameFacts
  names = file.names

  pub free-frame : (t : Tree) → reads v t ≡ 0 → targets v t ≡ 0 → (role : Role) → Framed σ (run names m t role)
  free-frame t h g role a s = frame names m v (Put v a) (put_unseen nothing_hidden a) t h g role s

  pub free-others : (ts : Trees) (w : Turn) → all_reads v ts ≡ 0 → all_targets v ts ≡ 0 → Framed σ (run_others names m ts w)
  free-others ts w h g a s = frame-others names m v (Put v a) (put_unseen nothing_hidden a) ts w h g s

  pub unchanging : may_have_side_effects r ≡ false → Unchanging σ
  unchanging e = quiet-unchanging σ e

  pub by-unchanging : {s : S} (t : Tree) (role : Role) → reads v t ≡ 0 → targets v t ≡ 0 → Unchanging σ → may_have_side_effects t ≡ false → Why s (run names m t role)
  by-unchanging t role h g q e = reading q (free-frame t h g role) (λ u. ends-map (still names m u t e role) (λ x s' p. ap (λ (s : S). worth σ s.store) p) (λ s' p. ap (λ (s : S). worth σ s.store) p) absurd)
