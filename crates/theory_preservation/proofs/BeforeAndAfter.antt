-- What is asked of a target: it gives the same before the initializer and after it.
use mathlib.Core.List.{List}
use mathlib.Core.Path.{◌≡◌}
use Rattle.records.specs.Tree.{Tree}
use Rattle.records.specs.declared.layout.NameFacts.{NameFacts}
use Rattle.theory_runs.specs.Hand.{Given}
use Rattle.theory_runs.specs.Step.{value}
use Rattle.theory_runs.specs.State.{State, Out, gave}
use Rattle.theory_runs.specs.Run.{run}
use Rattle.theory_runs.specs.Facts.{GivesSame}
use Rattle.theory_preservation.proofs.Setting.{Setting}

module _ {Value Rest : Type 0} (σ : Setting Value Rest) where
  open σ use {file, m, r}

  abbrev S : Type 0
  S = State Value Rest

  abbrev names : List NameFacts
  names = file.names

  abbrev go : Tree → S → Out Value Rest (Given Value)
  go t s = run names m t value s

  abbrev pub Same-given : S → Tree → Type 0
  Same-given s t = (x : Given Value) (s' : S) → go r s ≡ gave x s' → GivesSame names m t s s'
