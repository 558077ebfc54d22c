-- The folds of every run of a repeat, by computation: their names, in the order in which they are made.
use mathlib.Core.List.{map}
use mathlib.Core.Path.{◌≡◌, refl}
use Rattle.statements_rules.proofs.Computed.{computed}
use Rattle.statements_rules.proofs.Scripts.{file_of}
use Rattle.statements_rules.proofs.Repeats.{cases}
use Rattle.theory_runs.specs.Steady.{folds_of}

pub folded-names : map (λ c. map (λ φ. φ.name) (folds_of c.runs (file_of c.names c.statements))) cases ≡ map (λ c. c.folds) cases
unfolding computed cases folds_of
folded-names = refl
