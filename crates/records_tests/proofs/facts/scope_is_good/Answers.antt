use mathlib.Core.Path.{refl}
use Rattle.records.specs.Facts.{good_scope}
use Rattle.records_tests.proofs.facts.scope_is_good.Goals as goal

pub returns : goal.returns
unfolding good_scope
returns c = record { result = refl }
