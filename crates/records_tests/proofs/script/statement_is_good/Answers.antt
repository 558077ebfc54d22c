use mathlib.Core.Path.{refl}
use Rattle.records.specs.Script.{good_statement}
use Rattle.records_tests.proofs.script.statement_is_good.Goals as goal

pub returns : goal.returns
unfolding good_statement
returns c = record { result = refl }
