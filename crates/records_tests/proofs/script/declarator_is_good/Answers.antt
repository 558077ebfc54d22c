use Rattle.records.specs.Script.{good_declarator_of}
use Rattle.records_tests.proofs.script.declarator_is_good.Goals as goal

pub returns : goal.returns
unfolding good_declarator_of
returns c = record { result = rw c.is_unresolved-unresolved.ensures.result }
