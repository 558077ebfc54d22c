use Rattle.records.specs.Facts.{good_name}
use Rattle.records_tests.proofs.facts.name_is_good.Goals as goal

pub returns : goal.returns
unfolding good_name
returns c = record { result = rw (c.is_unresolved-unresolved.ensures.result, c.is_eval-eval.ensures.result, c.is_recorded-recorded.ensures.result) }
