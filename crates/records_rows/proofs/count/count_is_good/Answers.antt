use Rattle.records.specs.Count.{good_counts}
use Rattle.records_rows.proofs.count.count_is_good.Goals as goal

pub returns : goal.returns
unfolding good_counts
returns c = record { result = rw (c.is_recorded-recorded.ensures.result, c.is_mutated-mutated.ensures.result, c.is_unresolved-unresolved.ensures.result, c.from.ensures, c.from-2.ensures) }
