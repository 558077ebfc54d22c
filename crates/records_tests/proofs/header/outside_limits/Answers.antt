use Rattle.records.specs.Header.{outside_limits}
use Rattle.records_tests.proofs.header.outside_limits.Goals as goal

pub returns : goal.returns
unfolding outside_limits
returns c = record { result = rw (c.from.ensures, c.from-2.ensures) }
