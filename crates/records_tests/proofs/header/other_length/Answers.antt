use Rattle.records.specs.Header.{other_length}
use Rattle.records_tests.proofs.header.other_length.Goals as goal

pub returns : goal.returns
unfolding other_length
returns c = record { result = rw c.part_offsets-parts.ensures.result }
