use Rattle.records.specs.Record.{header_of}
use Rattle.records.proofs.layout.header_of.Goals as goal

pub returns : goal.returns
unfolding header_of
returns c = record { result = cc }
