use Rattle.records.specs.Record.{name_at}
use Rattle.records.proofs.layout.name_at.Goals as goal

pub returns : goal.returns
unfolding name_at
returns c = record { result = cc }
