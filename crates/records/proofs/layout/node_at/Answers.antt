use Rattle.records.specs.Record.{node_at}
use Rattle.records.proofs.layout.node_at.Goals as goal

pub returns : goal.returns
unfolding node_at
returns c = record { result = cc }
