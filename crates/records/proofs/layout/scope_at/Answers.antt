use Rattle.records.specs.Record.{scope_at}
use Rattle.records.proofs.layout.scope_at.Goals as goal

pub returns : goal.returns
unfolding scope_at
returns c = record { result = cc }
