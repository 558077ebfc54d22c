use Rattle.records.specs.Record.{statement_at}
use Rattle.records.proofs.layout.statement_at.Goals as goal

pub returns : goal.returns
unfolding statement_at
returns c = record { result = cc }
