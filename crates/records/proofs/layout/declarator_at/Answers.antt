use Rattle.records.specs.Record.{declarator_at}
use Rattle.records.proofs.layout.declarator_at.Goals as goal

pub returns : goal.returns
unfolding declarator_at
returns c = record { result = cc }
