use Rattle.records.specs.Record.{frame_at}
use Rattle.records.proofs.layout.frame_at.Goals as goal

pub returns : goal.returns
unfolding frame_at
returns c = record { result = cc }
