use mathlib.Core.Path.{◌∙◌}
use Rattle.records.specs.Record.{node_bytes}
use Rattle.records_table.specs.Table.{work_bytes}
use Rattle.records_table.proofs.work_bytes.Goals as goal

pub returns : goal.returns
unfolding work_bytes node_bytes
returns c = record { result = λ n e. c.copy.ensures.output ∙ rw e }
