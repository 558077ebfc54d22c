use mathlib.Core.Path.{◌∙◌}
use native.Mathlib.Omega.{arith}
use Rattle.records_table.proofs.Standing.{node-again}
use Rattle.records_table.proofs.record_at.Goals as goal

pub returns : goal.returns
returns c = record { result = c.copy_from_slice.ensures.after ∙ node-again c.args.s.now (λ i. (c.type_inv.s i).fits) c.args.at (omega arith) }
