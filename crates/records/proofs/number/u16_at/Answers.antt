use mathlib.Core.Path.{◌∙◌}
use native.Mathlib.Omega.{arith}
use Rattle.records.specs.Bytes.{u16_at}
use Rattle.records.proofs.number.u16_at.Goals as goal

pub returns : goal.returns
unfolding u16_at
returns c = record { result = c.from_le_bytes.ensures ∙ omega arith }
