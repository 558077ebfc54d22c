use native.Mathlib.Omega.{arith}
use Rattle.records.proofs.Sets.{bit-inside}
use Rattle.records.proofs.set.has_bit.Goals as goal

pub returns : goal.returns
returns c = record { result = rw c.from.ensures (bit-inside _ _ (omega (arith, c.requires.bit))) }
