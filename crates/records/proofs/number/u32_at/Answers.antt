use Prim.Native.Nat.{◌+◌}
use mathlib.Core.Path.{◌∙◌, ◌≡◌, ap}
use native.Mathlib.Omega.{arith}
use lib.ListN.{get_or}
use Rattle.records.specs.Bytes.{u16_at, u32_at}
use Rattle.records.proofs.number.u32_at.Goals as goal

pub returns : goal.returns
unfolding u32_at u16_at
returns c =
    let last : get_or c.args.s.now (c.args.at + 3) 0 ≡ get_or c.args.s.now (c.args.at + 2 + 1) 0 = ap (λ k. get_or c.args.s.now k 0) (omega arith) in
    record { result = c.from_le_bytes.ensures ∙ omega (arith, last) }
