-- A test as a number. Assumes nothing.
use mathlib.Core.Path.{◌≡◌, refl}
use mathlib.Core.Bool.{Bool, true, false}
use Prim.Native.Nat.{ℕ, ◌≤◌}
use mir.Val.{bool_byte}
use Rattle.records.specs.File.{one}
use Rattle.records.proofs.Tests.{one-most}

-- the number that a test becomes is 1 if it holds, else 0
pub byte-one : (b : Bool) → bool_byte b ≡ one b
byte-one true = refl
byte-one false = refl

pub byte-most : {w : ℕ} (b : Bool) → w ≡ bool_byte b → w ≤ 1
byte-most b e = rw (e, byte-one b) (one-most b)
