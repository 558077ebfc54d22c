-- The bytes of a number that fits, as the library gives them. Assumes nothing.
use mathlib.Core.Path.{◌≡◌, ◌∙◌}
use mathlib.Core.List.{List, [], ◌∷◌}
use Prim.Native.Nat.{ℕ, ◌/◌, ◌%◌, ◌<◌}
use native.Mathlib.Omega.{arith}
use Rattle.records.specs.Bytes.{u16_bytes, u32_bytes}

-- the last byte is all that is left
pub u16-written : (n : ℕ) {bs : List ℕ} → n < 65536 → bs ≡ n % 256 ∷ n / 256 % 256 ∷ [] → bs ≡ u16_bytes n
u16-written n h e = let l : n / 256 % 256 ≡ n / 256 = omega arith in e ∙ rw l

pub u32-written : (n : ℕ) {bs : List ℕ} → n < 4294967296 → bs ≡ n % 256 ∷ n / 256 % 256 ∷ n / 65536 % 256 ∷ n / 16777216 % 256 ∷ [] → bs ≡ u32_bytes n
u32-written n h e = let l : n / 16777216 % 256 ≡ n / 16777216 = omega arith in e ∙ rw l
