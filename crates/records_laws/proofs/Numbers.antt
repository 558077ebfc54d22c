-- Numbers of two and four bytes, from bytes and to them. Assumes nothing.
use mathlib.Core.Path.{◌≡◌, ap}
use mathlib.Core.List.{List, [], ◌∷◌}
use Prim.Native.Nat.{ℕ, ◌+◌, ◌*◌, ◌/◌, ◌%◌, ◌<◌}
use native.Mathlib.Nat.{add_assoc}
use native.Mathlib.Omega.{arith}
use lib.ListN.{get_or, drop}
use lib.Seq.{get_or-drop}
use Rattle.records.specs.Bytes.{u16_at, u32_at, u16_bytes, u32_bytes, Bytes}

-- bytes from a place on are bytes
pub bytes_drop : (k : ℕ) (bs : List ℕ) → Bytes bs → Bytes (drop k bs)
bytes_drop k bs small i = rw (get_or-drop k bs i 0) (small (k + i))

-- a number of two bytes in the bytes from a place on
pub u16_drop : (k : ℕ) (bs : List ℕ) (i : ℕ) → u16_at (drop k bs) i ≡ u16_at bs (k + i)
unfolding u16_at
u16_drop k bs i = rw (get_or-drop k bs i 0, get_or-drop k bs (i + 1) 0, add_assoc)

-- a number of four
pub u32_drop : (k : ℕ) (bs : List ℕ) (i : ℕ) → u32_at (drop k bs) i ≡ u32_at bs (k + i)
unfolding u32_at
u32_drop k bs i = rw (u16_drop k bs i, u16_drop k bs (i + 2), add_assoc)

-- a number is the sum of its two bytes
pub u16_whole : (n : ℕ) → n % 256 + 256 * (n / 256) ≡ n
u16_whole n = omega arith

-- or of its four
pub u32_whole : (n : ℕ) → n % 256 + 256 * (n / 256 % 256) + 65536 * (n / 65536 % 256 + 256 * (n / 16777216)) ≡ n
u32_whole n = omega arith

-- a number that is read of two bytes fits them
pub u16_fits : (bs : List ℕ) → Bytes bs → (i : ℕ) → u16_at bs i < 65536
unfolding u16_at
u16_fits bs small i = omega (arith, small i, small (i + 1))

-- the bytes of a number that was read of bytes are those bytes
module _ (bs : List ℕ) (small : Bytes bs) (i : ℕ) where
  low : u16_at bs i % 256 ≡ get_or bs i 0
  unfolding u16_at
  low = omega (arith, small i)

  high : u16_at bs i / 256 ≡ get_or bs (i + 1) 0
  unfolding u16_at
  high = omega (arith, small i)

  pub u16_again : u16_bytes (u16_at bs i) ≡ get_or bs i 0 ∷ get_or bs (i + 1) 0 ∷ []
  u16_again = λ k. low k ∷ high k ∷ []

-- so are the four of a longer one
pub u32_again : (bs : List ℕ) → Bytes bs → (i : ℕ) → u32_bytes (u32_at bs i) ≡ get_or bs i 0 ∷ get_or bs (i + 1) 0 ∷ get_or bs (i + 2) 0 ∷ get_or bs (i + 3) 0 ∷ []
unfolding u32_at
u32_again bs small i =
    let fits = u16_fits bs small i in
    let last = ap (λ (k : ℕ). get_or bs k 0) (add_assoc i 2 1) in
    let b0 : u32_at bs i % 256 ≡ get_or bs i 0 = omega (arith, low bs small i) in
    let b1 : u32_at bs i / 256 % 256 ≡ get_or bs (i + 1) 0 = omega (arith, high bs small i) in
    let b2 : u32_at bs i / 65536 % 256 ≡ get_or bs (i + 2) 0 = omega (arith, low bs small (i + 2)) in
    let b3 : u32_at bs i / 16777216 ≡ get_or bs (i + 3) 0 = omega (arith, high bs small (i + 2)) in
    λ k. b0 k ∷ b1 k ∷ b2 k ∷ b3 k ∷ []
