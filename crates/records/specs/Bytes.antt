-- Little-endian numbers, and what a list of bytes is.
use Rattle.std.specs.Prelude.{ℕ, ◌+◌, ◌*◌, ◌/◌, ◌%◌, ◌<◌, List, [], ◌∷◌, get_or}

-- The number in the two bytes at `at`.
unfoldable pub u16_at : List ℕ → ℕ → ℕ
u16_at bs at = get_or bs at 0 + 256 * get_or bs (at + 1) 0

-- The number in the four bytes at `at`.
unfoldable pub u32_at : List ℕ → ℕ → ℕ
u32_at bs at = u16_at bs at + 65536 * u16_at bs (at + 2)

-- The bytes of a number. The last one takes all that is left, so that reading them back gives any number; it is a byte
-- where the number fits.
abbrev pub u16_bytes : ℕ → List ℕ
u16_bytes n = n % 256 ∷ n / 256 ∷ []

abbrev pub u32_bytes : ℕ → List ℕ
u32_bytes n = n % 256 ∷ n / 256 % 256 ∷ n / 65536 % 256 ∷ n / 16777216 ∷ []

-- Every element is a byte, as in every slice of u8.
abbrev pub Bytes : List ℕ → Type 0
Bytes bs = (i : ℕ) → get_or bs i 0 < 256
