-- Sets of numbers below 64, as the bits of a number.
use Rattle.std.specs.Prelude.{ℕ, ◌/◌, ◌%◌, ◌^◌, Bool, ◌&&◌, eqb, ltb}

unfoldable pub is_in : ℕ → ℕ → Bool
is_in set e = ltb e 64 && eqb (set / 2 ^ e % 2) 1
