-- Bytes copied within a list.
use Rattle.std.specs.Prelude.{ℕ, ◌+◌, List, ◌++◌, ◌≡◌, take, drop}

-- n bytes from `from` on are copied to `to`; they may overlap.
abbrev pub Copies : List ℕ → List ℕ → ℕ → ℕ → ℕ → Type 0
Copies bs bs' to from n = bs' ≡ take to bs ++ (take n (drop from bs) ++ drop (to + n) bs)
