-- Bytes that are written over others.
use Rattle.std.specs.Prelude.{ℕ, List, ◌++◌, ◌≡◌, length}

-- From a on new bytes stand in the place of as many.
abbrev pub Overwrites : List ℕ → List ℕ → ℕ → List ℕ → Type 0
Overwrites bs bs' a new = (p x s : List ℕ) → bs ≡ p ++ (x ++ s) → length p ≡ a → length x ≡ length new → bs' ≡ p ++ (new ++ s)
