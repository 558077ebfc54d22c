-- Records that stand one after the other, and tests of all of them.
use Rattle.std.specs.Prelude.{ℕ, zero, suc, ◌+◌, Bool, true, ◌&&◌, List, [], ◌∷◌, ◌++◌}

-- n records of len bytes each, the first of which begins at `at`
unfoldable pub records_from : {A : Type 0} → (ℕ → A) → ℕ → ℕ → ℕ → List A
records_from readAt len zero at = []
records_from readAt len (suc n) at = readAt at ∷ records_from readAt len n (at + len)

-- the bytes of records, one after the other
unfoldable pub bytes_of : {A : Type 0} → (A → List ℕ) → List A → List ℕ
bytes_of bytes [] = []
bytes_of bytes (x ∷ xs) = bytes x ++ bytes_of bytes xs

-- every record is good by its number and itself, where the first has number i
unfoldable pub every_from : {A : Type 0} → (ℕ → A → Bool) → ℕ → List A → Bool
every_from good i [] = true
every_from good i (x ∷ xs) = good i x && every_from good (i + 1) xs

-- every record is good by itself
abbrev pub every : {A : Type 0} → (A → Bool) → List A → Bool
every good xs = every_from (λ i. good) 0 xs
