-- A test of every element of a list. Assumes nothing.
use mathlib.Core.Path.{◌≡◌, refl, sym}
use mathlib.Core.Bool.{Bool, true, false}
use mathlib.Core.List.{List, [], ◌∷◌}
use Prim.Native.Nat.{ℕ, zero, suc, ◌+◌, ◌<◌}
use native.Mathlib.Omega.{arith}
use lib.ListN.{length, get_or}
use Rattle.std.specs.Bool.{MatchBool}
use Rattle.std.specs.List.{AllWithin, HoldsAt}
use Rattle.records.specs.Records.{every, every_from}
use Rattle.records.proofs.Tests.{and_left, and_right, clash}

module _ {A : Type 0} (good : A → Bool) where
  all-good : (i : ℕ) (xs : List A) → ((k : ℕ) (d : A) → k < length xs → good (get_or xs k d) ≡ true) → every_from (λ k. good) i xs ≡ true
  unfolding every_from
  all-good i [] h = refl
  all-good i (x ∷ xs) h =
      let first : good x ≡ true = h 0 x (omega arith) in
      rw first (all-good (i + 1) xs (λ k d l. h (suc k) d (omega arith)))

  one-good : (i k : ℕ) (xs : List A) (d : A) → every_from (λ k. good) i xs ≡ true → k < length xs → good (get_or xs k d) ≡ true
  unfolding every_from
  one-good i k [] d e h = absurd (omega arith)
  one-good i zero (x ∷ xs) d e h = and_left (good x) _ e
  one-good i (suc k) (x ∷ xs) d e h = one-good (i + 1) k xs d (and_right (good x) _ e) (omega arith)

  one-bad : (k : ℕ) (xs : List A) (d : A) → k < length xs → good (get_or xs k d) ≡ false → (b : Bool) → every good xs ≡ b → b ≡ false
  one-bad k xs d h e false t = refl
  one-bad k xs d h e true t = clash (good (get_or xs k d)) e (one-good 0 k xs d t h)

  -- all of the elements pass it, or one of them fails it
  pub every-listed : (xs : List A) (d : A) (r : Bool) → MatchBool r (AllWithin (λ x. good x ≡ true) xs 0 (length xs)) ((k : ℕ) × (k < length xs) × HoldsAt (λ x. good x ≡ false) xs k)
      → r ≡ every good xs
  every-listed xs d true m = sym (all-good 0 xs (λ k e h. m k e (omega arith) h))
  every-listed xs d false (k, h, e) = sym (one-bad k xs d h (e d) _ refl)
