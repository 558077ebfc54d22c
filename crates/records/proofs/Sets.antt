-- Sets of numbers, and tests of every number below one. Assumes nothing.
use mathlib.Core.Path.{◌≡◌, refl, ap, ◌∙◌}
use mathlib.Core.Bool.{Bool, true, false, not, ◌&&◌, ◌||◌, false≢true}
use mathlib.Core.Logic.{⊎_elim}
use Prim.Native.Nat.{ℕ, zero, suc, ◌/◌, ◌%◌, ◌^◌, ◌≤◌, ◌<◌}
use native.Mathlib.Omega.{arith}
use native.Mathlib.Nat.{eq-or-lt_of_le}
use lib.Dec.{eqb}
use borrow.Author.Tests.{lt-ltb}
use Rattle.records.specs.Sets.{is_in}
use Rattle.records.proofs.Tests.{both}

-- every number below n passes a test
unfoldable pub all_below : ℕ → (ℕ → Bool) → Bool
all_below zero p = true
all_below (suc n) p = p n && all_below n p

pub below : (n : ℕ) (p : ℕ → Bool) → all_below n p ≡ true → (k : ℕ) → k < n → p k ≡ true
unfolding all_below
below zero p h k l = absurd (omega arith)
below (suc n) p h k l =
    let q = both (p n) (all_below n p) h in
    let m : k ≤ n = omega arith in
    ⊎_elim (λ (e : k ≡ n). ap p e ∙ q.0) (λ (s : k < n). below n p q.1 k s) (eq-or-lt_of_le m)

-- two tests that agree
unfoldable pub same : Bool → Bool → Bool
same true b = b
same false b = not b

pub same_true : (a b : Bool) → same a b ≡ true → a ≡ b
unfolding same
same_true true true h = refl
same_true true false h = absurd (false≢true h)
same_true false true h = absurd (false≢true h)
same_true false false h = refl

-- what follows from a test
pub follows : (a b : Bool) → (not a || b) ≡ true → a ≡ true → b ≡ true
follows true b h e = h
follows false b h e = absurd (false≢true e)

-- a bit of a set, by the test of the code
pub bit-inside : (set e : ℕ) → e ≤ 63 → eqb (set / 2 ^ e % 2) 1 ≡ is_in set e
unfolding is_in
bit-inside set e h = rw (lt-ltb e 64 (omega arith))
