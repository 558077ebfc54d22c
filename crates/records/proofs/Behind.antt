-- Records that are taken from the last to the first. Assumes nothing.
use mathlib.Core.Path.{◌≡◌, ◌∙◌}
use mathlib.Core.List.{◌∷◌}
use Prim.Native.Nat.{ℕ, ◌+◌, ◌-◌, ◌*◌, ◌≤◌}
use native.Mathlib.Omega.{arith}
use native.Mathlib.Nat.{mul-add, mul-one, mul-zero, add-zero, sub-zero, add_assoc}
use Rattle.records.specs.Records.{records_from}
use Rattle.records.proofs.Series.{next_record}

module _ {A : Type 0} (readAt : ℕ → A) (len n from i : ℕ) where
  -- of n records the last n - j, where i is j + 1: the one of number j is in front of the others
  pub one_more : (j : ℕ) → i ≡ j + 1 → i ≤ n
      → records_from readAt len (n - j) (from + len * j) ≡ readAt (from + len * j) ∷ records_from readAt len (n - i) (from + len * i)
  one_more j e h = next_record readAt len n j (from + len * j) (omega arith) ∙ rw (e, mul-add, mul-one, add_assoc)

  -- all of them, when none is left to take
  pub all_left : i ≤ 0 → records_from readAt len (n - i) (from + len * i) ≡ records_from readAt len n from
  all_left h = let e : i ≡ 0 = omega arith in rw (e, mul-zero, add-zero, sub-zero)
