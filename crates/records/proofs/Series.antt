-- Records in a series, passed one by one. Assumes nothing.
use mathlib.Core.Path.{◌≡◌, refl, sym, ap, ◌∙◌}
use mathlib.Core.Bool.{Bool, true, ◌&&◌, and-true, and_assoc}
use mathlib.Core.List.{List, [], ◌∷◌}
use Prim.Native.Nat.{ℕ, zero, suc, ◌+◌, ◌-◌, ◌*◌, ◌≤◌, ◌<◌}
use native.Mathlib.Omega.{arith}
use native.Mathlib.Nat.{add-zero, add_assoc, add_comm, mul-zero, mul-one, mul-suc, mul-add}
use lib.ListN.{length, get_or}
use Rattle.records.specs.Records.{records_from, every_from}
use Rattle.records.proofs.Tests.{and_left, and_right}

module _ {A : Type 0} (readAt : ℕ → A) (len : ℕ) where
  -- of records that are left, the first and the rest
  pub next_record : (n i at : ℕ) → i < n → records_from readAt len (n - i) at ≡ readAt at ∷ records_from readAt len (n - (i + 1)) (at + len)
  unfolding records_from
  next_record n i at h = let e : n - i ≡ suc (n - (i + 1)) = omega arith in rw e

  pub no_record : (n i at : ℕ) → n ≤ i → records_from readAt len (n - i) at ≡ []
  unfolding records_from
  no_record n i at h = let e : n - i ≡ 0 = omega arith in rw e

  -- the record of a number
  pub record_at : (n k at : ℕ) (d : A) → k < n → get_or (records_from readAt len n at) k d ≡ readAt (at + len * k)
  unfolding records_from
  record_at zero k at d h = absurd (omega arith)
  record_at (suc n) zero at d h = ap readAt (sym (ap (λ (m : ℕ). at + m) (mul-zero len) ∙ add-zero at))
  record_at (suc n) (suc k) at d h =
      record_at n k (at + len) d (omega arith)
      ∙ ap readAt (add_assoc at len (len * k) ∙ ap (λ (m : ℕ). at + m) (add_comm len (len * k) ∙ sym (mul-suc len k)))

  pub records-length : (n at : ℕ) → length (records_from readAt len n at) ≡ n
  unfolding records_from
  records-length zero at = refl
  records-length (suc n) at = ap suc (records-length n (at + len))

-- A loop has passed the first i of n records, and what holds so far and the test of the others is the test of all.
pub record Passed {A : Type 0} (good : ℕ → A → Bool) (readAt : ℕ → A) (len n from : ℕ) (so : Bool) (i : ℕ) : Type 0 where
  pub within : i ≤ n
  pub same : (so && every_from good i (records_from readAt len (n - i) (from + len * i))) ≡ every_from good 0 (records_from readAt len n from)

module _ {A : Type 0} {good : ℕ → A → Bool} {readAt : ℕ → A} {len n from : ℕ} where
  pub passed-more : {so : Bool} {i : ℕ} (x : A) (r : Bool) → Passed good readAt len n from so i → i < n → x ≡ readAt (from + len * i) → r ≡ good i x
      → Passed good readAt len n from (so && r) (i + 1)
  unfolding every_from
  passed-more {so} {i} x r p h ex er = record {
    within = omega arith;
    same = rw (er, ex, mul-add, mul-one, ← add_assoc) (and_assoc so _ _ ∙ ap (λ (xs : List A). so && every_from good i xs) (sym (next_record readAt len n i (from + len * i) h)) ∙ p.same);
  }

  pub passed-all : {so : Bool} {i : ℕ} → Passed good readAt len n from so i → n ≤ i → so ≡ every_from good 0 (records_from readAt len n from)
  unfolding every_from
  passed-all {so} {i} p h = sym (and-true so) ∙ ap (λ (xs : List A). so && every_from good i xs) (sym (no_record readAt len n i (from + len * i) h)) ∙ p.same

-- The same for a sum over the records, σ.
pub record Summed {A : Type 0} (σ : List A → ℕ) (readAt : ℕ → A) (len n from : ℕ) (sum : ℕ) (i : ℕ) : Type 0 where
  pub same : sum + σ (records_from readAt len (n - i) (from + len * i)) ≡ σ (records_from readAt len n from)

module _ {A : Type 0} {σ : List A → ℕ} {readAt : ℕ → A} {len n from : ℕ} where
  pub summed_more : {sum : ℕ} {i : ℕ} (weight : A → ℕ) (x : A) (w : ℕ) → ((y : A) (ys : List A) → σ (y ∷ ys) ≡ weight y + σ ys)
      → Summed σ readAt len n from sum i → i < n → x ≡ readAt (from + len * i) → w ≡ weight x → Summed σ readAt len n from (sum + w) (i + 1)
  summed_more {sum} {i} weight x w law p h ex ew = record {
    same =
        rw (ew, ex, mul-add, mul-one, ← add_assoc) (add_assoc sum _ _ ∙ ap (λ (m : ℕ). sum + m) (sym (law _ _))
        ∙ ap (λ (xs : List A). sum + σ xs) (sym (next_record readAt len n i (from + len * i) h)) ∙ p.same);
  }

  pub summed_all : {sum : ℕ} {i : ℕ} → σ [] ≡ 0 → Summed σ readAt len n from sum i → n ≤ i → sum ≡ σ (records_from readAt len n from)
  summed_all {sum} {i} law p h =
      sym (add-zero sum) ∙ ap (λ (m : ℕ). sum + m) (sym law) ∙ ap (λ (xs : List A). sum + σ xs) (sym (no_record readAt len n i (from + len * i) h)) ∙ p.same

-- a record of a series that passes a test
pub passed-at : {A : Type 0} (good : ℕ → A → Bool) (readAt : ℕ → A) (len n i at k : ℕ) → every_from good i (records_from readAt len n at) ≡ true → k < n
    → good (i + k) (readAt (at + len * k)) ≡ true
unfolding every_from records_from
passed-at good readAt len zero i at k e h = absurd (omega arith)
passed-at good readAt len (suc n) i at zero e h = rw (mul-zero, add-zero, add-zero) (and_left (good i (readAt at)) _ e)
passed-at good readAt len (suc n) i at (suc k) e h =
    let m : i + suc k ≡ (i + 1) + k = omega arith in
    rw (m, mul-suc, add_comm (len * k) len, ← add_assoc)
    (passed-at good readAt len n (i + 1) (at + len) k (and_right (good i (readAt at)) _ e) (omega arith))
