-- Tests of the records of a series, made over the range of their numbers. Assumes nothing.
use mathlib.Core.Path.{◌≡◌, refl, sym}
use mathlib.Core.Bool.{Bool, true, false}
use Prim.Native.Nat.{ℕ, zero, suc, ◌+◌, ◌-◌, ◌*◌, ◌<◌}
use native.Mathlib.Omega.{arith}
use native.Mathlib.Nat.{add-zero, add_assoc, mul-zero, mul-add}
use lib.ListN.{length}
use denote.Param.Members.{Mut}
use Rattle.std.specs.Bool.{MatchBool}
use Rattle.std.specs.Fn.{Called}
use Rattle.std.specs.Iterator.{YieldsThen}
use Rattle.std.specs.List.{AllWithin, HoldsAt, FoldsTo, range_with_len}
use Rattle.std.specs.Option.{MatchOption}
use Rattle.std.specs.Prelude.{List, Option}
use Rattle.std.proofs.lemmas.List.FromFn.{length-range_with_len, get_or-range_with_len}
use Rattle.std.proofs.iter.Yields.{nat_range_steps}
use Rattle.std.proofs.lemmas.Iterator.{YieldsList-from_range, cases_from_all}
use Rattle.records.specs.Records.{records_from, every_from}
use Rattle.records.proofs.Series.{passed-at}
use Rattle.records.proofs.Tests.{clash}

module _ {A : Type 0} (good : ℕ → A → Bool) (readAt : ℕ → A) (len : ℕ) where
  -- every record of a series passes a test
  every-passed : (n i at : ℕ) → ((k : ℕ) → k < n → good (i + k) (readAt (at + len * k)) ≡ true) → every_from good i (records_from readAt len n at) ≡ true
  unfolding every_from records_from
  every-passed zero i at h = refl
  every-passed (suc n) i at h =
      let low : 0 < suc n = omega arith in
      let z = h 0 low in
      let first : good i (readAt at) ≡ true = rw (mul-zero, add-zero, add-zero) at z in
      rw first
      (every-passed n (i + 1) (at + len) (λ k l.
      let m : (i + 1) + k ≡ i + suc k = omega arith in
      let p : at + len + len * k ≡ at + len * suc k = omega arith in
      rw (m, p) (h (suc k) (omega arith))))

  -- one record fails it
  every_failed : (n i at k : ℕ) → k < n → good (i + k) (readAt (at + len * k)) ≡ false → (b : Bool) → every_from good i (records_from readAt len n at) ≡ b → b ≡ false
  every_failed n i at k h e false t = refl
  every_failed n i at k h e true t = clash (good (i + k) (readAt (at + len * k))) e (passed-at good readAt len n i at k t h)

  -- all of n numbers from i on pass it, or one of them fails it
  pub every-ranged : (i n from : ℕ) (r : Bool)
      → MatchBool r (AllWithin (λ k. good k (readAt (from + len * k)) ≡ true) (range_with_len i n) 0 (length (range_with_len i n)))
      ((k : ℕ) × (k < length (range_with_len i n)) × HoldsAt (λ k. good k (readAt (from + len * k)) ≡ false) (range_with_len i n) k)
      → r ≡ every_from good i (records_from readAt len n (from + len * i))
  every-ranged i n from true m =
      sym (every-passed n i (from + len * i) (λ k h.
      let z = m k 0 (omega arith) (omega (arith, length-range_with_len i n)) in
      rw (add_assoc, ← mul-add) (rw (get_or-range_with_len i n k 0 h) at z)))
  every-ranged i n from false (k, h, e) =
      let l : k < n = omega (arith, length-range_with_len i n) in
      let f = e 0 in
      sym (every_failed n i (from + len * i) k l (rw (add_assoc, ← mul-add) (rw (get_or-range_with_len i n k 0 l) at f)) _ refl)

  -- what `all` over the numbers from i to e gives, if the closure is the test of the record of a number
  pub every-all : {F : Type 0} {g : Mut F (ℕ × Unit {0}) Bool} {s : _} (i e n from at : ℕ) → e - i ≡ n → from + len * i ≡ at → (u : _) (f : F) (r : Bool)
      → (xs : List ℕ) × (o : Option ℕ) × (j : F) × YieldsThen nat_range_steps s xs o u × FoldsTo (λ p x q. Called g p (x, tt) true q) f xs j × MatchOption o (r ≡ true) (λ x. (r ≡ false) × ((h : F) × Called g j (x, tt) false h))
      → s ≡ record { start = i; end = e }
      → ((x : ℕ) (q : F) → Called g f (x, tt) true q → (q ≡ f) × (good x (readAt (from + len * x)) ≡ true))
      → ((x : ℕ) (q : F) → Called g f (x, tt) false q → good x (readAt (from + len * x)) ≡ false)
      → r ≡ every_from good i (records_from readAt len n at)
  every-all i e n from at many place u f r ran is passes fails =
      rw (← place)
      (every-ranged i n from r
      (cases_from_all u f r (λ k. good k (readAt (from + len * k)) ≡ true) (λ k. good k (readAt (from + len * k)) ≡ false) ran (YieldsList-from_range i e n is many) passes fails))
