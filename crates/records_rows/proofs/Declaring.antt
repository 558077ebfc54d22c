-- The names declared behind the declarators that a loop has still to take. Assumes nothing.
use mathlib.Core.Path.{◌≡◌, refl, ◌∙◌}
use mathlib.Core.Bool.{Bool, true, false, cond, ◌||◌}
use mathlib.Core.List.{List}
use Prim.Native.Nat.{ℕ, ◌+◌, ◌-◌, ◌*◌, ◌≤◌, ◌<◌}
use native.Mathlib.Omega.{arith}
use lib.ListN.{length, get_or, set, length-set}
use lib.Dec.{eqb}
use borrow.Author.Tests.{eq-eqb, ne_eqb, eqb-true, ltb-true}
use Rattle.records.specs.Records.{records_from, every}
use Rattle.records.specs.File.{one}
use Rattle.records.specs.Script.{declares, declared_twice}
use Rattle.records.specs.declared.layout.DeclaratorRecord.{DeclaratorRecord}
use Rattle.records.proofs.Series.{passed-at}
use Rattle.records_rows.specs.Tally.{Tally, fits}
use Rattle.records.proofs.Behind.{one_more}
use Rattle.records_rows.proofs.Tallies.{tally-set}

-- i of n declarators are left; the array says which names the others declare
pub record Declaring (readAt : ℕ → DeclaratorRecord) (len n from : ℕ) (seen₀ seen : List ℕ) (twice : Bool) (i : ℕ) : Type 0 where
  pub within : i ≤ n
  pub long : length seen ≡ length seen₀
  pub tally : Tally (λ k. one (declares k (records_from readAt len (n - i) (from + len * i)))) seen
  pub judged : twice ≡ declared_twice (records_from readAt len (n - i) (from + len * i))

one-is : (b : Bool) → eqb (one b) 1 ≡ b
one-is true = refl
one-is false = refl

one_or : (a b : Bool) → cond a 1 (one b) ≡ one (a || b)
one_or true b = refl
one_or false b = refl

-- a declarator that fits is a pattern, or its name has a place
fits-says : (d : DeclaratorRecord) → fits d ≡ true → 256 ≤ d.name → d.name ≡ 65535
unfolding fits
fits-says d e h = fits-cases (eqb d.name 65535) refl
  where
    fits-cases : (b : Bool) → eqb d.name 65535 ≡ b → d.name ≡ 65535
    fits-cases true q = eqb-true _ _ q
    fits-cases false q = absurd (let l : d.name < 256 = ltb-true d.name 256 (rw q at e) in omega arith)

module _ {readAt : ℕ → DeclaratorRecord} {len n from : ℕ} {seen₀ : List ℕ} where
  pub declaring-none : Tally (λ k. 0) seen₀ → Declaring readAt len n from seen₀ seen₀ false n
  unfolding records_from declares declared_twice
  declaring-none t = let none : n - n ≡ 0 = omega arith in
      record { within = omega arith; long = refl; tally = rw none t; judged = rw none }

  -- a name with a place
  pub declaring-name : {seen : List ℕ} {twice : Bool} {i : ℕ} (d : DeclaratorRecord) (j : ℕ) → Declaring readAt len n from seen₀ seen twice i → i ≡ j + 1
      → d ≡ readAt (from + len * j) → d.name < length seen → length seen < 65535
      → Declaring readAt len n from seen₀ (set seen d.name 1) (eqb (get_or seen d.name 0) 1 || twice) j
  unfolding declares declared_twice
  declaring-name {seen} {twice} {i} d j p ei ed h short = record {
    within = omega arith;
    long = length-set seen d.name 1 ∙ p.long;
    tally =
        rw (one_more readAt len n from i j ei p.within, ← ed)
        (λ k hk. tally-set _ seen d.name 1 h p.tally k hk ∙ one_or (eqb d.name k) _);
    judged =
        rw (one_more readAt len n from i j ei p.within, ← ed, ne_eqb d.name 65535 (λ e. omega arith), p.tally d.name h, one-is, p.judged);
  }

  -- a pattern
  pub declaring_pattern : {seen : List ℕ} {twice : Bool} {i : ℕ} (d : DeclaratorRecord) (j : ℕ) → Declaring readAt len n from seen₀ seen twice i → i ≡ j + 1
      → d ≡ readAt (from + len * j) → d.name ≡ 65535 → length seen < 65535
      → Declaring readAt len n from seen₀ seen twice j
  unfolding declares declared_twice
  declaring_pattern {seen} {twice} {i} d j p ei ed e short = record {
    within = omega arith;
    long = p.long;
    tally =
        rw (one_more readAt len n from i j ei p.within, ← ed)
        (λ k hk. p.tally k hk ∙ rw (ne_eqb d.name k (λ q. omega arith)));
    judged = rw (one_more readAt len n from i j ei p.within, ← ed, eq-eqb d.name 65535 e) p.judged;
  }

-- the declarator of a number that has no place in an array of at least 256 is a pattern
pub pattern_at : (readAt : ℕ → DeclaratorRecord) (len n from j : ℕ) (d : DeclaratorRecord) → every fits (records_from readAt len n from) ≡ true → j < n
    → d ≡ readAt (from + len * j) → 256 ≤ d.name → d.name ≡ 65535
pattern_at readAt len n from j d e h ed hd = fits-says d (rw ed (passed-at (λ k. fits) readAt len n 0 from j e h)) hd
