-- The refusal table by the room: rows 1 to 10 are of the file alone, and row 11 comes behind them. Assumes nothing.
use mathlib.Core.Path.{◌≡◌, refl, ◌∙◌}
use mathlib.Core.Bool.{Bool, true, false, cond}
use mathlib.Core.List.{List, [], ◌∷◌, ◌++◌}
use Prim.Native.Nat.{ℕ, suc, ◌+◌, ◌≤◌}
use native.Mathlib.Omega.{arith}
use lib.ListN.{length}
use lib.Dec.{eqb, ltb}
use borrow.Author.Tests.{eq-eqb, ne_eqb, le-ltb}
use Rattle.records.specs.Refusal.{row, room_wanted, refusal, file_refusal}
use Rattle.records_laws.proofs.Accepted.{first_held, file_tests, rows-tested}

-- the first test that holds, of some and one more
one_more : (n : ℕ) (ts : List Bool) (t : Bool)
    → first_held (suc n) (ts ++ (t ∷ [])) ≡ cond (eqb (first_held (suc n) ts) 0) (row (suc (n + length ts)) t 0) (first_held (suc n) ts)
unfolding first_held
one_more n [] t = let e : suc (n + 0) ≡ suc n = omega arith in rw e
one_more n (true ∷ ts) t = rw (ne_eqb (suc n) 0 (λ z. omega (arith, z)))
one_more n (false ∷ ts) t = let e : suc (n + suc (length ts)) ≡ suc (suc n + length ts) = omega arith in rw e (one_more (suc n) ts t)

held-most : (n : ℕ) (ts : List Bool) → first_held (suc n) ts ≤ n + length ts
unfolding first_held
held-most n [] = omega arith
held-most n (true ∷ ts) = omega arith
held-most n (false ∷ ts) = omega (arith, held-most (suc n) ts)

-- one that doesn't hold makes no difference
none_more : (n : ℕ) (ts : List Bool) → first_held n (ts ++ (false ∷ [])) ≡ first_held n ts
unfolding first_held
none_more n [] = refl
none_more n (true ∷ ts) = refl
none_more n (false ∷ ts) = none_more (suc n) ts

module _ (bs : List ℕ) where
  file-rows : file_refusal bs ≡ first_held 1 (file_tests bs)
  unfolding file_refusal
  file-rows = rows-tested bs (room_wanted bs) ∙ rw (le-ltb (room_wanted bs) (room_wanted bs) (omega arith)) (none_more 1 (file_tests bs))

  -- the number of a file in a room is its own; where that is 0, it is row 11's
  by-room : (room : ℕ) → refusal bs room ≡ cond (eqb (file_refusal bs) 0) (row 11 (ltb room (room_wanted bs)) 0) (file_refusal bs)
  by-room room = rows-tested bs room ∙ rw file-rows (unfold file_tests in one_more 0 (file_tests bs) (ltb room (room_wanted bs)))

  -- row 11 is none of the file's own
  pub file-most : file_refusal bs ≤ 10
  file-most = unfold file_tests in omega (arith, file-rows, held-most 0 (file_tests bs))

  module _ (room : ℕ) where
    -- a file that rows 1 to 10 refuse is refused so in every room
    pub refused_anyway : (file_refusal bs ≡ 0 → ⊥) → refusal bs room ≡ file_refusal bs
    refused_anyway n = by-room room ∙ rw (ne_eqb (file_refusal bs) 0 n)

    -- one that they don't refuse is accepted or refused by row 11
    pub row_11_alone : file_refusal bs ≡ 0 → refusal bs room ≡ row 11 (ltb room (room_wanted bs)) 0
    row_11_alone e = by-room room ∙ rw (eq-eqb (file_refusal bs) 0 e)
