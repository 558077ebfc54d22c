-- The letters that a file begins with. Assumes nothing.
use mathlib.Core.Path.{◌≡◌, refl, sym}
use mathlib.Core.Bool.{Bool, true, false, ◌&&◌, and-true, and_assoc}
use mathlib.Core.List.{List, [], ◌∷◌}
use Prim.Native.Nat.{ℕ, ◌≤◌}
use native.Mathlib.Omega.{arith}
use lib.ListN.{length, get_or}
use lib.Dec.{eqb}
use borrow.Author.Tests.{eq-eqb, ne_eqb, eqb-true, eqb-false}
use Rattle.std.specs.List.{starts_with}

flip : (a b : ℕ) (t : Bool) → eqb b a ≡ t → eqb a b ≡ t
flip a b true e = eq-eqb a b (sym (eqb-true b a e))
flip a b false e = ne_eqb a b (λ q. eqb-false b a e (sym q))

-- a slice's `starts_with` compares the other way round
pub letters : (bs : List ℕ) → 24 ≤ length bs
    → starts_with eqb bs (87 ∷ 83 ∷ 70 ∷ []) ≡ (eqb (get_or bs 0 0) 87 && eqb (get_or bs 1 0) 83 && eqb (get_or bs 2 0) 70)
letters [] h = absurd (omega arith)
letters (a ∷ []) h = absurd (omega arith)
letters (a ∷ b ∷ []) h = absurd (omega arith)
letters (a ∷ b ∷ c ∷ rest) h = rw (flip 87 a _ refl, flip 83 b _ refl, flip 70 c _ refl, and-true, and_assoc)
