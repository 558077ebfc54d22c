-- Bytes that are written over others: a part of a slice, and two parts one behind the other. Assumes nothing.
use mathlib.Core.Path.{◌≡◌, sym, ap, ◌∙◌}
use mathlib.Core.List.{List, ◌++◌, append_assoc, append-nil}
use Prim.Native.Nat.{ℕ, ◌+◌, ◌-◌}
use native.Mathlib.Omega.{arith}
use borrow.Rule.Slice.PartMut.{mid_of, put_mid}
use lib.ListN.{length, take, drop, length-append, length-drop, take-append-drop, drop_of_length-le}
use lib.Seq.{take_at, drop_at, take_all, length-take-le}
use Rattle.records_table.specs.Overwrites.{Overwrites}

-- a part from `at` on, whose first bytes were written anew
pub overwritten : (at len : ℕ) (bs new ys : List ℕ) → length new ≡ len → ys ≡ new ++ drop len (mid_of at (length bs - at) bs)
    → Overwrites bs (put_mid at (length bs - at) bs ys) at new
overwritten at len bs new ys el ey = λ p x s e hp hx.
    let long = length-drop at bs in
    let before : take at bs ≡ p = ap (take at) e ∙ take_at p (x ++ s) at hp in
    let behind : drop at bs ≡ x ++ s = ap (drop at) e ∙ drop_at p (x ++ s) at hp in
    rw (
      ey,
      before,
      take_all (length bs - at) (drop at bs) (omega arith),
      drop_of_length-le (drop at bs) {i = length bs - at} (omega arith),
      append-nil,
      behind,
      drop_at x s len (hx ∙ el),
    )

-- two blocks, written over one of their length
pub two-written : {l l1 l2 : List ℕ} (a b : ℕ) (first second : List ℕ) → b ≡ a + length first → Overwrites l l1 a first → Overwrites l1 l2 b second
    → (p v s : List ℕ) → l ≡ p ++ (v ++ s) → length p ≡ a → length v ≡ length first + length second → l2 ≡ p ++ (first ++ (second ++ s))
two-written a b first second eb o1 o2 p v s e hp hv =
    let n = length first in
    let split : v ++ s ≡ take n v ++ (drop n v ++ s) = ap (λ z. z ++ s) (sym (take-append-drop n v)) ∙ append_assoc (take n v) (drop n v) s in
    let e1 = o1 p (take n v) (drop n v ++ s) (e ∙ ap (λ z. p ++ z) split) hp (length-take-le n v (omega arith)) in
    o2 (p ++ first) (drop n v) s (e1 ∙ sym (append_assoc p first (drop n v ++ s))) (length-append p first ∙ omega arith) (length-drop n v ∙ omega arith)
    ∙ append_assoc p first (second ++ s)
