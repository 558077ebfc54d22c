-- Bytes that are copied within a list, a part at a time. Assumes nothing.
use mathlib.Core.Path.{◌≡◌, sym, ap, ◌∙◌}
use mathlib.Core.List.{List, ◌++◌, append_assoc, append-nil}
use Prim.Native.Nat.{ℕ, ◌+◌, ◌-◌, ◌≤◌}
use native.Mathlib.Nat.{add-zero}
use native.Mathlib.Omega.{arith}
use borrow.Rule.Slice.PartMut.{mid_of}
use lib.ListN.{length, take, drop, length-drop, take-append-drop, drop_of_length-le}
use lib.Seq.{length-take-le, take-append-le, drop-append-le, take-take, drop-drop, take-add, drop_at, paste, take-paste, take_at, drop-paste}
use Rattle.records_table.specs.Overwrites.{Overwrites}
use Rattle.walk_splice.specs.Copies.{Copies}

-- a list, by the bytes before, from and behind a place
parts : (at n : ℕ) (l : List ℕ) → l ≡ take at l ++ (take n (drop at l) ++ drop (at + n) l)
parts at n l = sym (rw (← drop-drop n at l, take-append-drop n (drop at l)) (take-append-drop at l))

pub length_part : (at n : ℕ) (l : List ℕ) → at + n ≤ length l → length (take n (drop at l)) ≡ n
length_part at n l fits = length-take-le n (drop at l) (omega (arith, length-drop at l))

-- a block that was read elsewhere in the list
pub copied : {l l' : List ℕ} (to from n : ℕ) (block : List ℕ) → to + n ≤ length l → from + n ≤ length l → block ≡ take n (drop from l) → Overwrites l l' to block
    → Copies l l' to from n
copied {l} to from n block room fits e o =
    o (take to l) (take n (drop to l)) (drop (to + n) l) (parts to n l) (length-take-le to l (omega arith))
    (length_part to n l room ∙ sym (length_part from n l fits) ∙ ap length (sym e))
    ∙ rw e

-- nothing is copied
pub copied_none : (l : List ℕ) (to from n : ℕ) → n ≡ 0 → Copies l l to from n
copied_none l to from n e = sym (rw (e, add-zero) (take-append-drop to l))

-- the same numbers, written otherwise
pub recounted : (l l' : List ℕ) (to from n to' from' n' : ℕ) → to ≡ to' → from ≡ from' → n ≡ n' → Copies l l' to from n → Copies l l' to' from' n'
recounted l l' to from n to' from' n' et ef en c = rw (et, ef, en) at c

-- towards the front: what is still to be copied was not written over
pub copied-down : (l l1 : List ℕ) {l2 : List ℕ} (to from n k to' from' n' : ℕ) → to' ≡ to + n → from' ≡ from + n → n' ≡ n + k → to ≤ from → from' ≤ length l
    → Copies l l1 to from n → Copies l1 l2 to' from' k → Copies l l2 to from n'
copied-down l l1 to from n k to' from' n' et ef en below fits e e' =
    let long : n ≤ length (drop from l) = omega (arith, length-drop from l) in
    let pasted : l1 ≡ paste l to (drop from l) n = e ∙ sym (append_assoc (take to l) (take n (drop from l)) (drop (to + n) l)) in
    let front : take to' l1 ≡ take to l ++ take n (drop from l) = rw et (ap (take (to + n)) pasted ∙ take-paste l to (drop from l) n (omega arith) long) in
    let behind : (j m : ℕ) → m ≡ to + n + j → drop m l1 ≡ drop m l
    = λ j m em. rw em (sym (drop-drop j (to + n) l1) ∙ ap (drop j) (ap (drop (to + n)) pasted ∙ drop-paste l to (drop from l) n (omega arith) long) ∙ drop-drop j (to + n) l) in
    let source : drop from' l1 ≡ drop n (drop from l) = behind (from - to) from' (omega arith) ∙ ap (λ m. drop m l) ef ∙ sym (drop-drop n from l) in
    let more : to' + k ≡ to + n' = omega arith in
    e' ∙ rw (front, source, behind k (to' + k) (omega arith), more, en, take-add n k (drop from l)) (simp append_assoc)

-- a part that lies before the seam
within : (at n : ℕ) (u v : List ℕ) → at + n ≤ length u → take n (drop at (u ++ v)) ≡ take n (drop at u)
within at n u v fits =
    rw (drop-append-le at u v (omega arith)) (take-append-le n (drop at u) v (omega (arith, length-drop at u)))

-- towards the end, the last part first
pub copied_up : (l l1 : List ℕ) {l2 : List ℕ} (to from n k to' from' n' : ℕ) → to' ≡ to + k → from' ≡ from + k → n' ≡ k + n → from ≤ to → to' ≤ length l
    → Copies l l1 to' from' n → Copies l1 l2 to from k → Copies l l2 to from n'
copied_up l l1 to from n k to' from' n' et ef en above fits e e' =
    let u = take to' l in
    let long : length u ≡ to' = length-take-le to' l fits in
    let v = take n (drop from' l) ++ drop (to' + n) l in
    let front : take to l1 ≡ take to l = ap (take to) e ∙ take-append-le to u v (omega arith) ∙ take-take to to' l (omega arith) in
    let source : take k (drop from l1) ≡ take k (drop from l)
    = ap (λ m. take k (drop from m)) e ∙ within from k u v (omega arith) ∙ sym (within from k u (drop to' l) (omega arith)) ∙ ap (λ m. take k (drop from m)) (take-append-drop to' l) in
    let behind : drop (to + k) l1 ≡ v = ap (λ m. drop m l1) (sym et) ∙ ap (drop to') e ∙ drop_at u v to' long in
    let more : to' + n ≡ to + n' = omega arith in
    e' ∙ rw (front, source, behind, more, en, take-add k n (drop from l), drop-drop k from l, ef) (simp append_assoc)

-- a part that was copied to the start of a list
module _ (at end : ℕ) (l old : List ℕ) {new : List ℕ} (below : at ≤ end) (fits : end ≤ length l) (e : let part = mid_of at (end - at) l in new ≡ part ++ drop (length part) old) where
  read : new ≡ take (end - at) (drop at l) ++ drop (end - at) old
  read = e ∙ rw (length_part at (end - at) l (omega arith))

  pub part_read : take (end - at) new ≡ take (end - at) (drop at l)
  part_read = ap (take (end - at)) read ∙ take_at (take (end - at) (drop at l)) (drop (end - at) old) (end - at) (length_part at (end - at) l (omega arith))

  pub part_read-length : length (take (end - at) new) ≡ end - at
  part_read-length = ap length part_read ∙ length_part at (end - at) l (omega arith)

  -- over a whole one
  pub part_read-whole : (n : ℕ) → length old ≡ n → end - at ≡ n → new ≡ take n (drop at l)
  part_read-whole n long many = rw (← many) (read ∙ rw (drop_of_length-le old {i = end - at} (omega arith), append-nil))
