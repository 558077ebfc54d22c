-- Two adjacent blocks that change places: rotated as one part, or one is kept aside while the other moves. Assumes nothing.
use mathlib.Core.Path.{◌≡◌, sym, ap, ◌∙◌}
use mathlib.Core.List.{List, ◌++◌, append_assoc}
use Prim.Native.Nat.{ℕ, ◌+◌, ◌-◌, ◌≤◌}
use native.Mathlib.Omega.{arith}
use borrow.Rule.Slice.PartMut.{mid_of, put_mid}
use lib.ListN.{length, take, drop, length-append, length-drop, take-append-drop}
use lib.Seq.{length-take-le, take_at, drop_at, take-take, drop-drop}
use Rattle.records_table.specs.Overwrites.{Overwrites}
use Rattle.walk_splice.specs.Blocks.{Exchanges}
use Rattle.walk_splice.specs.Copies.{Copies}
use Rattle.walk_splice.proofs.Copying.{length_part}

-- the blocks x from a to b and y from b to c
pub record Blocks (l : List ℕ) (a b c : ℕ) (p x y s : List ℕ) : Type 0 where
  pub is : l ≡ p ++ (x ++ (y ++ s))
  pub starts : length p ≡ a
  pub seam : a + length x ≡ b
  pub ends : b + length y ≡ c

module _ {l : List ℕ} {a b c : ℕ} {p x y s : List ℕ} (h : Blocks l a b c p x y s) where
  before : take a l ≡ p
  before = ap (take a) h.is ∙ take_at p (x ++ (y ++ s)) a h.starts

  first : (n : ℕ) → n ≡ b - a → take n (drop a l) ≡ x
  first n e =
      ap (take n) (ap (drop a) h.is ∙ drop_at p (x ++ (y ++ s)) a h.starts) ∙ take_at x (y ++ s) n (omega (arith, h.seam))

  second : (n : ℕ) → n ≡ c - b → take n (drop b l) ≡ y
  second n e =
      ap (take n) (ap (drop b) (h.is ∙ sym (append_assoc p x (y ++ s))) ∙ drop_at (p ++ x) (y ++ s) b (omega (arith, length-append p x, h.starts, h.seam)))
      ∙ take_at y s n (omega (arith, h.ends))

  behind : (n : ℕ) → n ≡ c → drop n l ≡ s
  behind n e =
      ap (drop n) (h.is ∙ simp append_assoc)
      ∙ drop_at (p ++ (x ++ y)) s n (omega (arith, length-append p (x ++ y), length-append x y, h.starts, h.seam, h.ends))

  fits : (b ≤ c) × (a ≤ b) × (c ≤ length l)
  fits =
      omega (arith, h.starts, h.seam, h.ends, ap length h.is, length-append p (x ++ (y ++ s)), length-append x (y ++ s), length-append y s)

  -- the second moves down over the first
  pub shifted_down : (l1 : List ℕ) (n : ℕ) → n ≡ c - b → Copies l l1 a b n → l1 ≡ p ++ (y ++ drop (a + n) l)
  shifted_down l1 n en k = k ∙ rw (before, second n en)

  -- the first moves up over the second; what then stands in its place
  pub left_over : ℕ → List ℕ
  left_over to = drop a (take to l)

  pub left_over_length : (to : ℕ) → to ≡ a + (c - b) → length (left_over to) ≡ c - b
  unfolding left_over
  left_over_length to et =
      let within = fits in omega (arith, length-drop a (take to l), length-take-le to l (omega arith))

  pub shifted_up : (l1 : List ℕ) (to n : ℕ) → to ≡ a + (c - b) → n ≡ b - a → Copies l l1 to a n → l1 ≡ p ++ (left_over to ++ (x ++ s))
  unfolding left_over
  shifted_up l1 to n et en k =
      let within = fits in
      let front : take to l ≡ p ++ left_over to = sym (take-append-drop a (take to l)) ∙ ap (λ r. r ++ left_over to) (take-take a to l (omega arith) ∙ before) in
      k ∙ rw (first n en, behind (to + n) (omega arith)) (ap (λ z. z ++ (x ++ s)) front ∙ append_assoc p (left_over to) (x ++ s))

-- the first block is kept aside, and written behind the second
pub front_moved : (l l1 l2 block : List ℕ) (a b c to m n : ℕ) → m ≡ b - a → n ≡ c - b → to ≡ a + n → block ≡ take m (drop a l) → Copies l l1 a b n → Overwrites l1 l2 to block
    → Exchanges l l2 a b c
front_moved l l1 l2 block a b c to m n em en et eb k o p x y s e ha hb hc =
    let h : Blocks l a b c p x y s = record { is = e; starts = ha; seam = hb; ends = hc } in
    let within = fits h in
    let is : block ≡ x = eb ∙ first h m em in
    let old = take m (drop to l) in
    let same : drop (a + n) l ≡ old ++ s = rw (← et) (sym (take-append-drop m (drop to l)) ∙ ap (λ r. old ++ r) (drop-drop m to l ∙ behind h (to + m) (omega arith))) in
    let e1 : l1 ≡ (p ++ y) ++ (old ++ s) = shifted_down h l1 n en k ∙ ap (λ z. p ++ (y ++ z)) same ∙ sym (append_assoc p y (old ++ s)) in
    o (p ++ y) old s e1 (omega (arith, length-append p y)) (length_part to m l (omega arith) ∙ rw is (omega arith)) ∙ rw is (simp append_assoc)

-- the second is kept aside, and written before the first
pub end_moved : (l l1 l2 block : List ℕ) (a b c to m n : ℕ) → m ≡ b - a → n ≡ c - b → to ≡ a + n → block ≡ take n (drop b l) → Copies l l1 to a m → Overwrites l1 l2 a block
    → Exchanges l l2 a b c
end_moved l l1 l2 block a b c to m n em en et eb k o p x y s e ha hb hc =
    let h : Blocks l a b c p x y s = record { is = e; starts = ha; seam = hb; ends = hc } in
    let is : block ≡ y = eb ∙ second h n en in
    o p (left_over h to) (x ++ s) (shifted_up h l1 to m (omega arith) em k) ha (left_over_length h to (omega arith) ∙ rw is (omega arith)) ∙ rw is

-- k bytes of the first block go to the end, then the rest of it
pub front_in_parts : (l l1 l2 : List ℕ) (a b c k part middle : ℕ) → part ≡ a + k → b ≡ middle + k → a ≤ middle → Exchanges l l1 a part c → Exchanges l1 l2 a middle c
    → Exchanges l l2 a b c
front_in_parts l l1 l2 a b c k part middle ep eb below x1 x2 p x y s e ha hb hc =
    let r = take k x in
    let x' = drop k x in
    let split : r ++ x' ≡ x = take-append-drop k x in
    let many = length-take-le k x (omega arith) in
    let left = length-drop k x in
    let e1 = x1 p r (x' ++ y) s (e ∙ ap (λ z. p ++ (z ++ (y ++ s))) (sym split) ∙ simp append_assoc) ha (omega arith) (omega (arith, length-append x' y)) in
    let e2 = x2 p x' (y ++ r) s (e1 ∙ simp append_assoc) ha (omega arith) (omega (arith, length-append y r)) in
    e2 ∙ (simp append_assoc) ∙ ap (λ z. p ++ (y ++ z)) (sym (append_assoc r x' s) ∙ ap (λ z. z ++ s) split)

-- k bytes of the second block go to the front, then the rest of it
pub end_in_parts : (l l1 l2 : List ℕ) (a b c k part middle : ℕ) → c ≡ part + k → middle ≡ b + k → middle ≤ c → Exchanges l l1 a part c → Exchanges l1 l2 a middle c
    → Exchanges l l2 a b c
end_in_parts l l1 l2 a b c k part middle ep em above x1 x2 p x y s e ha hb hc =
    let y' = take (part - b) y in
    let r = drop (part - b) y in
    let split : y' ++ r ≡ y = take-append-drop (part - b) y in
    let many = length-take-le (part - b) y (omega arith) in
    let left = length-drop (part - b) y in
    let e1 = x1 p (x ++ y') r s (e ∙ ap (λ z. p ++ (x ++ (z ++ s))) (sym split) ∙ simp append_assoc) ha (omega (arith, length-append x y')) (omega arith) in
    let e2 = x2 p (r ++ x) y' s (e1 ∙ simp append_assoc) ha (omega (arith, length-append r x)) (omega arith) in
    e2 ∙ (simp append_assoc) ∙ ap (λ z. p ++ z) (sym (append_assoc y' r (x ++ s)) ∙ ap (λ z. z ++ (x ++ s)) split)

-- the part that both are, rotated by the first one's length
pub exchanged : (a b c : ℕ) (bs ys : List ℕ) → (let part = mid_of a (c - a) bs in ys ≡ drop (b - a) part ++ take (b - a) part)
    → Exchanges bs (put_mid a (c - a) bs ys) a b c
exchanged a b c bs ys e = λ p x y s is hp hx hy.
    let before : take a bs ≡ p = ap (take a) is ∙ take_at p (x ++ (y ++ s)) a hp in
    let rest : drop a bs ≡ (x ++ y) ++ s = ap (drop a) is ∙ drop_at p (x ++ (y ++ s)) a hp ∙ sym (append_assoc x y s) in
    let long : length (x ++ y) ≡ c - a = omega (arith, length-append x y) in
    let part : mid_of a (c - a) bs ≡ x ++ y = ap (take (c - a)) rest ∙ take_at (x ++ y) s (c - a) long in
    let behind : drop (c - a) (drop a bs) ≡ s = ap (drop (c - a)) rest ∙ drop_at (x ++ y) s (c - a) long in
    rw (e, part, before, behind, take_at x y (b - a) (omega arith), drop_at x y (b - a) (omega arith)) (simp append_assoc)
