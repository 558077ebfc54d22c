-- A stack that grows downward, and the entries on it. Assumes nothing.
use mathlib.Core.Path.{◌≡◌, refl, sym, ap, ◌∙◌}
use mathlib.Core.List.{List, [], ◌∷◌}
use Prim.Native.Nat.{ℕ, zero, suc, ◌+◌, ◌-◌, ◌≤◌, ◌<◌, min}
use native.Mathlib.Omega.{arith}
use lib.ListN.{length, get_or, take, drop, set, length-take, length-drop}
use lib.Seq.{lt-length-set, drop-cons, drop-set-lt, get_or-set_same}
use Rattle.records.specs.Records.{records_from}
use Rattle.records_rows.specs.Stack.{entry_at}

-- the entries that a loop passes are a part of the stack
pub entries_part : (stack : List ℕ) (k top : ℕ) → top + k ≤ length stack → records_from (entry_at stack) 1 k top ≡ take k (drop top stack)
unfolding records_from entry_at
entries_part stack zero top h = refl
entries_part stack (suc k) top h =
    let e : suc top ≡ top + 1 = omega arith in
    rw (drop-cons stack top 0 (omega arith), e) (ap (λ (es : List ℕ). get_or stack top 0 ∷ es) (entries_part stack k (top + 1) (omega arith)))

-- as many as there are, of k
pub drop-found : {A : Type 0} (k : ℕ) (xs : List A) → drop (length (take k xs)) xs ≡ drop k xs
drop-found zero xs = refl
drop-found (suc k) [] = refl
drop-found (suc k) (x ∷ xs) = drop-found k xs

-- so many are found from the top on
pub found : (stack : List ℕ) (k top : ℕ) → min k (length stack - top) ≡ length (take k (drop top stack))
found stack k top = sym (length-take k (drop top stack) ∙ ap (min k) (length-drop top stack))

-- an entry laid down in the place before others
pub laid : (stack : List ℕ) (top e : ℕ) → top < length stack → drop top (set stack top e) ≡ e ∷ drop (top + 1) stack
laid stack top e h =
    let n : suc top ≡ top + 1 = omega arith in
    drop-cons (set stack top e) top 0 (lt-length-set stack top e h)
    ∙ rw (get_or-set_same stack top e 0 h, n, drop-set-lt (top + 1) stack top e (omega arith))
