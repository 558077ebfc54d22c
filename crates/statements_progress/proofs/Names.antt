-- The names of declarators, one after the other. Assumes nothing.
use mathlib.Core.Path.{◌≡◌, refl, sym, ap, ap₂, ◌∙◌}
use mathlib.Core.List.{List, ◌∷◌, ◌++◌, append_assoc}
use Prim.Native.Nat.{ℕ, zero, suc, ◌+◌, ◌*◌, ◌-◌, ◌<◌}
use lib.ListN.{length}
use native.Mathlib.Nat.{zero-add}
use native.Mathlib.Omega.{arith}
use Rattle.records.specs.Record.{declarator_at}
use Rattle.statements_progress.specs.Listed.{names_from}

-- those of some declarators, and of others behind them
pub names_split : (records : List ℕ) (low m n : ℕ) → names_from records low (m + n) ≡ names_from records (low + n) m ++ names_from records low n
unfolding names_from
names_split records low zero n = rw (zero-add n) refl
names_split records low (suc m) n =
    let more : suc m + n ≡ suc (m + n) = omega arith in
    let at : low + (m + n) ≡ low + n + m = omega arith in
    rw (more, at, names_split records low m n) refl

-- one more, before them
pub names_more : (records : List ℕ) (left n x : ℕ) → 0 < left → (declarator_at records (4 * (left - 1))).name ≡ x → (xs : List ℕ)
    → names_from records left n ++ (x ∷ xs) ≡ names_from records (left - 1) (n + 1) ++ xs
unfolding names_from
names_more records left n x l e xs =
    let at : left - 1 + 1 ≡ left = omega arith in
    let name : (declarator_at records (4 * (left - 1 + 0))).name ≡ x = ap (λ (k : ℕ). (declarator_at records (4 * k)).name) (omega arith) ∙ e in
    sym
    (ap (λ (k : List ℕ). k ++ xs) (names_split records (left - 1) n 1)
    ∙ append_assoc (names_from records (left - 1 + 1) n) (names_from records (left - 1) 1) xs
    ∙ ap₂ (λ (k y : ℕ). names_from records k n ++ (y ∷ xs)) at name)

pub names-length : (records : List ℕ) (low n : ℕ) → length (names_from records low n) ≡ n
unfolding names_from
names-length records low zero = refl
names-length records low (suc n) = omega (arith, names-length records low n)
