-- Arrays that hold a number for each name. Assumes nothing.
use mathlib.Core.Path.{◌≡◌, refl, sym, ap, ◌∙◌}
use mathlib.Core.Bool.{Bool, true, false, cond}
use mathlib.Core.List.{List}
use Prim.Native.Nat.{ℕ, ◌+◌, ◌≤◌, ◌<◌}
use native.Mathlib.Omega.{arith}
use native.Mathlib.Nat.{zero-add}
use lib.ListN.{length, get_or, set, get_or-eq_default, length-set}
use lib.Seq.{get_or-set_same, get_or-set_other}
use lib.Dec.{eqb, ltb}
use borrow.Author.Tests.{eqb-true, eqb-false, ne_eqb, ltb-true, ltb-false}
use Rattle.records.specs.File.{one}
use Rattle.records.specs.Tree.{Node, Trees, forest_of}
use Rattle.records.specs.Count.{uses_of}
use Rattle.records.specs.declared.layout.NodeRecord.{NodeRecord}
use Rattle.records_rows.specs.Tally.{Tally}
use Rattle.records_rows.proofs.Uses.{uses-most}

-- a place that is written, and the others
set_at : (xs : List ℕ) (a v k : ℕ) → a < length xs → (b : Bool) → eqb a k ≡ b → get_or (set xs a v) k 0 ≡ cond b v (get_or xs k 0)
set_at xs a v k h true e = rw (← eqb-true a k e) (get_or-set_same xs a v 0 h)
set_at xs a v k h false e = get_or-set_other xs a k v 0 (λ q. eqb-false a k e (sym q))

pub tally-set : (f : ℕ → ℕ) (xs : List ℕ) (a v : ℕ) → a < length xs → Tally f xs → Tally (λ k. cond (eqb a k) v (f k)) (set xs a v)
tally-set f xs a v h t k hk =
    set_at xs a v k h (eqb a k) refl ∙ ap (λ (m : ℕ). cond (eqb a k) v m) (t k (omega (arith, length-set xs a v)))

-- one use more, of a name without a place
pub not_added : (xs : List ℕ) (a : ℕ) → length xs ≤ a → Tally (λ k. one (eqb a k) + get_or xs k 0) xs
not_added xs a h k hk = rw (ne_eqb a k (λ e. omega arith)) (sym (zero-add (get_or xs k 0)))

-- no more uses than records, beside what there was
low-at : (named : Node → Trees → ℕ) (rs : List NodeRecord) (ws xs : List ℕ) → Tally (λ k. uses_of named k (forest_of rs) + get_or ws k 0) xs → (k : ℕ) (b : Bool)
    → ltb k (length xs) ≡ b → get_or xs k 0 ≤ length rs + get_or ws k 0
low-at named rs ws xs t k true e = rw (t k (ltb-true k (length xs) e)) (omega (arith, uses-most named k rs))
low-at named rs ws xs t k false e = rw (get_or-eq_default xs 0 (ltb-false k (length xs) e)) (omega arith)

pub tally-low : (named : Node → Trees → ℕ) (rs : List NodeRecord) (ws xs : List ℕ) → Tally (λ k. uses_of named k (forest_of rs) + get_or ws k 0) xs → (k : ℕ)
    → get_or xs k 0 ≤ length rs + get_or ws k 0
tally-low named rs ws xs t k = low-at named rs ws xs t k (ltb k (length xs)) refl
