-- A record of four bytes written behind others. Assumes nothing.
use mathlib.Core.Path.{◌≡◌, sym, ap, ap₂, ◌∙◌}
use mathlib.Core.List.{List, ◌++◌}
use Prim.Native.Nat.{ℕ, ◌+◌, ◌*◌, ◌≤◌, ◌<◌}
use native.Mathlib.Omega.{arith}
use lib.ListN.{length, take, drop, length-take, length-drop, take-append-drop}
use Rattle.records.specs.Bytes.{u16_at}
use Rattle.records.specs.Record.{declarator_at, statement_at}
use Rattle.records_laws.proofs.Series.{Reads, read_one_in}
use Rattle.records_table.proofs.Before.{byte-before}
use Rattle.records_table.specs.Overwrites.{Overwrites}

-- what is read before a place is the same whatever stands from there on
pub declarator-before : (p x y : List ℕ) (at : ℕ) → at + 4 ≤ length p → declarator_at (p ++ x) at ≡ declarator_at (p ++ y) at
unfolding declarator_at u16_at
declarator-before p x y at h =
    rw (
      byte-before p x y at (omega arith),
      byte-before p x y (at + 1) (omega arith),
      byte-before p x y (at + 2) (omega arith),
      byte-before p x y (at + 2 + 1) (omega arith),
    )

pub statement-before : (p x y : List ℕ) (at : ℕ) → at + 4 ≤ length p → statement_at (p ++ x) at ≡ statement_at (p ++ y) at
unfolding statement_at u16_at
statement-before p x y at h =
    rw (
      byte-before p x y at (omega arith),
      byte-before p x y (at + 1) (omega arith),
      byte-before p x y (at + 2) (omega arith),
      byte-before p x y (at + 2 + 1) (omega arith),
    )

-- A record that is written is read at its place, and those before it are as they were.
module _ {A : Type 0} {readAt : List ℕ → ℕ → A} {bytes : A → List ℕ} (r : Reads readAt bytes 4)
    (local : (p x y : List ℕ) (at : ℕ) → at + 4 ≤ length p → readAt (p ++ x) at ≡ readAt (p ++ y) at) where
  pub written : {bs bs' : List ℕ} (a : A) (at many : ℕ) → at ≡ 4 * many → at + 4 ≤ length bs → Overwrites bs bs' at (bytes a)
      → (readAt bs' (4 * many) ≡ a) × ((i : ℕ) → i < many → readAt bs' (4 * i) ≡ readAt bs (4 * i))
  written {bs} {bs'} a at many e l o =
      let p = take at bs in
      let x = take 4 (drop at bs) in
      let y = drop 4 (drop at bs) in
      let is : bs ≡ p ++ (x ++ y) = sym (take-append-drop at bs) ∙ ap (λ (t : List ℕ). p ++ t) (sym (take-append-drop 4 (drop at bs))) in
      let lp : length p ≡ at = length-take at bs ∙ omega arith in
      let w = o p x y is lp (length-take 4 (drop at bs) ∙ omega (arith, length-drop at bs, r.measured a)) in (
        ap₂ readAt w (sym e ∙ sym lp) ∙ read_one_in r p a y,
        λ i h. ap (λ (t : List ℕ). readAt t (4 * i)) w ∙ local p (bytes a ++ y) (x ++ y) (4 * i) (omega arith) ∙ ap (λ (t : List ℕ). readAt t (4 * i)) (sym is),
      )
