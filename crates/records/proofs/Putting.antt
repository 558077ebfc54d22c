-- Bytes laid down behind what is laid down. Assumes nothing.
use mathlib.Core.Path.{◌≡◌, ap, ◌∙◌}
use mathlib.Core.List.{List, [], ◌++◌, append-nil}
use Prim.Native.Nat.{ℕ, ◌+◌, ◌-◌}
use native.Mathlib.Omega.{arith}
use borrow.Rule.Slice.PartMut.{mid_of, put_mid}
use lib.ListN.{length, take, drop, length-drop, drop_of_length-le}
use lib.Seq.{take_all, take_at, drop_at, drop-drop}

-- a part of len bytes, in the output from `at` onward
pub put_next : (out₀ pre bs : List ℕ) (at len end : ℕ) {out ys : List ℕ} → length pre ≡ at → at + len ≡ end → out ≡ pre ++ drop at out₀
    → ys ≡ bs ++ drop len (mid_of at (length out - at) out) → put_mid at (length out - at) out ys ≡ pre ++ (bs ++ drop end out₀)
put_next out₀ pre bs at len end {out} {ys} m l e p =
    let before : take at out ≡ pre = ap (take at) e ∙ take_at pre (drop at out₀) at m in
    let behind : drop at out ≡ drop at out₀ = ap (drop at) e ∙ drop_at pre (drop at out₀) at m in
    let whole : mid_of at (length out - at) out ≡ drop at out₀ = take_all (length out - at) (drop at out) (omega (arith, length-drop at out)) ∙ behind in
    let none : drop (length out - at) (drop at out) ≡ [] = drop_of_length-le (drop at out) {i = length out - at} (omega (arith, length-drop at out)) in
    let laid : ys ≡ bs ++ drop end out₀ = p ∙ ap (λ (l : List ℕ). bs ++ drop len l) whole ∙ ap (λ (l : List ℕ). bs ++ l) (drop-drop len at out₀ ∙ ap (λ (k : ℕ). drop k out₀) l) in
    rw (before, none, append-nil, laid)
