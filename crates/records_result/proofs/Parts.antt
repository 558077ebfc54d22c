-- Parts laid down one behind the other. Assumes nothing.
use mathlib.Core.Path.{◌≡◌, refl, sym, ◌∙◌}
use mathlib.Core.List.{List, ◌++◌, append_assoc}
use Prim.Native.Nat.{ℕ, ◌+◌, ◌-◌, ◌*◌, ◌≤◌}
use native.Mathlib.Nat.{sub-zero}
use native.Mathlib.Omega.{arith}
use borrow.Rule.Slice.PartMut.{mid_of, put_mid}
use lib.ListN.{length, take, drop, length-append}
use lib.Seq.{length-take-le}
use Rattle.records.proofs.Putting.{put_next}
use Rattle.records_table.proofs.NodePart.{node_part, node_part_length}

-- two parts, one behind the other, behind what is laid down
put_two : (out₀ pre bs cs : List ℕ) (at len len' : ℕ) {out ys zs : List ℕ} → length pre ≡ at → length bs ≡ len → out ≡ pre ++ drop at out₀
    → ys ≡ bs ++ drop len (mid_of at (length out - at) out)
    → zs ≡ cs ++ drop len' (mid_of (at + len) (length (put_mid at (length out - at) out ys) - (at + len)) (put_mid at (length out - at) out ys))
    → put_mid (at + len) (length (put_mid at (length out - at) out ys) - (at + len)) (put_mid at (length out - at) out ys) zs
    ≡ pre ++ (bs ++ (cs ++ drop (at + len + len') out₀))
put_two out₀ pre bs cs at len len' m n e p q =
    put_next out₀ (pre ++ bs) cs (at + len) len' (at + len + len') (omega (arith, length-append pre bs)) refl
    (put_next out₀ pre bs at len (at + len) m refl e p ∙ sym (append_assoc pre bs _)) q
    ∙ append_assoc pre bs _

-- the nodes of a table, and behind them the first records of two others, four bytes each
module _ (out₀ nodes declarators statements : List ℕ) (n d s : ℕ) where
  pub tables-put : {out ys zs : List ℕ} → 4 * d ≤ length declarators → out ≡ node_part nodes n ++ drop (12 * n) out₀
      → ys ≡ take (4 * d - 0) declarators ++ drop (4 * d - 0) (mid_of (12 * n) (length out - 12 * n) out)
      → zs ≡ take (4 * s - 0) statements
      ++ drop (4 * s - 0)
      (mid_of (12 * n + 4 * d) (length (put_mid (12 * n) (length out - 12 * n) out ys) - (12 * n + 4 * d)) (put_mid (12 * n) (length out - 12 * n) out ys))
      → put_mid (12 * n + 4 * d) (length (put_mid (12 * n) (length out - 12 * n) out ys) - (12 * n + 4 * d)) (put_mid (12 * n) (length out - 12 * n) out ys) zs
      ≡ node_part nodes n ++ (take (4 * d) declarators ++ (take (4 * s) statements ++ drop (12 * n + 4 * d + 4 * s) out₀))
  tables-put h e p q =
      put_two out₀ (node_part nodes n) (take (4 * d) declarators) (take (4 * s) statements) (12 * n) (4 * d) (4 * s) (node_part_length nodes n)
      (length-take-le (4 * d) declarators h) e (p ∙ rw sub-zero) (q ∙ rw sub-zero)
