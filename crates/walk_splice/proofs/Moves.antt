-- A block that is written, and a tag that moves for two records. Assumes nothing.
use mathlib.Core.Path.{◌≡◌, refl, ◌∙◌}
use mathlib.Core.List.{List, ◌++◌, append_assoc}
use Prim.Native.Nat.{ℕ, ◌+◌, ◌-◌}
use native.Mathlib.Omega.{arith}
use borrow.Rule.Slice.PartMut.{mid_of, put_mid}
use lib.ListN.{length, drop, length-append}
use Rattle.records_table.specs.Table.{work_bytes}
use Rattle.records_table.proofs.Laid.{work_length}
use Rattle.records_table.specs.Overwrites.{Overwrites}
use Rattle.records_table.proofs.Overwriting.{overwritten, two-written}
use Rattle.walk_splice.specs.Blocks.{Exchanges, sequence_record, literal_record, PreservesIndirectAccess}

-- a whole block, copied to a part from `at` on
pub block_written : (at : ℕ) (bs block ys : List ℕ) → ys ≡ block ++ drop (length block) (mid_of at (length bs - at) bs)
    → Overwrites bs (put_mid at (length bs - at) bs ys) at block
block_written at bs block ys e = overwritten at (length block) bs block ys refl e

-- a tag that is kept indirect: first the free record comes before the name's, then the two before the tag, and two others are
-- written in their place
pub kept_indirect : (a b c position behind over next : ℕ) {b0 b1 b2 b3 b4 : List ℕ} → behind ≡ c + 16 → over ≡ b + 32 → next ≡ a + 16
    → Exchanges b0 b1 b c behind → Exchanges b1 b2 a b over
    → Overwrites b2 b3 a (work_bytes (sequence_record position)) → Overwrites b3 b4 next (work_bytes (literal_record position))
    → PreservesIndirectAccess b0 b4 a b c position
kept_indirect a b c position behind over next eb eo en x1 x2 o1 o2 = λ p tag name after free s e hp ht hn ha hf.
    let first = work_bytes (sequence_record position) in
    let second = work_bytes (literal_record position) in
    let one = work_length (sequence_record position) in
    let other = work_length (literal_record position) in
    let e1 = x1 (p ++ tag) (name ++ after) free s (e ∙ simp append_assoc) (omega (arith, length-append p tag)) (omega (arith, length-append name after)) (omega arith) in
    let e2 = x2 p tag (free ++ name) (after ++ s) (e1 ∙ simp append_assoc) hp ht (omega (arith, length-append free name)) in
    two-written a next first second (omega arith) o1 o2 p (free ++ name) (tag ++ (after ++ s)) e2 hp (omega (arith, length-append free name))
