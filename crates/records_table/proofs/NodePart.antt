-- The node part of a file, laid down record by record from the work table. Assumes nothing.
use mathlib.Core.Path.{◌≡◌, refl, sym, ap, ◌∙◌}
use mathlib.Core.List.{List, [], ◌++◌, append_assoc}
use Prim.Native.Nat.{ℕ, zero, suc, ◌+◌, ◌-◌, ◌*◌, ◌≤◌, ◌<◌}
use native.Mathlib.Omega.{arith}
use native.Mathlib.Nat.{zero-add}
use borrow.Rule.Slice.PartMut.{mid_of, put_mid}
use lib.ListN.{length, drop, length-append, length-drop}
use Rattle.records.specs.Record.{node_at, node_bytes}
use Rattle.records.specs.Records.{records_from, bytes_of}
use Rattle.records.proofs.Series.{records-length}
use Rattle.records_laws.proofs.Formats.{node-reads}
use Rattle.records_laws.proofs.Series.{bytes_of_length}
use Rattle.records.proofs.Putting.{put_next}

-- the bytes of n records of a table, from a place on, and of their last one
from_more : (table : List ℕ) (n at : ℕ) (rest : List ℕ)
    → bytes_of node_bytes (records_from (node_at table) 16 (suc n) at) ++ rest
    ≡ bytes_of node_bytes (records_from (node_at table) 16 n at) ++ (node_bytes (node_at table (at + 16 * n)) ++ rest)
unfolding bytes_of records_from
from_more table zero at rest = let e : at + 16 * 0 ≡ at = omega arith in rw e (append_assoc (node_bytes (node_at table at)) [] rest)
from_more table (suc n) at rest =
    let e : at + 16 + 16 * n ≡ at + 16 * suc n = omega arith in
    append_assoc (node_bytes (node_at table at)) _ rest
    ∙ ap (λ (l : List ℕ). node_bytes (node_at table at) ++ l) (from_more table n (at + 16) rest)
    ∙ rw (e, append_assoc)

-- the first n records as a file's node part
abbrev pub node_part : List ℕ → ℕ → List ℕ
node_part table n = bytes_of node_bytes (records_from (node_at table) 16 n 0)

pub node_part_length : (table : List ℕ) (n : ℕ) → length (node_part table n) ≡ 12 * n
node_part_length table n = bytes_of_length node-reads (records_from (node_at table) 16 n 0) ∙ ap (λ (k : ℕ). 12 * k) (records-length (node_at table) 16 n 0)

-- i of n records are laid down at the start of the output, and what follows is as it was
pub record Laid (table : List ℕ) (n : ℕ) (out₀ out : List ℕ) (i : ℕ) : Type 0 where
  pub within : i ≤ n
  pub long : length out ≡ length out₀
  pub same : out ≡ node_part table i ++ drop (12 * i) out₀

module _ {table : List ℕ} {n : ℕ} {out₀ : List ℕ} where
  pub laid_none : Laid table n out₀ out₀ 0
  unfolding bytes_of records_from
  laid_none = record { within = omega arith; long = refl; same = refl }

  pub laid_more : {out ys : List ℕ} {i : ℕ} → Laid table n out₀ out i → i < n → 12 * n ≤ length out₀
      → ys ≡ node_bytes (node_at table (16 * i)) ++ drop 12 (mid_of (12 * i) (length out - 12 * i) out)
      → Laid table n out₀ (put_mid (12 * i) (length out - 12 * i) out ys) (i + 1)
  laid_more {out} {ys} {i} p h l e =
      let more : i + 1 ≡ suc i = omega arith in
      let same : put_mid (12 * i) (length out - 12 * i) out ys ≡ node_part table (i + 1) ++ drop (12 * (i + 1)) out₀
      = put_next out₀ (node_part table i) (node_bytes (node_at table (16 * i))) (12 * i) 12 (12 * (i + 1)) (node_part_length table i) (omega arith) p.same e
      ∙ rw (more, ← zero-add (16 * i)) (sym (from_more table i 0 (drop (12 * suc i) out₀))) in
      record {
        within = omega arith;
        long = ap length same ∙ omega (arith, length-append (node_part table (i + 1)) (drop (12 * (i + 1)) out₀), node_part_length table (i + 1), length-drop (12 * (i + 1)) out₀);
        same = same;
      }
