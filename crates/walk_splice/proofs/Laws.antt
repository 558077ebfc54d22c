-- The replacement, the name and what lies between them as blocks of bytes. Assumes nothing.
use mathlib.Core.Path.{◌≡◌, refl, sym, ap, ◌∙◌}
use mathlib.Core.Bool.{Bool, true, false, cond}
use mathlib.Core.List.{List, [], ◌∷◌, ◌++◌, append_assoc}
use Prim.Native.Nat.{ℕ, ◌+◌, ◌-◌, ◌*◌, ◌≤◌}
use native.Mathlib.Omega.{arith}
use lib.ListN.{length, take, drop, length-append, take-append-drop}
use lib.Seq.{drop_at, length-take-le}
use Rattle.records.specs.Bytes.{u16_bytes, u32_bytes}
use Rattle.records.specs.Record.{node_at, node_bytes}
use Rattle.records.specs.Tree.{Node, Tree, node, count, size, sizes, record_of, node_of}
use Rattle.records.specs.declared.layout.NodeRecord.{NodeRecord}
use Rattle.records_laws.proofs.Series.{read_one}
use Rattle.records_table.specs.Table.{work_bytes, unknown_end}
use Rattle.records_table.specs.Laid.{laid, laids}
use Rattle.records_table.proofs.Laid.{size_least, work_reads, work_length, laid-length, laid_split}
use Rattle.walk_rules.specs.Substitute.{at, preserve_indirect_access}
use Rattle.walk_rules.proofs.Sizes.{size-at}
use Rattle.records_table.specs.Overwrites.{Overwrites}
use Rattle.walk_splice.specs.Blocks.{Exchanges, sequence_record, literal_record, PreservesIndirectAccess}
use Rattle.walk_arms.specs.Answers.{in_place}
use Rattle.walk_splice.specs.Splice.{Before, After}

size_indirect : (t : Tree) → size (preserve_indirect_access t) ≡ size t + 2
unfolding preserve_indirect_access size sizes
size_indirect (node n kids) = omega arith

pub placed-size : (indirect : Bool) (t : Tree) (name : Node) → size (in_place indirect t name) ≡ size t + cond indirect 2 0
placed-size true t name = omega (arith, size_indirect (at name.position t), size-at name.position t)
placed-size false t name = omega (arith, size-at name.position t)

-- the position of a root, written
laid-at : (pre rest : List ℕ) (position a : ℕ) (t : Tree) {bs bs' : List ℕ} → bs ≡ pre ++ laid t rest → length pre ≡ a
    → Overwrites bs bs' (a + 8) (u32_bytes position) → bs' ≡ pre ++ laid (at position t) rest
unfolding laid at work_bytes node_bytes record_of
laid-at pre rest position a (node n kids) e h o =
    let fields : List ℕ = n.kind ∷ n.flags ∷ u16_bytes n.label ++ u16_bytes (count kids) ++ u16_bytes 0 in
    let behind = u32_bytes unknown_end ++ laids kids rest in
    o (pre ++ fields) (u32_bytes n.position) behind (e ∙ sym (append_assoc pre fields (u32_bytes n.position ++ behind))) (omega (arith, length-append pre fields)) refl
    ∙ append_assoc pre fields (u32_bytes position ++ behind)

-- a tree that is kept indirect
laid_indirect : (position : ℕ) (t : Tree) (rest : List ℕ)
    → laid (preserve_indirect_access (at position t)) rest ≡ work_bytes (sequence_record position) ++ (work_bytes (literal_record position) ++ laid (at position t) rest)
unfolding laid laids at preserve_indirect_access record_of count
laid_indirect position (node n kids) rest = refl

module _ {b0 : List ℕ} {from target place used : ℕ} {t : Tree} {name : NodeRecord} {pre between after rest : List ℕ} (h : Before b0 from target place used t name pre between after rest) where
  -- from the name's record on
  tail : List ℕ
  tail = work_bytes name ++ (after ++ rest)

  -- what stands behind the nodes in use
  behind : length b0 ≡ 16 * used + length rest
  unfolding tail
  behind = omega (
    arith,
    h.starts,
    h.searched,
    h.found,
    h.ends,
    ap length h.is,
    length-append pre (laid t (between ++ tail)),
    laid-length t (between ++ tail),
    length-append between tail,
    length-append (work_bytes name) (after ++ rest),
    work_length name,
    length-append after rest,
  )

  -- how the numbers lie
  pub bounds : (from + 1 ≤ target) × (target ≤ place) × (place + 1 ≤ used) × (16 * used ≤ length b0)
  bounds = omega (arith, size_least t, h.searched, h.found, h.ends, behind)

  -- what is read at the place
  pub name-read : node_at b0 (16 * place) ≡ name
  unfolding tail
  name-read =
      let whole : b0 ≡ (pre ++ (laid t [] ++ between)) ++ tail = h.is ∙ rw (laid_split t (between ++ tail)) (simp append_assoc) in
      let starts : length (pre ++ (laid t [] ++ between)) ≡ 16 * place
      = omega (arith, h.starts, h.searched, h.found, length-append pre (laid t [] ++ between), length-append (laid t []) between, laid-length t []) in
      read_one work_reads b0 (16 * place) (after ++ rest) name (ap (drop (16 * place)) whole ∙ drop_at (pre ++ (laid t [] ++ between)) tail (16 * place) starts)

  -- the replacement with its root's new position
  root-set : Tree
  root-set = at name.position t

  root_set-length : length (laid root-set []) ≡ 16 * size t
  unfolding root-set
  root_set-length = omega (arith, laid-length root-set [], size-at name.position t)

  module _ {b1 b2 : List ℕ} {position : ℕ} (ep : position ≡ name.position) (o : Overwrites b0 b1 (16 * from + 8) (u32_bytes position)) (x : Exchanges b1 b2 (16 * from) (16 * target) (16 * place)) where
    -- it stands directly before the name
    moved : b2 ≡ pre ++ (between ++ (laid root-set [] ++ tail))
    unfolding tail root-set
    moved =
        let written : b1 ≡ pre ++ laid root-set (between ++ tail) = laid-at pre (between ++ tail) name.position (16 * from) t h.is h.starts (rw ep at o) in
        x pre (laid root-set []) between tail (written ∙ rw (laid_split root-set (between ++ tail))) h.starts (omega (arith, root_set-length, h.searched)) h.found

    -- then what is behind the name changes places with its record
    pub spliced : {b3 : List ℕ} {indirect : Bool} (after' : ℕ) → after' ≡ 16 * place + 16 → indirect ≡ false → Exchanges b2 b3 (16 * place) after' (16 * used)
        → After b3 (used - 1) (in_place indirect t (node_of name)) pre between after (work_bytes name ++ rest)
    unfolding node_of tail root-set
    spliced after' ea e k =
        let front = pre ++ (between ++ laid root-set []) in
        rw e (record {
          is = k front (work_bytes name) after rest (moved ∙ simp append_assoc)
              (omega (arith, h.starts, h.searched, h.found, root_set-length, length-append pre (between ++ laid root-set []), length-append between (laid root-set [])))
              (omega (arith, work_length name)) (omega (arith, h.ends))
              ∙ rw (laid_split root-set (after ++ (work_bytes name ++ rest))) (simp append_assoc);
          ends = omega (arith, h.starts, h.searched, h.found, h.ends, placed-size false t (node_of name));
        })

    -- or two records come before the replacement
    pub spliced_indirect : {b3 : List ℕ} {indirect : Bool} → indirect ≡ true → 16 * used + 16 ≤ length b0 → PreservesIndirectAccess b2 b3 (16 * (from + (place - target))) (16 * place) (16 * used) position
        → After b3 (used + 1) (in_place indirect t (node_of name)) pre between after (drop 16 rest)
    unfolding node_of tail root-set
    spliced_indirect e fits k = rw e (record {
      is = k (pre ++ between) (laid root-set []) (work_bytes name) after (take 16 rest) (drop 16 rest) (moved ∙ rw (take-append-drop 16 rest) (simp append_assoc))
          (omega (arith, h.starts, h.found, length-append pre between)) (omega (arith, h.searched, h.found, root_set-length))
          (work_length name) h.ends (length-take-le 16 rest (omega (arith, behind)))
          ∙ rw (ep, laid_indirect name.position t (after ++ drop 16 rest), laid_split root-set (after ++ drop 16 rest)) (simp append_assoc);
      ends = omega (arith, h.starts, h.searched, h.found, h.ends, placed-size true t (node_of name));
    })
