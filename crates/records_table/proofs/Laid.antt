-- The laws of trees laid in the work table: how long, in parts, their nodes, the change of a node's flags. Assumes nothing.
use mathlib.Core.Path.{◌≡◌, refl, sym, ap, ◌∙◌}
use mathlib.Core.List.{List, [], ◌∷◌, ◌++◌, append_assoc}
use Prim.Native.Nat.{ℕ, ◌+◌, ◌*◌, ◌≤◌}
use native.Mathlib.Omega.{arith}
use lib.ListN.{length, set, length-append}
use lib.Seq.{set_at}
use Rattle.records.specs.Bytes.{u32_bytes}
use Rattle.records.specs.Record.{node_at, node_bytes}
use Rattle.records.specs.Records.{bytes_of}
use Rattle.records.specs.Tree.{Node, Tree, Trees, node, none, more, count, size, sizes, joined, record_of, preorder, preorders}
use Rattle.records.specs.declared.layout.NodeRecord.{NodeRecord}
use Rattle.records_laws.proofs.Formats.{node-reads}
use Rattle.records_laws.proofs.Series.{Reads, longer, read_one_in}
use Rattle.records_table.specs.Table.{unknown_end, work_bytes}
use Rattle.records_table.specs.Laid.{laid, laids, At, TreeAt, Stands}

-- a record of the table is read as one of a file is
pub work_reads : Reads node_at work_bytes 16
unfolding work_bytes
work_reads = longer node-reads (λ r. u32_bytes unknown_end) 4 (λ r. refl)

pub work_length : (r : NodeRecord) → length (work_bytes r) ≡ 16
work_length r = work_reads.measured r

pub size_least : (t : Tree) → 1 ≤ size t
unfolding size
size_least (node n kids) = omega arith

-- how long
mutual
  unfolding laid laids size sizes

  pub laid-length : (t : Tree) (rest : List ℕ) → length (laid t rest) ≡ 16 * size t + length rest
  laid-length (node n kids) rest =
      omega (arith, length-append (work_bytes (record_of n (count kids))) (laids kids rest), work_length (record_of n (count kids)), laids-length kids rest)

  pub laids-length : (ts : Trees) (rest : List ℕ) → length (laids ts rest) ≡ 16 * sizes ts + length rest
  laids-length none rest = omega arith
  laids-length (more t ts) rest = omega (arith, laid-length t (laids ts rest), laids-length ts rest)

-- what stands behind them stays behind them
mutual
  unfolding laid laids

  pub laid-append : (t : Tree) (x y : List ℕ) → laid t (x ++ y) ≡ laid t x ++ y
  laid-append (node n kids) x y = rw (laids-append kids x y, append_assoc)

  pub laids-append : (ts : Trees) (x y : List ℕ) → laids ts (x ++ y) ≡ laids ts x ++ y
  laids-append none x y = refl
  laids-append (more t ts) x y = ap (laid t) (laids-append ts x y) ∙ laid-append t (laids ts x) y

pub laid_split : (t : Tree) (rest : List ℕ) → laid t rest ≡ laid t [] ++ rest
laid_split t rest = laid-append t [] rest

pub laids_split : (ts : Trees) (rest : List ℕ) → laids ts rest ≡ laids ts [] ++ rest
laids_split ts rest = laids-append ts [] rest

-- two forests joined
pub laids-joined : (ts us : Trees) (rest : List ℕ) → laids (joined ts us) rest ≡ laids ts (laids us rest)
unfolding laids joined
laids-joined none us rest = refl
laids-joined (more t ts) us rest = ap (laid t) (laids-joined ts us rest)

-- they are the records of their preorder
mutual
  unfolding laid laids preorder preorders bytes_of

  pub laid_bytes : (t : Tree) (rs : List NodeRecord) → laid t (bytes_of work_bytes rs) ≡ bytes_of work_bytes (preorder t rs)
  laid_bytes (node n kids) rs = ap (λ (l : List ℕ). work_bytes (record_of n (count kids)) ++ l) (laids_bytes kids rs)

  pub laids_bytes : (ts : Trees) (rs : List NodeRecord) → laids ts (bytes_of work_bytes rs) ≡ bytes_of work_bytes (preorders ts rs)
  laids_bytes none rs = refl
  laids_bytes (more t ts) rs = ap (laid t) (laids_bytes ts rs) ∙ laid_bytes t (preorders ts rs)

pub laids-preorders : (ts : Trees) (rest : List ℕ) → laids ts rest ≡ bytes_of work_bytes (preorders ts []) ++ rest
unfolding bytes_of
laids-preorders ts rest = laids_split ts rest ∙ ap (λ (l : List ℕ). l ++ rest) (laids_bytes ts [])

-- A forest is inside the table.
pub room : {table : List ℕ} {at : ℕ} {ts : Trees} {pre rest : List ℕ} → At table at ts pre rest → 16 * at + 16 * sizes ts ≤ length table
room {ts = ts} {pre} {rest} h = omega (arith, ap length h.is, length-append pre (laids ts rest), laids-length ts rest, h.starts)

-- so is the first node of its first tree
pub room-node : {table : List ℕ} {at : ℕ} {t : Tree} {ts : Trees} {pre rest : List ℕ} → At table at (more t ts) pre rest → 16 * at + 16 ≤ length table
unfolding size sizes
room-node {t = node n kids} h = omega (arith, room h)

pub stands-room : {table : List ℕ} {at : ℕ} → Stands table at → 16 * at + 16 ≤ length table
stands-room s = room-node s.3

-- The first tree of a forest, before the bytes of the others; and back.
module _ {table : List ℕ} {at : ℕ} {t : Tree} {ts : Trees} {pre rest : List ℕ} where
  pub first : At table at (more t ts) pre rest → TreeAt table at t pre (laids ts rest)
  unfolding laids
  first h = record { is = h.is; starts = h.starts }

  pub whole : TreeAt table at t pre (laids ts rest) → At table at (more t ts) pre rest
  unfolding laids
  whole h = record { is = h.is; starts = h.starts }

  -- the others, behind the first; and back
  pub beyond : At table at (more t ts) pre rest → At table (at + size t) ts (pre ++ laid t []) rest
  unfolding laids
  beyond h = record {
    is = h.is ∙ rw (laid_split t (laids ts rest), append_assoc);
    starts = omega (arith, length-append pre (laid t []), laid-length t [], h.starts);
  }

  pub back : At table (at + size t) ts (pre ++ laid t []) rest → At table at (more t ts) pre rest
  unfolding laids
  back h = record {
    is = h.is ∙ rw (laid_split t (laids ts rest), append_assoc);
    starts = omega (arith, length-append pre (laid t []), laid-length t [], h.starts);
  }

-- A node's children, behind its record; and back, with as many children.
module _ {table : List ℕ} {at : ℕ} {n : Node} {kids : Trees} {pre rest : List ℕ} where
  pub inside : TreeAt table at (node n kids) pre rest → At table (at + 1) kids (pre ++ work_bytes (record_of n (count kids))) rest
  unfolding laid laids
  inside h = record {
    is = h.is ∙ rw append_assoc;
    starts = omega (arith, length-append pre (work_bytes (record_of n (count kids))), work_length (record_of n (count kids)), h.starts);
  }

  pub outside : (many : ℕ) → count kids ≡ many → At table (at + 1) kids (pre ++ work_bytes (record_of n many)) rest → TreeAt table at (node n kids) pre rest
  unfolding laid laids
  outside many e h = record {
    is = h.is ∙ rw (append_assoc, e);
    starts = omega (arith, length-append pre (work_bytes (record_of n many)), work_length (record_of n many), h.starts);
  }

  -- what is read there
  pub node_at_lem : TreeAt table at (node n kids) pre rest → node_at table (16 * at) ≡ record_of n (count kids)
  unfolding laid laids
  node_at_lem h = rw (h.is, ← h.starts) (read_one_in work_reads pre (record_of n (count kids)) (laids kids rest))

-- the children of the first node and the trees behind it are a forest
pub down : {table : List ℕ} {at : ℕ} {n : Node} {kids ts : Trees} {pre rest : List ℕ} → At table at (more (node n kids) ts) pre rest
    → At table (at + 1) (joined kids ts) (pre ++ work_bytes (record_of n (count kids))) rest
down {kids = kids} {ts} {rest = rest} h = let i = inside (first h) in record { is = i.is ∙ rw (laids-joined kids ts rest); starts = i.starts }

set-second : (pre : List ℕ) (x y : ℕ) (zs : List ℕ) (v i : ℕ) → length pre + 1 ≡ i → set (pre ++ (x ∷ y ∷ zs)) i v ≡ pre ++ (x ∷ v ∷ zs)
set-second pre x y zs v i e =
    ap (λ (l : List ℕ). set l i v) (sym (append_assoc pre (x ∷ []) (y ∷ zs)))
    ∙ set_at (pre ++ (x ∷ [])) y zs v i (omega (arith, length-append pre (x ∷ [])))
    ∙ append_assoc pre (x ∷ []) (v ∷ zs)

-- a node with other flags
abbrev pub with_flags : Node → ℕ → Node
with_flags n v = record { kind = n.kind; flags = v; label = n.label; position = n.position }

-- A store to the second byte of a node's record changes its flags.
pub flagged : {table : List ℕ} {at : ℕ} {n : Node} {kids : Trees} {pre rest : List ℕ} (v : ℕ) → TreeAt table at (node n kids) pre rest
    → TreeAt (set table (16 * at + 1) v) at (node (with_flags n v) kids) pre rest
unfolding laid laids work_bytes node_bytes record_of
flagged {pre = pre} v h = record { is = rw h.is (set-second pre _ _ _ v _ (omega (arith, h.starts))); starts = h.starts }
