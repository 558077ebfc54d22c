-- A tree of a file, copied to the end of the work table node by node. Assumes nothing.
use mathlib.Core.Path.{◌≡◌, sym, ap, ◌∙◌}
use mathlib.Core.List.{List, ◌++◌, append-nil, append_assoc}
use Prim.Native.Nat.{ℕ, ◌+◌, ◌-◌, ◌*◌, ◌≤◌, ◌<◌}
use native.Mathlib.Nat.{add-zero}
use native.Mathlib.Omega.{arith}
use borrow.Rule.Slice.PartMut.{mid_of, put_mid}
use lib.ListN.{length, take, drop, length-append, drop_of_length-le, take-append-drop}
use lib.Seq.{take_at, drop_at, take_all, drop-drop, length-take-le}
use Rattle.records.specs.Record.{node_at}
use Rattle.records.specs.Tree.{Tree, Trees, node, none, more, count, size, sizes, joined, record_of}
use Rattle.records.specs.declared.layout.NodeRecord.{NodeRecord}
use Rattle.records_laws.proofs.Forests.{count-joined, sizes-joined, count-sizes}
use Rattle.records_table.specs.Table.{work_bytes}
use Rattle.records_table.specs.Laid.{laid, laids}
use Rattle.records_table.proofs.Laid.{work_length, laids-joined}
use Rattle.records_table.specs.Loads.{FileForest, FileTree, HasRoom}
use Rattle.records_table.proofs.FileForest.{room, node_at_lem, down}

-- the bytes behind the first `end` written anew
put_last : (end : ℕ) (table pre rest new : List ℕ) → table ≡ pre ++ rest → length pre ≡ end → put_mid end (length table - end) table new ≡ pre ++ new
put_last end table pre rest new is long =
    rw (
      is,
      take_at pre rest end long,
      drop_at pre rest end long,
      drop_of_length-le rest {i = length (pre ++ rest) - end} (omega (arith, length-append pre rest)),
      append-nil,
    )

-- what stood there
last_part : (end : ℕ) (table pre rest : List ℕ) → table ≡ pre ++ rest → length pre ≡ end → mid_of end (length table - end) table ≡ rest
last_part end table pre rest is long =
    rw (is, drop_at pre rest end long) (take_all (length (pre ++ rest) - end) rest (omega (arith, length-append pre rest)))

-- A forest, `left`, is still to be copied, from byte `next` of the file to word `word` of the table, behind the bytes
-- `done`. With it the table will be `goal`, and its nodes will end at word `last`.
pub record Left (file table goal : List ℕ) (from last total : ℕ) (behind : List NodeRecord) (next word end at : ℕ) (before : List NodeRecord) (left : Trees) (done rest : List ℕ) : Type 0 where
  pub here : FileForest file from at left total before behind
  pub reads : next ≡ from + 12 * at
  pub due : end ≡ word + 4 * count left
  pub whole : word + 4 * sizes left ≡ last
  pub is : table ≡ done ++ rest
  pub starts : length done ≡ 4 * word
  pub ends : done ++ laids left (drop (16 * sizes left) rest) ≡ goal

abbrev pub SomeLeft : List ℕ → List ℕ → List ℕ → ℕ → ℕ → ℕ → List NodeRecord → ℕ → ℕ → ℕ → Type 0
SomeLeft file table goal from last total behind next word end =
    (at : ℕ) × (before : List NodeRecord) × (left : Trees) × (done : List ℕ) × (rest : List ℕ)
    × Left file table goal from last total behind next word end at before left done rest

-- so it is of every tree that stands there
abbrev pub Loading : List ℕ → ℕ → ℕ → List ℕ → ℕ → List ℕ → ℕ → ℕ → ℕ → Type 0
Loading file from at table used table' next word end =
    (t : Tree) (total : ℕ) (before behind : List NodeRecord) → FileTree file from at t total before behind
    → (pre rest : List ℕ) → table ≡ pre ++ rest → length pre ≡ 16 * used
    → SomeLeft file table' (pre ++ laid t (drop (16 * size t) rest)) from (4 * (used + size t)) total behind next word end

-- at first it is the whole tree
pub loading_from : {file : List ℕ} {from at next : ℕ} {table : List ℕ} → next ≡ from + 12 * at → (used : ℕ) → Loading file from at table used table next (4 * used) (4 * used + 4)
unfolding count sizes laids
loading_from {at = at} e used t total before behind here pre rest is long = (
  at,
  before,
  more t none,
  pre,
  rest,
  record { here = here; reads = e; due = omega arith; whole = omega arith; is = is; starts = omega (arith, long); ends = rw add-zero },
)

module _ {file table goal : List ℕ} {from last total : ℕ} {behind : List NodeRecord} {next word end at : ℕ} {before : List NodeRecord} {done rest : List ℕ} where
  -- one node more: its children are due in its place
  pub loading_more : (left : Trees) → Left file table goal from last total behind next word end at before left done rest → word < end
      → (r : NodeRecord) (children to : ℕ) (new : List ℕ) → to ≡ 4 * word → r ≡ node_at file next → children ≡ r.children
      → new ≡ work_bytes (node_at file next) ++ drop 16 (mid_of to (length table - to) table)
      → SomeLeft file (put_mid to (length table - to) table new) goal from last total behind (next + 12) (word + 4) (end + 4 * children)
  unfolding count size sizes laid laids record_of
  loading_more none l some r children to new place read k copied = absurd (omega (arith, l.due))
  loading_more (more (node n kids) ts) l some r children to new place read k copied =
      let m = record_of n (count kids) in
      let is : node_at file next ≡ m = rw l.reads (node_at_lem l.here) in
      let long : length done ≡ to = omega (arith, l.starts) in
      let many : 16 + 16 * sizes (joined kids ts) ≡ 16 * sizes (more (node n kids) ts) = rw sizes-joined (omega arith) in (
        at + 1,
        _,
        joined kids ts,
        done ++ work_bytes m,
        drop 16 rest,
        record {
          here = down l.here;
          reads = omega (arith, l.reads);
          due = rw (count-joined, k, read ∙ is) (omega (arith, l.due));
          whole = rw sizes-joined (omega (arith, l.whole));
          is = put_last to table done rest new l.is long
              ∙ ap (λ (bs : List ℕ). done ++ bs) (copied ∙ rw (is, last_part to table done rest l.is long))
              ∙ sym (append_assoc done (work_bytes m) (drop 16 rest));
          starts = omega (arith, length-append done (work_bytes m), work_length m, l.starts);
          ends = rw (append_assoc, laids-joined, drop-drop (16 * sizes (joined kids ts)) 16 rest, many) l.ends;
        },
      )

  -- nothing is due: the tree is copied
  pub loading_all : (left : Trees) → Left file table goal from last total behind next word end at before left done rest → end ≤ word
      → (end ≡ last) × (table ≡ goal)
  unfolding count sizes laids
  loading_all none l over = (omega (arith, l.due, l.whole), l.is ∙ l.ends)
  loading_all (more u ts) l over = absurd (omega (arith, l.due))

-- while something is due, its first node is inside the file and has its place in the table, as the nodes that are known of have
pub loading_fits : {file : List ℕ} {from at : ℕ} {table : List ℕ} (used : ℕ) {table' : List ℕ} {next word end : ℕ} → HasRoom file from at table used
    → Loading file from at table used table' next word end → word < end
    → (next + 12 ≤ length file) × (4 * word + 16 ≤ length table) × (4 * end ≤ length table)
loading_fits {table = table} used (t, total, before, behind, here, enough) l some =
    let cut = 16 * used in
    let (at, before, left, done, rest, k)
    = l t total before behind here (take cut table) (drop cut table) (sym (take-append-drop cut table)) (length-take-le cut table (omega arith)) in (
      omega (arith, room k.here, k.reads, k.due, count-sizes left),
      omega (arith, k.due, k.whole, count-sizes left, enough),
      omega (arith, k.due, k.whole, count-sizes left, enough),
    )
