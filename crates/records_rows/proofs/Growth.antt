-- The forest behind the nodes that a loop has still to take, and the stack of its entries. Assumes nothing.
use mathlib.Core.Path.{◌≡◌, sym, ap, ◌∙◌}
use mathlib.Core.Bool.{true, ◌&&◌}
use mathlib.Core.List.{List}
use Prim.Native.Nat.{ℕ, ◌+◌, ◌-◌, ◌*◌, ◌≤◌, ◌<◌, min}
use native.Mathlib.Omega.{arith}
use lib.ListN.{length, drop, set, length-set}
use lib.Seq.{drop-length, drop-drop}
use Rattle.records.specs.Records.{records_from}
use Rattle.records.specs.Tree.{forest_of, closed}
use Rattle.records.specs.Place.{all_placed}
use Rattle.records.specs.declared.layout.NodeRecord.{NodeRecord}
use Rattle.records_rows.specs.Stack.{entries, children_stand, node_entry, pushed}
use Rattle.records_rows.specs.Growing.{Growing}
use Rattle.records.proofs.Behind.{one_more, all_left}
use Rattle.records_rows.proofs.Forests.{entries-grown, grown_good}
use Rattle.records_rows.proofs.Stacks.{found, drop-found, laid}

-- the entries once the node has taken its children
pushed_stack : (n : NodeRecord) (stack : List ℕ) (top t e : ℕ) → t < length stack → e ≡ node_entry n (drop top stack)
    → t + 1 ≡ top + min n.children (length stack - top) → drop t (set stack t e) ≡ pushed n (drop top stack)
unfolding pushed
pushed_stack n stack top t e h ee et =
    laid stack t e h
    ∙ rw (et, ee, ← drop-drop (min n.children (length stack - top)) top stack, found stack n.children top, drop-found n.children (drop top stack))

module _ {readAt : ℕ → NodeRecord} {len n from : ℕ} where
  pub growing_none : {stack : List ℕ} (m : ℕ) → m ≡ length stack → Growing readAt len n from stack m n
  unfolding records_from forest_of entries closed all_placed
  growing_none {stack} m e = let none : n - n ≡ 0 = omega arith in
      record {
        within = omega arith;
        inside = omega arith;
        room = omega arith;
        same = rw (none, e) (drop-length stack);
        judged = rw none;
      }

  pub growing_more : {stack : List ℕ} {top i : ℕ} (x : NodeRecord) (e t j : ℕ)
      → Growing readAt len n from stack top i → i ≡ j + 1 → n ≤ length stack → x ≡ readAt (from + len * j)
      → children_stand x (drop top stack) ≡ true → e ≡ node_entry x (drop top stack) → t + 1 ≡ top + min x.children (length stack - top)
      → Growing readAt len n from (set stack t e) t j
  unfolding forest_of
  growing_more {stack} {top} {i} x e t j p ei long ex eg ee et = record {
    within = omega arith;
    inside = omega (arith, length-set stack t e);
    room = omega (arith, length-set stack t e);
    same =
        rw (one_more readAt len n from i j ei p.within, ← ex)
        (pushed_stack x stack top t e (omega arith) ee et ∙ ap (pushed x) p.same ∙ sym (entries-grown x _));
    judged =
        rw (one_more readAt len n from i j ei p.within, ← ex)
        (sym (grown_good x _) ∙ rw (← p.same, eg, p.judged));
  }

  pub growing_all : {stack : List ℕ} {top i : ℕ} → Growing readAt len n from stack top i → i ≤ 0
      → drop top stack ≡ entries (forest_of (records_from readAt len n from))
  growing_all {i = i} p h = p.same ∙ ap (λ (rs : List NodeRecord). entries (forest_of rs)) (all_left readAt len n from i h)

  pub growing_good : {stack : List ℕ} {top i : ℕ} → Growing readAt len n from stack top i → i ≤ 0
      → (closed (records_from readAt len n from) && all_placed (forest_of (records_from readAt len n from))) ≡ true
  growing_good {i = i} p h = sym (ap (λ (rs : List NodeRecord). closed rs && all_placed (forest_of rs)) (all_left readAt len n from i h)) ∙ p.judged
