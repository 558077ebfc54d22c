-- The uses of each name behind the nodes that a loop has still to take. Assumes nothing.
use mathlib.Core.Path.{◌≡◌, refl, sym, ap, ◌∙◌}
use mathlib.Core.List.{List, ◌∷◌}
use Prim.Native.Nat.{ℕ, zero, suc, ◌+◌, ◌-◌, ◌*◌, ◌≤◌, ◌<◌}
use native.Mathlib.Omega.{arith}
use native.Mathlib.Nat.{add_assoc, zero-add}
use lib.ListN.{length, get_or}
use lib.Dec.{eqb}
use Rattle.records.specs.Records.{records_from}
use Rattle.records.specs.File.{one}
use Rattle.records.specs.Tree.{Node, Trees, firsts, node_of, forest_of}
use Rattle.records.specs.Count.{target_name, name_read, uses_of, reads_of, targets_of}
use Rattle.records.specs.declared.layout.NodeRecord.{NodeRecord}
use Rattle.records.proofs.Series.{records-length, next_record}
use Rattle.records_rows.specs.Counting.{Counting}
use Rattle.records_rows.specs.Tally.{Tally, head_target, record_read}
use Rattle.records.proofs.Behind.{one_more, all_left}
use Rattle.records_rows.proofs.Uses.{uses-grown, read_record}
use Rattle.records_rows.proofs.Tallies.{tally-low}

-- a tally with one record more, whose node names this name
tally-more : (named : Node → Trees → ℕ) (x : NodeRecord) (rs : List NodeRecord) (ws xs ys : List ℕ) (name : ℕ) → length ys ≡ length xs
    → name ≡ named (node_of x) (firsts x.children (forest_of rs)) → Tally (λ k. uses_of named k (forest_of rs) + get_or ws k 0) xs
    → Tally (λ k. one (eqb name k) + get_or xs k 0) ys → Tally (λ k. uses_of named k (forest_of (x ∷ rs)) + get_or ws k 0) ys
unfolding forest_of
tally-more named x rs ws xs ys name el en t u k h =
    u k h
    ∙ rw (t k (omega arith), en, ← add_assoc (one (eqb (named (node_of x) (firsts x.children (forest_of rs))) k)) (uses_of named k (forest_of rs)) (get_or ws k 0))
    (ap (λ (m : ℕ). m + get_or ws k 0) (sym (uses-grown named k x (forest_of rs))))

-- what a record reads, by the record behind it
read_ahead : (x : NodeRecord) (c a b : ℕ) → x.children ≡ c → (0 < c → a ≡ b) → record_read x a ≡ record_read x b
unfolding record_read
read_ahead x zero a b e s = rw e
read_ahead x (suc c) a b e s = rw (s (omega arith))

module _ {readAt : ℕ → NodeRecord} {len n from : ℕ} where
  pub counting_none : {reads targets : List ℕ} → Counting readAt len n from reads targets reads targets n
  unfolding records_from forest_of uses_of
  counting_none {reads} {targets} = let none : n - n ≡ 0 = omega arith in
      record {
        within = omega arith;
        read = rw none (λ k h. sym (zero-add (get_or reads k 0)));
        target = rw none (λ k h. sym (zero-add (get_or targets k 0)));
      }

  module _ {reads₀ targets₀ reads targets : List ℕ} {i : ℕ} (p : Counting readAt len n from reads₀ targets₀ reads targets i) where
    head_behind : i < n → head_target (records_from readAt len (n - i) (from + len * i)) ≡ target_name (node_of (readAt (from + len * i)))
    unfolding head_target
    head_behind h = rw (next_record readAt len n i (from + len * i) h)

    pub counting_more : (reads' targets' : List ℕ) (x : NodeRecord) (j : ℕ) → i ≡ j + 1 → x ≡ readAt (from + len * j) → (0 < x.children → i < n)
        → length reads' ≡ length reads → length targets' ≡ length targets
        → Tally (λ k. one (eqb (record_read x (target_name (node_of (readAt (from + len * i))))) k) + get_or reads k 0) reads'
        → Tally (λ k. one (eqb (target_name (node_of x)) k) + get_or targets k 0) targets' → Counting readAt len n from reads₀ targets₀ reads' targets' j
    counting_more reads' targets' x j ei ex some lr lt tr tt' = record {
      within = omega (arith, p.within);
      read =
          rw (one_more readAt len n from i j ei p.within, ← ex)
          (tally-more name_read x _ reads₀ reads reads' _ lr (read_ahead x x.children _ _ refl (λ s. sym (head_behind (some s))) ∙ sym (read_record x _)) p.read tr);
      target =
          rw (one_more readAt len n from i j ei p.within, ← ex)
          (tally-more (λ m kids. target_name m) x _ targets₀ targets targets' _ lt refl p.target tt');
    }

    -- no count grows by more than the number of nodes
    pub reads-low : (k : ℕ) → get_or reads k 0 ≤ n - i + get_or reads₀ k 0
    reads-low k =
        rw (← records-length readAt len (n - i) (from + len * i)) (tally-low name_read (records_from readAt len (n - i) (from + len * i)) reads₀ reads p.read k)

    pub targets-low : (k : ℕ) → get_or targets k 0 ≤ n - i + get_or targets₀ k 0
    targets-low k =
        rw (← records-length readAt len (n - i) (from + len * i))
        (tally-low (λ m kids. target_name m) (records_from readAt len (n - i) (from + len * i)) targets₀ targets p.target k)

    pub counted-reads : i ≤ 0 → Tally (λ k. reads_of k (forest_of (records_from readAt len n from)) + get_or reads₀ k 0) reads
    counted-reads h = rw (← all_left readAt len n from i h) p.read

    pub counted-targets : i ≤ 0 → Tally (λ k. targets_of k (forest_of (records_from readAt len n from)) + get_or targets₀ k 0) targets
    counted-targets h = rw (← all_left readAt len n from i h) p.target
