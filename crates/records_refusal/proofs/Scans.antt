-- One node more in the pass over the nodes, and where the pass ends. Assumes nothing.
use mathlib.Core.Path.{◌≡◌, refl, sym, ap, subst, ◌∙◌}
use mathlib.Core.Bool.{Bool, true, false, not, ◌&&◌, and-true, and-false}
use mathlib.Core.List.{List, [], ◌∷◌, ◌++◌}
use mathlib.Core.Logic.{⊎_elim}
use Prim.Native.Nat.{ℕ, ◌+◌, ◌-◌, ◌*◌, ◌≤◌, ◌<◌}
use native.Mathlib.Omega.{arith}
use native.Mathlib.Nat.{eq-or-lt_of_le}
use lib.ListN.{length, get_or, drop, set, length-drop, get_or-eq_default}
use lib.Seq.{get_or-set_same, get_or-set_other}
use lib.Dec.{eqb, leb}
use borrow.Author.Tests.{leb-true}
use Rattle.records.specs.Record.{name_at, node_at}
use Rattle.records.specs.Records.{records_from, every, every_from}
use Rattle.records.specs.File.{one, nodes_start, nodes_from, names_of, nodes_of}
use Rattle.records.specs.Refusal.{row}
use Rattle.records.specs.Flags.{compound}
use Rattle.records.specs.Node.{is_named, good_node, bad_nodes}
use Rattle.records.specs.Tree.{node_of, forest_of}
use Rattle.records.specs.Count.{target_name}
use Rattle.records.specs.declared.layout.Header.{Header}
use Rattle.records.specs.declared.layout.NameFacts.{NameFacts}
use Rattle.records.specs.declared.layout.NodeRecord.{NodeRecord}
use Rattle.records.proofs.Tests.{and_left, one-most, every_cons, every_append}
use Rattle.records.proofs.Behind.{one_more, all_left}
use Rattle.records_tests.proofs.Judged.{good_low, good_unnamed, good_compound}
use Rattle.records_laws.proofs.Series.{records_from_add}
use Rattle.records_rows.specs.Stack.{children_stand, node_entry, entry, entries, Low}
use Rattle.records_rows.proofs.Forests.{grown_good}
use Rattle.records_rows.proofs.Growth.{growing_none, growing_more, growing_all, growing_good}
use Rattle.records_rows.specs.Tally.{Tally, record_read}
use Rattle.records_rows.proofs.Counting.{counting_none, counting_more, reads-low, targets-low, counted-reads, counted-targets}
use Rattle.records_refusal.specs.Passing.{HeaderPasses}
use Rattle.records_refusal.specs.Scanning.{good_nodes, good_first, good_trees, Few, Scanning, Taken}
use Rattle.records_refusal.specs.Found.{Ends, Breaks}

-- no node is taken yet
pub scanned_none : {bs : List ℕ} {names from n : ℕ} {stack reads targets : List ℕ} → Scanning bs names from n reads targets stack reads targets (length stack) n
unfolding records_from every_from
scanned_none {n = n} {stack} = let none : n - n ≡ 0 = omega arith in
    record {
      grown = growing_none (length stack) refl;
      counted = counting_none;
      judged = rw none;
      low = λ k h. rw (get_or-eq_default stack 0 h) (omega arith);
    }

-- the entry of a node of a good kind is a number of a set
entry-low : (k : ℕ) (b : Bool) → k ≤ 30 → entry k b < 64
unfolding entry
entry-low k b h = omega (arith, one-most b)

low-entry : (x : NodeRecord) (es : List ℕ) → x.kind ≤ 30 → node_entry x es < 64
unfolding node_entry
low-entry x es h = entry-low x.kind _ h

low-set : (stack : List ℕ) (top t e : ℕ) → Low stack top → e < 64 → t < length stack → top ≤ t + 1 → Low (set stack t e) t
low-set stack top t e low le lt h k hk =
    ⊎_elim
    (λ (q : t ≡ k). rw (← q, get_or-set_same stack t e 0 lt) le)
    (λ (q : t < k). rw (get_or-set_other stack t k e 0 (λ z. omega arith)) (low k (omega arith)))
    (eq-or-lt_of_le hk)

-- records before trees that don't close or stand
trees-before : (ns ms : List NodeRecord) → good_trees ms ≡ false → good_trees (ns ++ ms) ≡ false
trees-before [] ms e = e
trees-before (y ∷ ns) ms e =
    sym (grown_good y (ns ++ ms))
    ∙ ap (λ (b : Bool). children_stand y (entries (forest_of (ns ++ ms))) && b) (trees-before ns ms e)
    ∙ and-false (children_stand y (entries (forest_of (ns ++ ms))))

module _ {bs : List ℕ} {names from n : ℕ} {reads₀ targets₀ stack reads targets : List ℕ} {top i : ℕ} (p : Scanning bs names from n reads₀ targets₀ stack reads targets top i) where
  -- no count grows beyond a u16
  pub reads-few : Few reads₀ n → Few reads i
  reads-few f k = omega (arith, f k, reads-low p.counted k, p.counted.within)

  pub targets-few : Few targets₀ n → Few targets i
  targets-few f k = omega (arith, f k, targets-low p.counted k, p.counted.within)

  -- the node before those that are taken
  module _ (x : NodeRecord) (j : ℕ) (ei : i ≡ j + 1) (ex : x ≡ node_at bs (from + 12 * j)) where
    nodes-more : good_nodes bs names (records_from (node_at bs) 12 (n - j) (from + 12 * j)) ≡ good_node (records_from (name_at bs) 12 names 24) x
    nodes-more =
        rw (one_more (node_at bs) 12 n from i j ei p.counted.within, ← ex)
        (every_cons (good_node (records_from (name_at bs) 12 names 24)) x _ ∙ rw p.judged (and-true _))

    first_count : (ns : List NodeRecord → Bool) → ns (nodes_from bs from n) ≡ ns (nodes_from bs from j ++ records_from (node_at bs) 12 (n - j) (from + 12 * j))
    first_count ns = let all : n ≡ j + (n - j) = omega (arith, p.counted.within) in
        ap (λ (m : ℕ). ns (nodes_from bs from m)) all ∙ ap ns (records_from_add (node_at bs) 12 j (n - j) from)

    nodes_split : good_first bs names from n ≡ (good_first bs names from j && good_node (records_from (name_at bs) 12 names 24) x)
    nodes_split =
        first_count (good_nodes bs names)
        ∙ every_append (good_node (records_from (name_at bs) 12 names 24)) (nodes_from bs from j) _
        ∙ ap (λ (b : Bool). good_first bs names from j && b) nodes-more

    -- one that is bad by itself
    pub ends_bad : good_node (records_from (name_at bs) 12 names 24) x ≡ false → good_first bs names from n ≡ false
    ends_bad e = nodes_split ∙ rw e (and-false (good_first bs names from j))

    -- one that is good
    module _ (good : good_node (records_from (name_at bs) 12 names 24) x ≡ true) where
      pub kind-low : x.kind ≤ 30
      unfolding good_node
      kind-low = good_low _ _ x good

      pub parent_unnamed : 0 < x.children → is_named x.kind ≡ false
      unfolding good_node
      parent_unnamed = good_unnamed _ _ x good

      pub compound-kind : compound x.flags ≡ true → x.kind ≡ 20
      unfolding good_node
      compound-kind = good_compound _ _ x good

      ends_good : good_first bs names from j ≡ good_first bs names from n
      ends_good = sym (nodes_split ∙ rw good (and-true (good_first bs names from j)))

      -- its children can't stand
      trees-more : children_stand x (drop top stack) ≡ false → good_trees (records_from (node_at bs) 12 (n - j) (from + 12 * j)) ≡ false
      trees-more e =
          rw (one_more (node_at bs) 12 n from i j ei p.counted.within, ← ex)
          (sym (grown_good x (records_from (node_at bs) 12 (n - i) (from + 12 * i))) ∙ rw (← p.grown.same, e))

      pub breaks : children_stand x (drop top stack) ≡ false → Few reads₀ n → Few targets₀ n → Breaks bs names from n reads targets j
      breaks e fr ft = record {
        nodes = ends_good;
        trees = first_count good_trees ∙ trees-before (nodes_from bs from j) _ (trees-more e);
        fewer = omega (arith, p.counted.within);
        reads-few = λ k. omega (arith, reads-few fr k);
        targets-few = λ k. omega (arith, targets-few ft k);
      }

      -- its children stand
      module _ (stands : children_stand x (drop top stack) ≡ true) where
        pub found : top + x.children ≤ length stack
        unfolding children_stand
        found =
            let l = leb-true x.children (length (drop top stack)) (and_left (leb x.children (length (drop top stack))) _ stands) in
            omega (arith, l, length-drop top stack, p.grown.inside)

        pub behind : 0 < x.children → i < n
        behind s = omega (arith, s, found, p.grown.room)

        pub scanned_more : (reads' targets' : List ℕ) (e t : ℕ) → n ≤ length stack → e ≡ node_entry x (drop top stack) → t + 1 ≡ top + x.children
            → length reads' ≡ length reads → length targets' ≡ length targets
            → Tally (λ k. one (eqb (record_read x (target_name (node_of (node_at bs (from + 12 * j + 12))))) k) + get_or reads k 0) reads'
            → Tally (λ k. one (eqb (target_name (node_of x)) k) + get_or targets k 0) targets'
            → Scanning bs names from n reads₀ targets₀ (set stack t e) reads' targets' t j
        scanned_more reads' targets' e t long ee et lr lt tr tt' =
            let at : from + 12 * j + 12 ≡ from + 12 * i = omega (arith, ei) in
            record {
              grown = growing_more x e t j p.grown ei long ex stands ee (omega (arith, et, found));
              counted = counting_more p.counted reads' targets' x j ei ex behind lr lt (rw at at tr) tt';
              judged = nodes-more ∙ good;
              low = low-set stack top t e p.low (rw ee (low-entry x (drop top stack) kind-low)) (omega (arith, et, found, long, p.grown.room, ei)) (omega (arith, et));
            }

  -- all nodes are taken
  pub ends : {stack₀ : List ℕ} → i ≤ 0 → top ≤ length stack₀ → Ends bs names from n stack₀ reads₀ targets₀ stack reads targets top
  ends e h = record {
    nodes = sym (ap (good_nodes bs names) (all_left (node_at bs) 12 n from i e)) ∙ p.judged;
    trees = growing_good p.grown e;
    inside = h;
    taken = record { entered = growing_all p.grown e; read = counted-reads p.counted e; target = counted-targets p.counted e };
  }

-- a loop that takes nodes: what it knows, and the lengths of the slices that it writes to
pub record Going (bs : List ℕ) (names from n : ℕ) (stack₀ reads₀ targets₀ stack reads targets : List ℕ) (top i : ℕ) : Type 0 where
  pub scan : Scanning bs names from n reads₀ targets₀ stack reads targets top i
  pub stacked : length stack ≡ length stack₀
  pub counted : length reads ≡ length reads₀
  pub aimed : length targets ≡ length targets₀

-- a loop that asks nodes for row 7 in runs
pub record Asking (bs : List ℕ) (names from n : ℕ) (stack₀ reads₀ targets₀ stack reads targets : List ℕ) (left : ℕ) : Type 0 where
  pub nodes : good_first bs names from left ≡ good_first bs names from n
  pub within : left ≤ n
  pub reads-few : Few reads left
  pub targets-few : Few targets left
  pub stacked : length stack ≡ length stack₀
  pub counted : length reads ≡ length reads₀
  pub aimed : length targets ≡ length targets₀

-- where nodes begin, said in two ways
pub ends-at : {bs : List ℕ} {names from at count : ℕ} {stack₀ reads₀ targets₀ stack reads targets : List ℕ} {top : ℕ} → at ≡ from
    → Ends bs names at count stack₀ reads₀ targets₀ stack reads targets top → Ends bs names from count stack₀ reads₀ targets₀ stack reads targets top
ends-at {bs} {names} {from} {at} {count} {stack₀} {reads₀} {targets₀} {stack} {reads} {targets} {top} e p =
    subst (λ (k : ℕ). Ends bs names k count stack₀ reads₀ targets₀ stack reads targets top) e p

pub breaks-at : {bs : List ℕ} {names from at count : ℕ} {reads targets : List ℕ} {left : ℕ} → at ≡ from
    → Breaks bs names at count reads targets left → Breaks bs names from count reads targets left
breaks-at {bs} {names} {from} {at} {count} {reads} {targets} {left} e p = subst (λ (k : ℕ). Breaks bs names k count reads targets left) e p

-- the records of a file whose header passes
module _ {bs : List ℕ} {h : Header} (hp : HeaderPasses bs h) where
  same_nodes : nodes_from bs (nodes_start h) h.nodes ≡ nodes_of bs
  unfolding nodes_of
  same_nodes = rw hp.is

  same_names : records_from (name_at bs) 12 h.names 24 ≡ names_of bs
  unfolding names_of
  same_names = rw hp.is

  pub nodes-judged : good_first bs h.names (nodes_start h) h.nodes ≡ every (good_node (names_of bs)) (nodes_of bs)
  nodes-judged = ap (good_nodes bs h.names) same_nodes ∙ ap (λ (ns : List NameFacts). every (good_node ns) (nodes_of bs)) same_names

  -- rows 7 and 8 by a pass over all nodes: a node is bad
  pub row-7 : (later : ℕ) → good_first bs h.names (nodes_start h) h.nodes ≡ false → 7 ≡ row 7 (bad_nodes (names_of bs) (nodes_of bs)) later
  unfolding bad_nodes
  row-7 later e = rw (← nodes-judged, e)

  -- none is, and the trees don't close or stand
  pub row-8 : {reads targets : List ℕ} {left : ℕ} → Breaks bs h.names (nodes_start h) h.nodes reads targets left → good_first bs h.names (nodes_start h) left ≡ true
      → 8 ≡ row 7 (bad_nodes (names_of bs) (nodes_of bs)) (row 8 (not (good_trees (nodes_of bs))) 0)
  unfolding bad_nodes
  row-8 p e = rw (← nodes-judged, ← p.nodes, e, ← same_nodes, p.trees)

  -- none refuses
  module _ {stack₀ reads₀ targets₀ stack reads targets : List ℕ} {top : ℕ} (p : Ends bs h.names (nodes_start h) h.nodes stack₀ reads₀ targets₀ stack reads targets top) where
    pub no-row : 0 ≡ row 7 (bad_nodes (names_of bs) (nodes_of bs)) (row 8 (not (good_trees (nodes_of bs))) 0)
    unfolding bad_nodes
    no-row = rw (← nodes-judged, p.nodes, ← same_nodes, p.trees)

    pub all-taken : Taken (nodes_of bs) reads₀ targets₀ stack reads targets top
    all-taken = subst (λ (ns : List NodeRecord). Taken ns reads₀ targets₀ stack reads targets top) same_nodes p.taken
