-- Row 7's tests of a node in the order of the code. Assumes nothing.
use mathlib.Core.Path.{◌≡◌, refl, sym, ap, ◌∙◌}
use mathlib.Core.Bool.{Bool, true, false, ◌&&◌, ◌||◌, not, cond, and-true, and-false, true≢false, false≢true}
use Prim.Native.Nat.{ℕ, ◌≤◌, ◌<◌}
use native.Mathlib.Omega.{arith}
use mathlib.Core.List.{List}
use lib.ListN.{get_or}
use lib.Dec.{eqb, ltb, leb}
use borrow.Author.Tests.{eq-eqb, ne_eqb, eqb-true, le-leb, lt-leb, lt-ltb, le-ltb, leb-true}
use Rattle.records.specs.Limits.{no_position}
use Rattle.records.specs.Flags.{marked, unresolved, optional, anonymous, compound, shorthand, computed, proto}
use Rattle.records.specs.Sets.{is_in}
use Rattle.records.specs.Node.{fewest, most, is_chain_element, is_named, two_children, good_children, good_flags, may_mark, good_node_of}
use Rattle.records.specs.declared.layout.NodeRecord.{NodeRecord}
use Rattle.records.proofs.Tests.{both, all_three, and_left, and_right}
use Rattle.records.proofs.Sets.{all_below, below, same, same_true, follows}

-- flags, a mark as if the name were unresolved
abbrev pub flagged : NodeRecord → Bool
flagged n = good_flags n && (not (marked n.flags) || may_mark 128 n)

-- the kinds that may be marked
abbrev markable : ℕ → Bool
markable k = not (eqb k 1 || eqb k 2 || eqb k 5 || eqb k 13 || eqb k 26 || eqb k 27 || eqb k 28)

left-two : (b m : Bool) → (true && b && true && true && true && m && true) ≡ (b && m)
left-two false m = refl
left-two true m = and-true m

two-left : (a b c d g m k : Bool) → a ≡ true → c ≡ true → d ≡ true → g ≡ true → k ≡ true → (a && b && c && d && g && m && k) ≡ (b && m)
two-left a b c d g m k ea ec ed eg ek = rw (ea, ec, ed, eg, ek) (left-two b m)

-- what is left to ask where all but the name is good
judged-name : (n l m v u : Bool) → (not m || (v && (not n || true))) ≡ true → ((not n || l) && (not m || (v && (not n || u)))) ≡ (not n || (l && (not m || u)))
judged-name false l false v u h = refl
judged-name false l true true u h = refl
judged-name false l true false u h = absurd (false≢true h)
judged-name true l false v u h = refl
judged-name true l true true u h = refl
judged-name true l true false u h = absurd (false≢true h)

bad_mark : (x g m v n u k : Bool) → (g && (not m || (v && (not n || true)))) ≡ false → false ≡ (x && g && (not m || (v && (not n || u))) && k)
bad_mark false g m v n u k h = refl
bad_mark true false m v n u k h = refl
bad_mark true true false v n u k h = absurd (true≢false h)
bad_mark true true true false n u k h = refl
bad_mark true true true true false u k h = absurd (true≢false h)
bad_mark true true true true true u k h = absurd (true≢false h)

module _ (names f : ℕ) (n : NodeRecord) where
  pub bad_kind : 30 < n.kind → false ≡ good_node_of names f n
  unfolding good_node_of
  bad_kind h = rw (lt-leb n.kind 30 h)

  pub bad_position : n.position ≡ no_position → false ≡ good_node_of names f n
  unfolding good_node_of
  bad_position e = rw (eq-eqb n.position no_position e, and-false)

  pub bad_zero : 0 < n.zero → false ≡ good_node_of names f n
  unfolding good_node_of
  bad_zero h = rw (ne_eqb n.zero 0 (λ e. omega arith), and-false)

  pub bad_flags : flagged n ≡ false → false ≡ good_node_of names f n
  unfolding good_node_of may_mark
  bad_flags h = bad_mark (leb n.kind 30 && (not (is_named n.kind) || ltb n.label names) && eqb n.zero 0 && not (eqb n.position no_position)) (good_flags n) (marked n.flags) (markable n.kind) (is_named n.kind) (unresolved f) (good_children n) h

  pub bad_children : good_children n ≡ false → false ≡ good_node_of names f n
  unfolding good_node_of
  bad_children e = rw (e, and-false)

  -- a node of which only the name isn't judged
  module _ (low : n.kind ≤ 30) (place : (n.position ≡ no_position) → ⊥) (null : n.zero ≤ 0) (flags : flagged n ≡ true) (children : good_children n ≡ true) where
    name-left : good_node_of names f n ≡ (not (is_named n.kind) || (ltb n.label names && (not (marked n.flags) || unresolved f)))
    unfolding good_node_of may_mark
    name-left =
        let p = both (good_flags n) (not (marked n.flags) || may_mark 128 n) flags in
        two-left (leb n.kind 30) (not (is_named n.kind) || ltb n.label names) (eqb n.zero 0) (not (eqb n.position no_position)) (good_flags n) (not (marked n.flags) || may_mark f n) (good_children n)
        (le-leb n.kind 30 low) (eq-eqb n.zero 0 (omega arith)) (ap not (ne_eqb n.position no_position place)) p.0 children
        ∙ judged-name (is_named n.kind) (ltb n.label names) (marked n.flags) (markable n.kind) (unresolved f) p.1

    pub named-judged : (r : Bool) → is_named n.kind ≡ true → r ≡ (ltb n.label names && (not (marked n.flags) || unresolved f)) → r ≡ good_node_of names f n
    named-judged r e er = er ∙ sym (name-left ∙ rw e)

    pub unnamed-judged : is_named n.kind ≡ false → true ≡ good_node_of names f n
    unnamed-judged e = sym (name-left ∙ rw e)

-- a node without flags
pub flagless : (n : NodeRecord) → n.flags ≤ 0 → flagged n ≡ true
unfolding good_flags may_mark
flagless n h = let e : n.flags ≡ 0 = omega arith in rw e

-- only nodes without children are names
most-named : (kind : ℕ) (a b : Bool) → eqb kind 4 ≡ a → eqb kind 29 ≡ b → (a || b) ≡ true → get_or most kind 0 ≡ 0
unfolding most
most-named kind true b ea eb h = rw (eqb-true kind 4 ea)
most-named kind false true ea eb h = rw (eqb-true kind 29 eb)
most-named kind false false ea eb h = absurd (false≢true h)

unnamed-by : (n : NodeRecord) (b : Bool) → is_named n.kind ≡ b → n.children ≤ get_or most n.kind 0 → (n.children ≡ 0 → ⊥) → b ≡ false
unnamed-by n false e h some = refl
unnamed-by n true e h some =
    absurd (some (omega (arith, most-named n.kind (eqb n.kind 4) (eqb n.kind 29) refl refl e)))

pub parent_unnamed : (n : NodeRecord) → good_children n ≡ true → (n.children ≡ 0 → ⊥) → is_named n.kind ≡ false
unfolding good_children
parent_unnamed n h some =
    let p = all_three (leb (get_or fewest n.kind 0) n.children) (leb n.children (get_or most n.kind 0)) _ h in
    unnamed-by n (is_named n.kind) refl (leb-true n.children (get_or most n.kind 0) p.1) some

-- the flags by the tests of the code
abbrev pub flags_test : ℕ → ℕ → ℕ → ℕ → Bool
flags_test markables elements kind flags =
    cond (eqb flags 1) (is_in markables kind)
    (cond (ltb flags 4) (is_in elements kind)
    (cond (eqb kind 26) (eqb flags 16 || eqb flags 32 || eqb flags 64 || eqb flags 80 || eqb flags 96)
    (cond (eqb kind 20) (eqb flags 8 || eqb flags 9)
    (eqb flags 4 && (eqb kind 2 || eqb kind 3) || eqb flags 5 && eqb kind 3))))

abbrev bare : ℕ → ℕ → NodeRecord
bare kind flags = record { kind = kind; flags = flags; label = 0; children = 0; zero = 0; position = 0 }

flags-computed : all_below 31 (λ k. all_below 256 (λ f. eqb f 0 || same (flags_test 1677713369 23552 k f) (flagged (bare k f)))) ≡ true
unfolding all_below same is_in good_flags may_mark
flags-computed = refl

module _ (n : NodeRecord) (low : n.kind ≤ 30) (byte : n.flags < 256) (some : 0 < n.flags) where
  flags-tested : flags_test 1677713369 23552 n.kind n.flags ≡ flagged n
  unfolding good_flags may_mark
  flags-tested =
      let t = below 256 (λ f. eqb f 0 || same (flags_test 1677713369 23552 n.kind f) (flagged (bare n.kind f)))
      (below 31 (λ k. all_below 256 (λ f. eqb f 0 || same (flags_test 1677713369 23552 k f) (flagged (bare k f)))) flags-computed n.kind (omega arith))
      n.flags byte in
      same_true _ _ (rw (ne_eqb n.flags 0 (λ e. omega arith)) at t)

  -- each way out of the code
  pub flags-marked : (r : Bool) (w : ℕ) → n.flags ≡ 1 → w ≡ n.kind → r ≡ is_in 1677713369 w → r ≡ flagged n
  flags-marked r w e ew er = er ∙ rw (← flags-tested, ew, eq-eqb n.flags 1 e)

  pub flags-optional : (r : Bool) (w : ℕ) → (n.flags ≡ 1 → ⊥) → n.flags < 4 → w ≡ n.kind → r ≡ is_in 23552 w → r ≡ flagged n
  flags-optional r w m o ew er = er ∙ rw (← flags-tested, ew, ne_eqb n.flags 1 m, lt-ltb n.flags 4 o)

  module _ (m : n.flags ≡ 1 → ⊥) (o : 4 ≤ n.flags) where
    pub flags-property : n.kind ≡ 26 → (eqb n.flags 16 || eqb n.flags 32 || eqb n.flags 64 || eqb n.flags 80 || eqb n.flags 96) ≡ flagged n
    flags-property k = rw (← flags-tested, ne_eqb n.flags 1 m, le-ltb n.flags 4 o, eq-eqb n.kind 26 k)

    pub flags-compound : (n.kind ≡ 26 → ⊥) → n.kind ≡ 20 → (eqb n.flags 8 || eqb n.flags 9) ≡ flagged n
    flags-compound p k = rw (← flags-tested, ne_eqb n.flags 1 m, le-ltb n.flags 4 o, ne_eqb n.kind 26 p, eq-eqb n.kind 20 k)

    pub flags-anonymous : (n.kind ≡ 26 → ⊥) → (n.kind ≡ 20 → ⊥)
        → (eqb n.flags 4 && (eqb n.kind 2 || eqb n.kind 3) || eqb n.flags 5 && eqb n.kind 3) ≡ flagged n
    flags-anonymous p a = rw (← flags-tested, ne_eqb n.flags 1 m, le-ltb n.flags 4 o, ne_eqb n.kind 26 p, ne_eqb n.kind 20 a)

-- the children by the tests of the code, which has the two tables as lists
module _ (n : NodeRecord) {fewest-list most-list : List ℕ} (ef : fewest-list ≡ fewest) (em : most-list ≡ most) where
  pub children-few : n.children < get_or fewest-list n.kind 0 → false ≡ good_children n
  unfolding good_children
  children-few h = rw (lt-leb (get_or fewest n.kind 0) n.children (rw ef at h))

  pub children-many : get_or most-list n.kind 0 < n.children → false ≡ good_children n
  unfolding good_children
  children-many h = rw (lt-leb n.children (get_or most n.kind 0) (rw em at h), and-false)

  module _ (few : get_or fewest-list n.kind 0 ≤ n.children) (many : n.children ≤ get_or most-list n.kind 0) where
    in-range : (leb (get_or fewest n.kind 0) n.children ≡ true) × (leb n.children (get_or most n.kind 0) ≡ true)
    in-range = (le-leb (get_or fewest n.kind 0) n.children (rw ef at few), le-leb n.children (get_or most n.kind 0) (rw em at many))

    pub children-property : n.kind ≡ 26 → (two_children n.flags && eqb n.children 2 || not (two_children n.flags) && eqb n.children 1) ≡ good_children n
    unfolding good_children
    children-property k = rw (in-range.0, in-range.1, eq-eqb n.kind 26 k)

    pub children-other : (n.kind ≡ 26 → ⊥) → true ≡ good_children n
    unfolding good_children
    children-other k = rw (in-range.0, in-range.1, ne_eqb n.kind 26 k)

-- of tests that all hold
three_of : (a b c d g m k : Bool) → (a && b && c && d && g && m && k) ≡ true → (a ≡ true) × (g ≡ true) × (k ≡ true)
three_of a b c d g m k h =
    let p = both (a && b && c && d && g && m) k h in
    let q = both (a && b && c && d && g) m p.0 in
    let r = both (a && b && c && d) g q.0 in
    let s = both (a && b && c) d r.0 in
    (and_left a b (and_left (a && b) c s.0), r.1, p.1)

fourth_of : (a b c d e f g h : Bool) → (a && b && c && d && e && f && g && h) ≡ true → d ≡ true
fourth_of a b c d e f g h t =
    and_right (a && b && c) d
    (and_left (a && b && c && d) e
    (and_left (a && b && c && d && e) f
    (and_left (a && b && c && d && e && f) g (and_left (a && b && c && d && e && f && g) h t))))

-- of a good node
module _ (names f : ℕ) (n : NodeRecord) (good : good_node_of names f n ≡ true) where
  parts : (leb n.kind 30 ≡ true) × (good_flags n ≡ true) × (good_children n ≡ true)
  unfolding good_node_of
  parts =
      three_of (leb n.kind 30) (not (is_named n.kind) || ltb n.label names) (eqb n.zero 0) (not (eqb n.position no_position)) (good_flags n)
      (not (marked n.flags) || may_mark f n) (good_children n) good

  pub good_low : n.kind ≤ 30
  good_low = leb-true n.kind 30 parts.0

  pub good_unnamed : 0 < n.children → is_named n.kind ≡ false
  good_unnamed some = parent_unnamed n parts.2 (λ e. omega arith)

  pub good_compound : compound n.flags ≡ true → n.kind ≡ 20
  unfolding good_flags
  good_compound e =
      eqb-true n.kind 20
      (follows (compound n.flags) (eqb n.kind 20)
      (fourth_of (ltb n.flags 128) (not (optional n.flags) || is_chain_element n.kind) (not (anonymous n.flags) || eqb n.kind 2 || eqb n.kind 3)
      (not (compound n.flags) || eqb n.kind 20) (not (shorthand n.flags) || eqb n.kind 26) (not (computed n.flags) || eqb n.kind 26)
      (not (proto n.flags) || eqb n.kind 26) (not (shorthand n.flags) || not (computed n.flags)) parts.1)
      e)
