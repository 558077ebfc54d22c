-- A fold keeps nodes good by themselves, with as many children as their kinds have.
use Prim.Native.Nat.{ℕ, ◌+◌, ◌-◌, ◌/◌, ◌%◌, ◌≤◌, ◌<◌}
use native.Mathlib.Omega.{arith}
use mathlib.Core.Bool.{Bool, true, false, cond, ◌&&◌, ◌||◌, not, or-true}
use mathlib.Core.List.{List}
use mathlib.Core.Path.{◌≡◌, refl, sym, ap, subst}
use lib.ListN.{length}
use lib.Dec.{eqb, ltb, leb}
use borrow.Author.Tests.{eqb-true, eqb-false, ltb-true, lt-ltb}
use Rattle.records.specs.Flags.{marked, optional, anonymous, compound, shorthand, computed, proto}
use Rattle.records.specs.Limits.{no_position}
use Rattle.records.specs.Script.{flags_of}
use Rattle.records.specs.Node.{is_named, two_children, fewest, most, good_children, good_flags, may_mark, good_node_of, good_node}
use Rattle.records.specs.Tree.{Node, Tree, Trees, node, count, record_of}
use Rattle.records.specs.declared.layout.NameFacts.{NameFacts}
use Rattle.records.specs.declared.layout.NodeRecord.{NodeRecord}
use Rattle.records.proofs.Tests.{clash, both as both_hold}
use Rattle.walk_rules.specs.Shape.{is, cleared as walked}
use Rattle.walk_rules.specs.Substitute.{at, preserve_indirect_access}
use Rattle.theory_runs.specs.Form.{cleared}
use Rattle.theory_preservation.proofs.Tables.{zero_bit, marked_by, short-by, two_at, gains, cleared_flags, walked_cleared}
use Rattle.theory_preservation.proofs.At.{placed_at}
use Rattle.theory_preservation.proofs.WellMade.{well_made, all_well_made, well-node, well-more, make_node, make_more}
use Rattle.theory_preservation.proofs.Turned.{Turned, same, here, apart, under, AllTurned, no_more, both}

-- a node with other flags
abbrev with_flags : ℕ → Node → Node
with_flags f n = record { kind = n.kind; flags = f; label = n.label; position = n.position }

-- the bits below a shorthand's
low_by : (w : ℕ) (f : ℕ) (p : Bool) → ((f + 16) / w % 2 ≡ f / w % 2) → ((f - 16) / w % 2 ≡ f / w % 2) → eqb (cond p (f + 16) (f - 16) / w % 2) 1 ≡ eqb (f / w % 2) 1
low_by w f true h g = ap (λ z. eqb z 1) h
low_by w f false h g = ap (λ z. eqb z 1) g

low_2 : (f : ℕ) (p : Bool) → f / 16 % 2 ≡ 1 → optional (cond p (f + 16) (f - 16)) ≡ optional f
low_2 f p e = low_by 2 f p (omega arith) (omega arith)

low_4 : (f : ℕ) (p : Bool) → f / 16 % 2 ≡ 1 → anonymous (cond p (f + 16) (f - 16)) ≡ anonymous f
low_4 f p e = low_by 4 f p (omega arith) (omega arith)

low_8 : (f : ℕ) (p : Bool) → f / 16 % 2 ≡ 1 → compound (cond p (f + 16) (f - 16)) ≡ compound f
low_8 f p e = low_by 8 f p (omega arith) (omega arith)

half : (f : ℕ) → f / 16 % 2 ≡ 1 → f / 16 ≡ f / 32 + f / 32 + 1
half f e = omega arith

even : (h : ℕ) → h % 2 ≡ 0 → h ≡ h / 2 + h / 2
even h e = omega arith

bound : (f g : ℕ) → f / 16 ≡ g + g + g + g + 1 → f < 128 → g ≤ 1
bound f g e h = omega arith

small : (f q h : ℕ) → f / 16 ≡ q → q ≡ h + h + 1 → h % 2 ≡ 0 → f < 128 → f + 16 < 128
small f q h a b c d =
    let e : h ≡ h / 2 + h / 2 = even h c in
    let g : h / 2 ≤ 1 = bound f (h / 2) (omega arith) d in
    omega arith

small_by : (f : ℕ) (p : Bool) → f / 16 % 2 ≡ 1 → f / 32 % 2 ≡ 0 → f < 128 → cond p (f + 16) (f - 16) < 128
small_by f true a b c = small f (f / 16) (f / 32) refl (half f a) b c
small_by f false a b c = omega arith

-- a property's record
abbrev property : ℕ → ℕ → ℕ → ℕ → NodeRecord
property f c l p = record { kind = 26; flags = f; label = l; children = c; zero = 0; position = p }

-- the tests of its flags that are not of the kind alone
flag_tests : (f c l p : ℕ) → good_flags (property f c l p) ≡ true → (ltb f 128 ≡ true) × ((not (optional f) || false) ≡ true) × ((not (anonymous f) || false || false) ≡ true) × ((not (compound f) || false) ≡ true) × ((not (shorthand f) || not (computed f)) ≡ true)
unfolding good_flags
flag_tests f c l p h =
    let (x₁, y₁) = both_hold _ (not (shorthand f) || not (computed f)) h in
    let (x₂, y₂) = both_hold _ (not (proto f) || true) x₁ in
    let (x₃, y₃) = both_hold _ (not (computed f) || true) x₂ in
    let (x₄, y₄) = both_hold _ (not (shorthand f) || true) x₃ in
    let (x₅, y₅) = both_hold _ (not (compound f) || false) x₄ in
    let (x₆, y₆) = both_hold _ (not (anonymous f) || false || false) x₅ in
    let (x₇, y₇) = both_hold (ltb f 128) (not (optional f) || false) x₆ in
    (x₇, y₇, y₆, y₅, y₁)

-- the flags of a property whose shorthand was cleared are good
good_flags_lem : (f f' : ℕ) (c l p : ℕ) → ltb f' 128 ≡ true → optional f' ≡ optional f → anonymous f' ≡ anonymous f → compound f' ≡ compound f → shorthand f' ≡ false → good_flags (property f c l p) ≡ true → good_flags (property f' c l p) ≡ true
unfolding good_flags
good_flags_lem f f' c l p a b d e g h =
    let (x, y₁, y₂, y₃, y₄) = flag_tests f c l p h in
    rw (a, b, d, e, g, y₁, y₂, y₃, or-true (not (computed f')), or-true (not (proto f')))

cleared-flags : (f c l p : ℕ) → shorthand f ≡ true → good_flags (property f c l p) ≡ true → good_flags (property (cleared_flags f) c l p) ≡ true
cleared-flags f c l p s h =
    let (x, y₁, y₂, y₃, y₄) = flag_tests f c l p h in
    let e : f / 16 % 2 ≡ 1 = eqb-true (f / 16 % 2) 1 s in
    let d : f / 32 % 2 ≡ 0 = zero_bit (f / 32) (eqb-false (f / 32 % 2) 1 (uncomputed (shorthand f) (computed f) s y₄)) in
    good_flags_lem f (cleared_flags f) c l p (lt-ltb _ 128 (small_by f (gains f) e d (ltb-true f 128 x))) (low_2 f (gains f) e) (low_4 f (gains f) e) (low_8 f (gains f) e) (short-by f (gains f) s) h
  where
    uncomputed : (x y : Bool) → x ≡ true → (not x || not y) ≡ true → y ≡ false
    uncomputed true true e g = sym g
    uncomputed true false e g = refl
    uncomputed false y e g = clash false refl e

module _ (names : List NameFacts) where
  abbrev apart-flags : NodeRecord → Bool
  apart-flags n = leb n.kind 30 && (not (is_named n.kind) || ltb n.label (length names)) && eqb n.zero 0 && not (eqb n.position no_position)

  -- a good node with other flags is good if these are, the mark is the same, and so is the number of children
  good_with : (n : Node) (k f : ℕ) → good_node names (record_of n k) ≡ true → marked f ≡ marked n.flags → two_children f ≡ two_children n.flags → good_flags (record_of (with_flags f n) k) ≡ true → good_node names (record_of (with_flags f n) k) ≡ true
  unfolding good_node good_node_of record_of good_children may_mark
  good_with n k f e a b g =
      let (x, c) = both_hold (apart-flags (record_of n k) && good_flags (record_of n k) && (not (marked n.flags) || may_mark (flags_of names n.label) (record_of n k))) (good_children (record_of n k)) e in
      let (y, m) = both_hold (apart-flags (record_of n k) && good_flags (record_of n k)) (not (marked n.flags) || may_mark (flags_of names n.label) (record_of n k)) x in
      let (z, h) = both_hold (apart-flags (record_of n k)) (good_flags (record_of n k)) y in
      rw (a, b, g, z, m, c)

  flags_of_lem : (n : Node) (k : ℕ) → good_node names (record_of n k) ≡ true → good_flags (record_of n k) ≡ true
  unfolding good_node good_node_of
  flags_of_lem n k e =
      let (x, c) = both_hold (apart-flags (record_of n k) && good_flags (record_of n k) && (not (marked n.flags) || may_mark (flags_of names n.label) (record_of n k))) (good_children (record_of n k)) (unfold record_of in e) in
      let (y, m) = both_hold (apart-flags (record_of n k) && good_flags (record_of n k)) (not (marked n.flags) || may_mark (flags_of names n.label) (record_of n k)) x in
      (both_hold (apart-flags (record_of n k)) (good_flags (record_of n k)) y).1

  good_by : (b : Bool) (n : Node) (k : ℕ) → (is 26 n && shorthand n.flags) ≡ b → good_node names (record_of n k) ≡ true → good_node names (record_of (with_flags (cond b (cleared_flags n.flags) n.flags) n) k) ≡ true
  good_by true n k e h =
      let (p, q) = both_hold (is 26 n) (shorthand n.flags) e in
      good_with n k (cleared_flags n.flags) h (marked_by n.flags (gains n.flags) q) (two_at true n.flags q) (by_kind (eqb-true n.kind 26 p) q (flags_of_lem n k h))
    where
      by_kind : n.kind ≡ 26 → shorthand n.flags ≡ true → good_flags (record_of n k) ≡ true → good_flags (record_of (with_flags (cleared_flags n.flags) n) k) ≡ true
      by_kind p q g = unfold record_of in subst (λ x. good_flags (record { kind = x; flags = cleared_flags n.flags; label = n.label; children = k; zero = 0; position = n.position }) ≡ true) (sym p) (cleared-flags n.flags k n.label n.position q (subst (λ x. good_flags (record { kind = x; flags = n.flags; label = n.label; children = k; zero = 0; position = n.position }) ≡ true) p g))
  good_by false n k e h = h

  good_walked : (n : Node) (k : ℕ) → good_node names (record_of n k) ≡ true → good_node names (record_of (walked n) k) ≡ true
  good_walked n k h = subst (λ x. good_node names (record_of x k) ≡ true) (sym (walked_cleared n)) (unfold cleared in good_by (is 26 n && shorthand n.flags) n k refl h)

  abbrev named-well : NodeRecord → Bool
  named-well n = leb n.kind 30 && (not (is_named n.kind) || ltb n.label (length names)) && eqb n.zero 0

  -- what is asked of a node, in three parts: its position in the middle
  good_parts : (n : Node) (k : ℕ) → good_node names (record_of n k) ≡ true → (named-well (record_of n k) ≡ true) × (not (eqb n.position no_position) ≡ true) × (good_flags (record_of n k) ≡ true) × ((not (marked n.flags) || may_mark (flags_of names n.label) (record_of n k)) ≡ true) × (good_children (record_of n k) ≡ true)
  unfolding good_node good_node_of record_of
  good_parts n k e =
      let (x, c) = both_hold (apart-flags (record_of n k) && good_flags (record_of n k) && (not (marked n.flags) || may_mark (flags_of names n.label) (record_of n k))) (good_children (record_of n k)) e in
      let (y, m) = both_hold (apart-flags (record_of n k) && good_flags (record_of n k)) (not (marked n.flags) || may_mark (flags_of names n.label) (record_of n k)) x in
      let (z, h) = both_hold (apart-flags (record_of n k)) (good_flags (record_of n k)) y in
      let (a, b) = both_hold (named-well (record_of n k)) (not (eqb n.position no_position)) z in
      (a, b, h, m, c)

  -- the position of one good node is good for another
  good_at : (n x : Node) (k j : ℕ) → good_node names (record_of x j) ≡ true → good_node names (record_of n k) ≡ true → good_node names (record_of (placed_at x.position n) k) ≡ true
  good_at n x k j g h = put (good_parts x j g).1 (good_parts n k h)
    where
      put : not (eqb x.position no_position) ≡ true → (named-well (record_of n k) ≡ true) × (not (eqb n.position no_position) ≡ true) × (good_flags (record_of n k) ≡ true) × ((not (marked n.flags) || may_mark (flags_of names n.label) (record_of n k)) ≡ true) × (good_children (record_of n k) ≡ true) → good_node names (record_of (placed_at x.position n) k) ≡ true
      put p (a, b, c, d, e) = unfold good_node good_node_of record_of placed_at good_flags good_children may_mark in rw (a, p, c, d, e)

  -- the nodes that keep a tag apart
  row_good : (p : ℕ) → not (eqb p no_position) ≡ true → good_node names (record { kind = 28; flags = 0; label = 0; children = 2; zero = 0; position = p }) ≡ true
  unfolding good_node good_node_of good_flags good_children fewest most
  row_good p e = rw e

  zero_good : (p : ℕ) → not (eqb p no_position) ≡ true → good_node names (record { kind = 1; flags = 0; label = 65535; children = 0; zero = 0; position = p }) ≡ true
  unfolding good_node good_node_of good_flags good_children fewest most
  zero_good p e = rw e

  well-at : (n : Node) (ts : Trees) (t : Tree) → well_made names (node n ts) ≡ true → well_made names t ≡ true → well_made names (at n.position t) ≡ true
  unfolding at placed_at
  well-at n ts (node x us) g h =
      let (a, b) = well-node names x us h in
      make_node names (placed_at n.position x) us (good_at x n (count us) (count ts) (well-node names n ts g).0 a) b

  well-apart : (t : Tree) → well_made names t ≡ true → well_made names (preserve_indirect_access t) ≡ true
  unfolding well_made preserve_indirect_access count record_of
  well-apart (node n ts) h =
      let (a, b) = well-node names n ts h in
      let p : not (eqb n.position no_position) ≡ true = (good_parts n (count ts) a).1 in
      rw (row_good n.position p, zero_good n.position p, h)

  well-under : (n : Node) (ts us : Trees) → count us ≡ count ts → well_made names (node n ts) ≡ true → all_well_made names us ≡ true → well_made names (node (walked n) us) ≡ true
  unfolding well_made
  well-under n ts us c h g = rw (c, good_walked n (count ts) (well-node names n ts h).0, g)

  module _ {v : ℕ} {r : Tree} where
    count-turned : {k : ℕ} {ts us : Trees} → AllTurned v r k ts us → count us ≡ count ts
    unfolding count
    count-turned (no_more e) = refl
    count-turned (both i j e h g) = let x = count-turned g in omega (arith, x)

    mutual
      -- each node is good by itself
      pub well-turned : {k : ℕ} {t u : Tree} → Turned v r k t u → well_made names r ≡ true → well_made names t ≡ true → well_made names u ≡ true
      well-turned (same e p) w h = rw p h
      well-turned (here {n = n} {ts = ts} e g p) w h = rw p (well-at n ts r h w)
      well-turned (apart t' e g i p) w h = rw p (well-apart t' (well-turned i w h))
      well-turned (under {n = n} {ts = ts} ts' i p) w h = rw p (well-under n ts ts' (count-turned i) h (all-well_turned i w (well-node names n ts h).1))

      pub all-well_turned : {k : ℕ} {ts us : Trees} → AllTurned v r k ts us → well_made names r ≡ true → all_well_made names ts ≡ true → all_well_made names us ≡ true
      all-well_turned (no_more e) w h = h
      all-well_turned (both {t = t} {t' = t'} {ts = ts} {ts' = ts'} i j e a b) w h = make_more names t' ts' (well-turned a w (well-more names t ts h).0) (all-well_turned b w (well-more names t ts h).1)
