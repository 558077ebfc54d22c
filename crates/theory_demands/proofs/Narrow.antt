-- Labels of two bytes and positions of four: no fold makes one that doesn't fit.
use Prim.Native.Nat.{ℕ, ◌+◌, ◌≤◌}
use native.Mathlib.Omega.{arith}
use mathlib.Core.Bool.{Bool, true, false, ◌&&◌, not}
use mathlib.Core.List.{List}
use mathlib.Core.Path.{◌≡◌, refl, sym, ◌∙◌}
use lib.Dec.{ltb}
use Rattle.records.specs.Records.{every}
use Rattle.records.specs.Tree.{Node, Tree, Trees, node, none, more, count, record_of, preorder, preorders}
use Rattle.records.specs.File.{one}
use Rattle.records.specs.declared.layout.NameFacts.{NameFacts}
use Rattle.records.specs.declared.layout.NodeRecord.{NodeRecord}
use Rattle.records.proofs.Tests.{both, every-parts, every_more, one-most, clash}
use Rattle.walk_rules.specs.Shape.{cleared}
use Rattle.walk_rules.specs.Substitute.{at, preserve_indirect_access}
use Rattle.theory_preservation.proofs.Tests.{one-off, one_not}
use Rattle.theory_preservation.proofs.Totals.{sums}
use Rattle.theory_preservation.proofs.Turned.{Turned, same, here, apart, under, AllTurned, no_more, both as each}
use Rattle.theory_demands.proofs.Growth.{Light}

abbrev fitting : ℕ → ℕ → Bool
fitting label position = ltb label 65536 && ltb position 4294967296

-- a record whose label and position fit their bytes
unfoldable pub narrow_record : NodeRecord → Bool
narrow_record r = fitting r.label r.position

-- so are those of a tree
unfoldable mutual
  pub narrow : Tree → Bool
  narrow (node n kids) = fitting n.label n.position && all_narrow kids

  pub all_narrow : Trees → Bool
  all_narrow none = true
  all_narrow (more t ts) = narrow t && all_narrow ts

-- a node and its children
node-parts : (n : Node) (ts : Trees) → narrow (node n ts) ≡ true → (ltb n.label 65536 ≡ true) × (ltb n.position 4294967296 ≡ true) × (all_narrow ts ≡ true)
unfolding narrow
node-parts n ts h =
    let (x, c) = both (fitting n.label n.position) (all_narrow ts) h in
    let (a, b) = both (ltb n.label 65536) (ltb n.position 4294967296) x in
    (a, b, c)

node-whole : (n : Node) (ts : Trees) → ltb n.label 65536 ≡ true → ltb n.position 4294967296 ≡ true → all_narrow ts ≡ true → narrow (node n ts) ≡ true
unfolding narrow
node-whole n ts a b c = rw (a, b, c)

row-none : all_narrow none ≡ true
unfolding narrow
row-none = refl

row-parts : (t : Tree) (ts : Trees) → all_narrow (more t ts) ≡ true → (narrow t ≡ true) × (all_narrow ts ≡ true)
unfolding narrow
row-parts t ts h = both (narrow t) (all_narrow ts) h

row-whole : (t : Tree) (ts : Trees) → narrow t ≡ true → all_narrow ts ≡ true → all_narrow (more t ts) ≡ true
unfolding narrow
row-whole t ts a b = rw (a, b)

-- what a fold makes
narrow_at : (n : Node) (ts : Trees) (t : Tree) → narrow (node n ts) ≡ true → narrow t ≡ true → narrow (at n.position t) ≡ true
unfolding at
narrow_at n ts (node x us) h g =
    let (a, b, c) = node-parts n ts h in
    let (a', b', c') = node-parts x us g in
    node-whole _ us a' b c'

narrow-apart : (t : Tree) → narrow t ≡ true → narrow (preserve_indirect_access t) ≡ true
unfolding narrow preserve_indirect_access
narrow-apart (node n ts) h = let (a, b, c) = node-parts n ts h in rw (a, b, c)

narrow-under : (n : Node) (ts us : Trees) → narrow (node n ts) ≡ true → all_narrow us ≡ true → narrow (node (cleared n) us) ≡ true
unfolding cleared
narrow-under n ts us h g = let (a, b, c) = node-parts n ts h in node-whole _ us a b g

module _ {v : ℕ} {r : Tree} (fits : narrow r ≡ true) where
  mutual
    narrow-turned : {k : ℕ} {t u : Tree} → Turned v r k t u → narrow t ≡ true → narrow u ≡ true
    narrow-turned (same e p) h = rw p h
    narrow-turned (here {n = n} {ts = ts} e g p) h = rw p (narrow_at n ts r h fits)
    narrow-turned (apart t' e g i p) h = rw p (narrow-apart t' (narrow-turned i h))
    narrow-turned (under {n = n} {ts = ts} ts' i p) h = rw p (narrow-under n ts ts' h (row-turned i (node-parts n ts h).2))

    row-turned : {k : ℕ} {ts us : Trees} → AllTurned v r k ts us → all_narrow ts ≡ true → all_narrow us ≡ true
    row-turned (no_more e) h = h
    row-turned (each {t = t} {t' = t'} {ts = ts} {ts' = ts'} i j e a b) h = let (x, y) = row-parts t ts h in row-whole t' ts' (narrow-turned a x) (row-turned b y)

-- 1 for a tree that isn't
abbrev pub wide : Tree → ℕ
wide t = one (not (narrow t))

never_wider : (x y : Bool) → (x ≡ true → y ≡ true) → one (not y) ≤ one (not x)
never_wider false y h = one-most (not y)
never_wider true true h = omega arith
never_wider true false h = clash false refl (h refl)

once_wider : (x y z : Bool) → (x ≡ true → y ≡ true → z ≡ true) → one (not z) ≤ one (not x) + one (not y)
once_wider false y z h = let a = one-most (not z) in omega (arith, a)
once_wider true y z h = let a = never_wider y z (h refl) in omega (arith, a)

pub wide_light : (names : List NameFacts) → Light names wide
wide_light names = record {
  once = λ v r t t' a b h. once_wider (narrow t) (narrow r) (narrow t') (λ x y. narrow-turned y h x);
  never = λ v t t' a h. never_wider (narrow t) (narrow t') (λ x. narrow-turned x h x);
}

-- from records to trees, and back
record_is : (n : Node) (k : ℕ) → narrow_record (record_of n k) ≡ fitting n.label n.position
unfolding narrow_record record_of
record_is n k = refl

mutual
  unfolding preorder

  tree-read : (t : Tree) (rest : List NodeRecord) → every narrow_record (preorder t rest) ≡ true → (narrow t ≡ true) × (every narrow_record rest ≡ true)
  tree-read (node n kids) rest h =
      let (a, b) = every-parts narrow_record (record_of n (count kids)) (preorders kids rest) h in
      let (c, d) = row_read kids rest b in
      let (x, y) = both (ltb n.label 65536) (ltb n.position 4294967296) (sym (record_is n (count kids)) ∙ a) in
      (node-whole n kids x y c, d)

  row_read : (ts : Trees) (rest : List NodeRecord) → every narrow_record (preorders ts rest) ≡ true → (all_narrow ts ≡ true) × (every narrow_record rest ≡ true)
  row_read none rest h = (row-none, h)
  row_read (more t ts) rest h =
      let (a, b) = tree-read t (preorders ts rest) h in
      let (c, d) = row_read ts rest b in
      (row-whole t ts a c, d)

mutual
  unfolding preorder

  tree-written : (t : Tree) (rest : List NodeRecord) → narrow t ≡ true → every narrow_record rest ≡ true → every narrow_record (preorder t rest) ≡ true
  tree-written (node n kids) rest h g =
      let (a, b, c) = node-parts n kids h in
      every_more narrow_record (record_of n (count kids)) (preorders kids rest) (rw (record_is n (count kids), a, b)) (row_written kids rest c g)

  row_written : (ts : Trees) (rest : List NodeRecord) → all_narrow ts ≡ true → every narrow_record rest ≡ true → every narrow_record (preorders ts rest) ≡ true
  row_written none rest h g = g
  row_written (more t ts) rest h g = let (a, b) = row-parts t ts h in tree-written t (preorders ts rest) a (row_written ts rest b g)

none-wide : (ts : Trees) → all_narrow ts ≡ true → sums wide ts ≡ 0
unfolding sums
none-wide none h = refl
none-wide (more t ts) h =
    let (a, b) = row-parts t ts h in
    let x = one_not (narrow t) a in
    let y = none-wide ts b in
    omega (arith, x, y)

all-narrow : (ts : Trees) → sums wide ts ≡ 0 → all_narrow ts ≡ true
unfolding sums
all-narrow none h = row-none
all-narrow (more t ts) h = row-whole t ts (one-off (narrow t) (omega (arith, h))) (all-narrow ts (omega (arith, h)))

-- records that fit are the trees' that weigh nothing
pub records-fit : (ts : Trees) (rest : List NodeRecord) → every narrow_record (preorders ts rest) ≡ true → sums wide ts ≡ 0
records-fit ts rest h = none-wide ts (row_read ts rest h).0

pub fit-records : (ts : Trees) (rest : List NodeRecord) → sums wide ts ≡ 0 → every narrow_record rest ≡ true → every narrow_record (preorders ts rest) ≡ true
fit-records ts rest h g = row_written ts rest (all-narrow ts h) g
