-- The first children of a node of the work table. Assumes nothing.
use Prim.Native.Nat.{ℕ, zero, suc, ◌+◌, ◌*◌, ◌≤◌, ◌<◌}
use native.Mathlib.Omega.{arith}
use mathlib.Core.Bool.{Bool, true, false, not}
use mathlib.Core.List.{List, ◌++◌}
use mathlib.Core.Path.{◌≡◌, refl, sym}
use lib.Dec.{eqb}
use mir.Val.{bool_byte}
use borrow.Author.Tests.{ne_eqb}
use lib.ListN.{length}
use Rattle.records.specs.Record.{node_at}
use Rattle.records.specs.Tree.{Node, Tree, Trees, node, none, more, count, record_of, node_of, others}
use Rattle.records.specs.File.{first_tree, one}
use Rattle.records.specs.Place.{root}
use Rattle.records.specs.declared.layout.NodeRecord.{NodeRecord}
use Rattle.records_table.specs.Table.{work_bytes}
use Rattle.records_table.specs.Laid.{laids, At, TreeAt, ForestStands, Stands}
use Rattle.records_table.proofs.Laid.{room-node, first, beyond, inside, node_at_lem}
use Rattle.walk_reorder.specs.Passes.{Passes}
use Rattle.walk_reorder.proofs.Passing.{passes-tree}
use Rattle.walk_arms.specs.Child.{FirstChild, SecondChild}

-- what is read of a tree's root
module _ {table : List ℕ} {at : ℕ} {n : NodeRecord} (e : n ≡ node_at table (16 * at)) {m : Node} {kids : Trees} {pre rest : List ℕ} (h : TreeAt table at (node m kids) pre rest) where
  pub node-is : m ≡ node_of n
  unfolding record_of node_of
  node-is = rw (e, node_at_lem h) refl

  pub children_are : n.children ≡ count kids
  unfolding record_of
  children_are = rw (e, node_at_lem h) refl

-- the children stand behind their parent
kids_of : {table : List ℕ} {at : ℕ} {n : NodeRecord} → n ≡ node_at table (16 * at) → {pre rest : List ℕ} (t : Tree) → TreeAt table at t pre rest
    → ForestStands table (at + 1) n.children
kids_of e {pre} {rest} (node m kids) h = (pre ++ work_bytes (record_of m (count kids)), kids, rest, inside h, sym (children_are e h))

pub kids-stand : {table : List ℕ} {at : ℕ} {n : NodeRecord} → n ≡ node_at table (16 * at) → Stands table at → ForestStands table (at + 1) n.children
kids-stand e s = kids_of e s.1 s.3

-- the first tree of a forest
first_of : {table : List ℕ} {at many : ℕ} {pre rest : List ℕ} → 0 < many → (ts : Trees) → At table at ts pre rest → count ts ≡ many → Stands table at
unfolding count
first_of some none h c = absurd (omega (arith, c))
first_of {pre = pre} {rest} some (more t ts) h c = (pre, t, laids ts rest, first h)

pub first-stands : {table : List ℕ} {at many : ℕ} → 0 < many → ForestStands table at many → Stands table at
first-stands some s = first_of some s.1 s.3 s.4

pub alone-stands : {table : List ℕ} {at : ℕ} → Stands table at → ForestStands table at 1
unfolding count
alone-stands s = (s.0, more s.1 none, s.2, s.3, refl)

-- a test as a number, as the library has it
pub one-is : (b : Bool) → bool_byte b ≡ one b
one-is true = refl
one-is false = refl

-- the first tree of a forest, if there is one, as a forest
pub head_stands : {table : List ℕ} {at : ℕ} (k : ℕ) → ForestStands table at k → ForestStands table at (one (not (eqb k 0)))
head_stands zero s = s
head_stands (suc k) s = rw (ne_eqb (suc k) 0 (λ e. omega (arith, e))) (alone-stands (first-stands (omega arith) s))

-- what stands for a child that isn't there
abbrev absent : NodeRecord
absent = record { kind = 0; flags = 0; label = 0; children = 0; zero = 0; position = 0 }

no_first : {r : NodeRecord} → r ≡ absent → (ts : Trees) → count ts < 1 → root (first_tree ts) ≡ node_of r
unfolding count first_tree node_of
no_first a none c = rw a refl
no_first a (more t ts) c = absurd (omega (arith, c))

no_second : {r : NodeRecord} → r ≡ absent → (ts : Trees) → count ts < 2 → root (first_tree (others 1 ts)) ≡ node_of r
unfolding count others
no_second a none c = no_first a none (omega arith)
no_second a (more t ts) c = no_first a ts (omega (arith, c))

-- the roots of the first two trees of a forest
first-root : {table : List ℕ} {at : ℕ} {r : NodeRecord} {pre rest : List ℕ} (ts : Trees) → 0 < count ts → At table at ts pre rest → r ≡ node_at table (16 * at)
    → root (first_tree ts) ≡ node_of r
unfolding count first_tree
first-root none c h a = absurd (omega (arith, c))
first-root (more (node m kids) ts) c h a = node-is a (first h)

second-root : {table : List ℕ} {at next : ℕ} {effect : Bool} {r : NodeRecord} {pre rest : List ℕ} (ts : Trees) → 1 < count ts → At table at ts pre rest
    → Passes table at 1 next effect → r ≡ node_at table (16 * next) → root (first_tree (others 1 ts)) ≡ node_of r
unfolding count others
second-root none c h p a = absurd (omega (arith, c))
second-root (more t ts) c h p a = first-root ts (omega (arith, c)) (beyond h) (rw (passes-tree p (first h)).0 at a)

module _ {table : List ℕ} {at : ℕ} {n : NodeRecord} (e : n ≡ node_at table (16 * at)) {r : NodeRecord} where
  pub first_missing : n.children ≡ 0 → r ≡ absent → FirstChild table at r
  first_missing k a pre m kids rest h = no_first a kids (omega (arith, k, children_are e h))

  pub first_read : 0 < n.children → r ≡ node_at table (16 * (at + 1)) → FirstChild table at r
  first_read k a pre m kids rest h = first-root kids (omega (arith, k, children_are e h)) (inside h) a

  pub second_missing : n.children < 2 → r ≡ absent → SecondChild table at r
  second_missing k a pre m kids rest h = no_second a kids (omega (arith, k, children_are e h))

  pub second-read : {next : ℕ} {effect : Bool} → 1 < n.children → Passes table (at + 1) 1 next effect → r ≡ node_at table (16 * next) → SecondChild table at r
  second-read k p a pre m kids rest h = second-root kids (omega (arith, k, children_are e h)) (inside h) p a

-- the second tree of a forest is where the first one ends
second_of : {table : List ℕ} {at many next : ℕ} {effect : Bool} {pre rest : List ℕ} → 1 < many → Passes table at 1 next effect → (ts : Trees) → At table at ts pre rest
    → count ts ≡ many → 16 * next + 16 ≤ length table
unfolding count
second_of some p none h c = absurd (omega (arith, c))
second_of some p (more t none) h c = absurd (omega (arith, c))
second_of some p (more t (more u ts)) h c = rw (passes-tree p (first h)).0 (room-node (beyond h))

pub second-room : {table : List ℕ} {at many next : ℕ} {effect : Bool} → 1 < many → Passes table at 1 next effect → ForestStands table at many → 16 * next + 16 ≤ length table
second-room some p s = second_of some p s.1 s.3 s.4
