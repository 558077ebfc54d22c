-- A forest of trees of the work table, passed node by node. Assumes nothing.
use mathlib.Core.Path.{◌≡◌, refl, sym, ◌∙◌}
use mathlib.Core.Bool.{Bool, true, false, ◌||◌, or-false}
use mathlib.Core.List.{List}
use Prim.Native.Nat.{ℕ, ◌+◌, ◌-◌, ◌*◌, ◌≤◌, ◌<◌}
use native.Mathlib.Omega.{arith}
use lib.ListN.{length}
use Rattle.records.specs.Record.{node_at}
use Rattle.records.specs.Tree.{Tree, Trees, node, none, more, count, size, sizes, joined, record_of, node_of}
use Rattle.records.specs.declared.layout.NodeRecord.{NodeRecord}
use Rattle.records_laws.proofs.Forests.{count-joined, sizes-joined, count-sizes}
use Rattle.records_table.specs.Laid.{At, TreeAt, ForestStands, Stands}
use Rattle.records_table.proofs.Laid.{room, first, node_at_lem, down}
use Rattle.walk_rules.specs.Effect.{has_effect, may_have_side_effects, any_has_side_effects}
use Rattle.walk_reorder.specs.Passes.{Passes}
use Rattle.walk_reorder.proofs.Effects.{or_passed, effects-joined}

-- Of the forest `ts`, which begins at node number `at`, the forest `left` is still to be passed, from `next` on.
pub record Left (table : List ℕ) (at : ℕ) (ts : Trees) (rest : List ℕ) (next pending : ℕ) (effect : Bool) (pre : List ℕ) (left : Trees) : Type 0 where
  pub here : At table next left pre rest
  pub due : count left ≡ pending
  pub whole : next + sizes left ≡ at + sizes ts
  pub acts : (effect || any_has_side_effects left) ≡ any_has_side_effects ts

abbrev pub SomeLeft : List ℕ → ℕ → Trees → List ℕ → ℕ → ℕ → Bool → Type 0
SomeLeft table at ts rest next pending effect = (pre : List ℕ) × (left : Trees) × Left table at ts rest next pending effect pre left

-- so it is of every forest that stands there
abbrev pub Passing : List ℕ → ℕ → ℕ → ℕ → ℕ → Bool → Type 0
Passing table at many next pending effect =
    (pre : List ℕ) (ts : Trees) (rest : List ℕ) → At table at ts pre rest → count ts ≡ many → SomeLeft table at ts rest next pending effect

-- every tree that is due has a node inside the table
pending_fits : {table : List ℕ} {at : ℕ} {ts : Trees} {rest pre : List ℕ} {next pending : ℕ} {effect : Bool} {left : Trees}
    → Left table at ts rest next pending effect pre left → 16 * next + 16 * pending ≤ length table
pending_fits {left = left} l = omega (arith, room l.here, count-sizes left, l.due)

-- so the trees that are due of a forest that stands there fit in the table; of a tree
pub forest_fits : {table : List ℕ} {at many next pending : ℕ} {effect : Bool} → ForestStands table at many → Passing table at many next pending effect → 16 * next + 16 * pending ≤ length table
forest_fits s p = pending_fits (p s.0 s.1 s.2 s.3 s.4).2

pub tree_fits : {table : List ℕ} {at next pending : ℕ} {effect : Bool} → Stands table at → Passing table at 1 next pending effect → 16 * next + 16 * pending ≤ length table
unfolding count
tree_fits s p = pending_fits (p s.0 (more s.1 none) s.2 s.3 refl).2

-- one node more: its children are due in its place
pub passing-more : {table : List ℕ} {at : ℕ} {ts : Trees} {rest pre : List ℕ} {next pending : ℕ} {effect : Bool} (left : Trees)
    → Left table at ts rest next pending effect pre left → 0 < pending
    → (r : NodeRecord) (children : ℕ) (own : Bool) → r ≡ node_at table (16 * next) → children ≡ r.children → own ≡ has_effect (node_of r)
    → SomeLeft table at ts rest (next + 1) (pending - 1 + children) (effect || own)
unfolding count size sizes may_have_side_effects any_has_side_effects record_of node_of
passing-more none l some r children own is k o = absurd (omega (arith, l.due))
passing-more {effect = effect} (more (node n kids) ts) l some r children own is k o =
    let e = is ∙ node_at_lem (first l.here) in (
      _,
      joined kids ts,
      record {
        here = down l.here;
        due = rw (count-joined, k, e) (omega (arith, l.due));
        whole = rw sizes-joined (omega (arith, l.whole));
        acts = rw (o, e, effects-joined) (or_passed effect (has_effect n) (any_has_side_effects kids) (any_has_side_effects ts) ∙ l.acts);
      },
    )

-- a node with an effect: so has the forest
pub effect-seen : {table : List ℕ} {at : ℕ} {ts : Trees} {rest pre : List ℕ} {next pending : ℕ} (left : Trees)
    → Left table at ts rest next pending false pre left → 0 < pending → (r : NodeRecord) → r ≡ node_at table (16 * next) → true ≡ has_effect (node_of r) → true ≡ any_has_side_effects ts
effect-seen left l some r is o = (passing-more left l some r r.children true is refl o).2.acts

-- nothing is due: the forest is passed
pub passing-all : {table : List ℕ} {at : ℕ} {ts : Trees} {rest pre : List ℕ} {next pending : ℕ} {effect : Bool} (left : Trees)
    → Left table at ts rest next pending effect pre left → pending ≤ 0 → (next ≡ at + sizes ts) × (effect ≡ any_has_side_effects ts)
unfolding count sizes any_has_side_effects
passing-all {effect = effect} none l over = (omega (arith, l.whole), sym (or-false effect) ∙ l.acts)
passing-all (more t ts) l over = absurd (omega (arith, l.due))

-- a forest of one tree
pub alone : (t : Tree) → (count (more t none) ≡ 1) × (any_has_side_effects (more t none) ≡ may_have_side_effects t)
unfolding count any_has_side_effects
alone t = (refl, or-false (may_have_side_effects t))

-- A forest of one tree, passed: where the tree ends, and its effect.
pub passes-tree : {table : List ℕ} {at : ℕ} {t : Tree} {pre rest : List ℕ} {next : ℕ} {effect : Bool} → Passes table at 1 next effect → TreeAt table at t pre rest
    → (next ≡ at + size t) × (effect ≡ may_have_side_effects t)
unfolding count sizes any_has_side_effects
passes-tree {t = t} {pre} {rest} p h =
    let q = p pre (more t none) rest h refl in (omega (arith, q.0), q.1 ∙ (alone t).1)
