use mathlib.Core.Path.{refl}
use Prim.Native.Nat.{◌+◌, ◌*◌, ◌≤◌}
use native.Mathlib.Omega.{arith}
use lib.ListN.{length}
use Rattle.records_table.proofs.FileForest.{tree-room}
use Rattle.records_table.proofs.Loading.{loading_from, loading_more, loading_all, loading_fits}
use Rattle.records_table.proofs.load.load_tree.Goals as goal
use Rattle.records_table.proofs.load.load_tree.Goals.{In-loop-word}

pub overflow_mul-next : goal.overflow_mul-next
overflow_mul-next c = omega (arith, tree-room c.requires.room.4)

pub overflow_add-next : goal.overflow_add-next
overflow_add-next c = omega (arith, tree-room c.requires.room.4)

pub loop-word-init : goal.loop-word-init
loop-word-init c = (refl, omega arith, λ at e. loading_from e c.args.nodes_used)

-- what the next node needs is there
fits : (c : In-loop-word)
    → (c.loop-word.next + 12 ≤ length c.args.file.now) × (4 * c.loop-word.word + 16 ≤ length c.args.nodes.now) × (4 * c.loop-word.end ≤ length c.args.nodes.now)
fits c = loading_fits c.args.nodes_used c.requires.room (c.loop-word.invariant.2 c.args.tree.0 refl) c.loop-word-test.true

pub overflow_mul-to : goal.overflow_mul-to
overflow_mul-to c = omega (arith, fits c)

pub slice_bounds-copy_node-count : goal.slice_bounds-copy_node-count
slice_bounds-copy_node-count c = omega (arith, fits c)

pub slice_bounds-copy_node-start : goal.slice_bounds-copy_node-start
slice_bounds-copy_node-start c = omega (arith, fits (goal.at.slice_bounds-copy_node-start c).In-loop-word)

pub copy_node-requires : goal.copy_node-requires
copy_node-requires c = record {
  «record» = omega (arith, fits (goal.at.copy_node-requires c).In-loop-word);
  room = omega (arith, fits (goal.at.copy_node-requires c).In-loop-word);
}

pub node_at-n-requires : goal.node_at-n-requires
node_at-n-requires c = record { room = omega (arith, fits (goal.at.node_at-n-requires c).In-loop-word) }

pub overflow_add-end-in-loop-word : goal.overflow_add-end-in-loop-word
overflow_add-end-in-loop-word c = omega (arith, fits (goal.at.overflow_add-end-in-loop-word c).In-loop-word, c.from.ensures)

pub overflow_add-next-in-loop-word : goal.overflow_add-next-in-loop-word
overflow_add-next-in-loop-word c = omega (arith, fits (goal.at.overflow_add-next-in-loop-word c).In-loop-word)

pub overflow_add-word : goal.overflow_add-word
overflow_add-word c = omega (arith, fits (goal.at.overflow_add-word c).In-loop-word)

pub loop-word-smaller : goal.loop-word-smaller
loop-word-smaller c = omega (arith, fits (goal.at.loop-word-smaller c).In-loop-word)

pub loop-word-preserved : goal.loop-word-preserved
loop-word-preserved c = (
  omega arith,
  omega arith,
  λ at e t total before behind here pre rest is long.
      let copy = c.copy_node in
      let l = c.loop-word.invariant.2 at e t total before behind here pre rest is long in
      loading_more l.2 l.5 c.loop-word-test.true c.node_at-n.result c.from.result _ copy.new.out refl
      c.node_at-n.ensures.result c.from.ensures copy.ensures.output,
)

pub returns-clause-tree : goal.returns-clause-tree
returns-clause-tree c t total before behind here pre rest is long =
    let l = c.loop-word.invariant.2 c.args.tree.0 refl t total before behind here pre rest is long in
    let e = loading_all l.2 l.5 c.loop-word-test.false in (omega (arith, e.0), e.1)
