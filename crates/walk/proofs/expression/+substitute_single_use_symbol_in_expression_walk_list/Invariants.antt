-- What falls is the number of nodes: in the tree at a place, and in the trees of a forest, which counts one more since it calls
-- the walk on its first tree.
use Prim.Native.Nat.{◌+◌, ◌*◌}
use mathlib.Core.Path.{◌≡◌}
use lib.ListN.{length}
use Rattle.records.specs.Tree.{size, sizes}
use Rattle.records.specs.File.{read}
use Rattle.records_table.specs.Laid.{tree_at, forest_at}
use Rattle.walk_rules.specs.Context.{context_of}
use Rattle.walk.specs.Forests.{GoesOn}
use Rattle.walk.proofs.expression.+substitute_single_use_symbol_in_expression_walk_list.Given as goal

abbrev pub decreases-substitute_single_use_symbol_in_expression : goal.decreases-substitute_single_use_symbol_in_expression
decreases-substitute_single_use_symbol_in_expression l = 2 * size (tree_at l.nodes.now l.at.0)

abbrev pub decreases-walk_list : goal.decreases-walk_list
decreases-walk_list l = 2 * sizes (forest_at l.nodes.now l.at.0 l.many) + 1

abbrev pub invariant-walk_list-loop-forest : goal.invariant-walk_list-loop-forest
invariant-walk_list-loop-forest l =
    GoesOn (context_of (read l.file.bytes.now)) l.replacement l.initial.nodes l.nodes l.initial.forest l.forest × (length l.nodes ≡ length l.initial.nodes)

abbrev pub decreases-walk_list-loop-forest : goal.decreases-walk_list-loop-forest
decreases-walk_list-loop-forest l = sizes (forest_at l.nodes l.forest.next.0 l.forest.trees)
