use native.Mathlib.Omega.{arith}
use Rattle.statements_fold.proofs.Returning.{header_limits}
use Rattle.statements_fold.proofs.tables.fold_records.Goals as goal

pub overflow_add-nodes : goal.overflow_add-nodes
overflow_add-nodes c = omega (arith, header_limits c.args.headed.now.passes, c.from.ensures, c.from-2.ensures)

pub fold_within-requires-else-nodes-le-FEW_NODES-clause-nodes : goal.fold_within-requires-else-nodes-le-FEW_NODES-clause-nodes
fold_within-requires-else-nodes-le-FEW_NODES-clause-nodes c = omega (arith, header_limits c.args.headed.now.passes)

pub fold_within-requires-else-nodes-le-FEW_NODES-clause-declarators :
    goal.fold_within-requires-else-nodes-le-FEW_NODES-clause-declarators
fold_within-requires-else-nodes-le-FEW_NODES-clause-declarators c = omega (arith, header_limits c.args.headed.now.passes)

pub fold_within-requires-else-nodes-le-FEW_NODES-clause-starts : goal.fold_within-requires-else-nodes-le-FEW_NODES-clause-starts
fold_within-requires-else-nodes-le-FEW_NODES-clause-starts c = omega (arith, header_limits c.args.headed.now.passes)

pub fold_within-requires-else-nodes-le-FEW_NODES-clause-statements :
    goal.fold_within-requires-else-nodes-le-FEW_NODES-clause-statements
fold_within-requires-else-nodes-le-FEW_NODES-clause-statements c = omega (arith, header_limits c.args.headed.now.passes)
