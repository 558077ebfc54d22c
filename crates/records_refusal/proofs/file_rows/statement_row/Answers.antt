use mathlib.Core.Path.{refl, ap}
use mathlib.Core.Bool.{not}
use native.Mathlib.Omega.{arith}
use Rattle.records_refusal.proofs.Judged.{initializers-low, expressions-low, statements-judged}
use Rattle.records_refusal.proofs.Rows.{refused, passed}
use Rattle.records_refusal.proofs.file_rows.statement_row.Goals as goal

pub overflow_add-trees : goal.overflow_add-trees
overflow_add-trees c = omega (arith, initializers-low _ _ _ _ _ c.declarator_totals-d.ensures.initializers, expressions-low _ _ _ _ _ c.statement_totals-s.ensures.expressions)

pub returns-then-d-s-clause-row : goal.returns-then-d-s-clause-row
returns-then-d-s-clause-row c =
    passed 6 (statements-judged c.args.file.now.bytes.now c.args.file.now.header c.args.file.now.whole.0 c.declarators-declarators.ensures.count c.declarators-declarators.ensures.records c.statements.ensures.records c.declarator_totals-d.ensures.good c.statement_totals-s.ensures.good c.statement_totals-s.ensures.declarators)
    (ap not c.if-d-s.true) refl

pub returns-else-d-s-clause-row : goal.returns-else-d-s-clause-row
returns-else-d-s-clause-row c =
    refused 6 _ (statements-judged c.args.file.now.bytes.now c.args.file.now.header c.args.file.now.whole.0 c.declarators-declarators.ensures.count c.declarators-declarators.ensures.records c.statements.ensures.records c.declarator_totals-d.ensures.good c.statement_totals-s.ensures.good c.statement_totals-s.ensures.declarators)
    (ap not c.if-d-s.false)
