use native.Mathlib.Omega.{arith}
use Rattle.statements_fold.proofs.Returning.{countable, held, outcome-is, unwritten, written}
use Rattle.statements_fold.proofs.tables.fold_over.Goals as goal

pub overflow_cast-counts : goal.overflow_cast-counts
overflow_cast-counts c = (countable c.requires.accepted c.fold_statements-t.ensures.folded.3 c.args.file.now.whole.0).0

pub overflow_cast-counts-2 : goal.overflow_cast-counts-2
overflow_cast-counts-2 c = (countable c.requires.accepted c.fold_statements-t.ensures.folded.3 c.args.file.now.whole.0).1

pub overflow_cast-counts-3 : goal.overflow_cast-counts-3
overflow_cast-counts-3 c = (countable c.requires.accepted c.fold_statements-t.ensures.folded.3 c.args.file.now.whole.0).2

pub returns-then-output-length-clause-result : goal.returns-then-output-length-clause-result
returns-then-output-length-clause-result c = outcome-is c.requires.accepted c.fold_statements-t.ensures.folded.3 c.args.file.now.whole.0 c.result_length-length.ensures.result

pub returns-then-output-length-clause-output : goal.returns-then-output-length-clause-output
returns-then-output-length-clause-output c = unwritten c.requires.accepted c.fold_statements-t.ensures.folded.3 c.args.file.now.whole.0 c.result_length-length.ensures.result c.args.output.now c.if-output-length.true

pub put_result-requires-clause-tables : goal.put_result-requires-clause-tables
put_result-requires-clause-tables c =
    let (a, b, s, d, n) = c.requires.room in
    held c.requires.accepted c.fold_statements-t.ensures.folded.3 c.args.file.now.whole.0 (omega (arith, a, c.fold_statements-t.auto.nodes)) (omega (arith, b, c.fold_statements-t.auto.declarators)) (omega (arith, d, c.fold_statements-t.auto.statements))

pub returns-clause-result : goal.returns-clause-result
returns-clause-result c = outcome-is c.requires.accepted c.fold_statements-t.ensures.folded.3 c.args.file.now.whole.0 c.result_length-length.ensures.result

pub returns-clause-output : goal.returns-clause-output
returns-clause-output c = written c.requires.accepted c.fold_statements-t.ensures.folded.3 c.args.file.now.whole.0 c.result_length-length.ensures.result c.args.output.now (omega (arith, c.if-output-length.false)) c.put_result.ensures.output
