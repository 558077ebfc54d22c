use lib.ListN.{length}
use Rattle.std.proofs.lemmas.Result.{err_from_is_err_and}
use Rattle.records_refusal.proofs.Rows.{refuses, header_refuses}
use Rattle.theory_demands.proofs.Acceptance.{result-accepted}
use Rattle.statements_fold.proofs.Returning.{returns_refused, header_limits, written-refused, written-folded}
use Rattle.statements_fold.proofs.fold.Goals as goal

pub returns-in_err-headed : goal.returns-in_err-headed
returns-in_err-headed c =
    let p = err_from_is_err_and c.from_residual.result c.from_residual.ensures.1 in
    let n = length c.args.output.now in
    let (x, y) = returns_refused c.args.bytes.now n c.args.output.now c.in_err-headed.field-0.0 (header_refuses c.args.bytes.now _ c.in_err-headed.ensures.result (refuses c.in_err-headed.field-0.0) n) in
    record { numbers = rw (p.1, p.2) x; output = y; accepted = λ e. result-accepted c.args.bytes.now n e }

pub fold_records-requires-clause-folded : goal.fold_records-requires-clause-folded
fold_records-requires-clause-folded c = (header_limits c.in_ok-headed.headed.passes).1

pub fold_records-requires-clause-kept : goal.fold_records-requires-clause-kept
fold_records-requires-clause-kept c = (header_limits c.in_ok-headed.headed.passes).2

pub returns-in_err-r : goal.returns-in_err-r
returns-in_err-r c =
    let p = err_from_is_err_and c.from_residual-in_err-r.result c.from_residual-in_err-r.ensures.1 in
    let n = length c.args.output.now in
    let (x, y) = written-refused c.args.bytes.now c.args.output.now c.in_err-r.field-0.0 (rw c.in_ok-headed.ensures.bytes at c.in_err-r.ensures.folds) in
    record { numbers = rw (p.1, p.2) x; output = y; accepted = λ e. result-accepted c.args.bytes.now n e }

pub returns : goal.returns
returns c =
    let n = length c.args.output.now in
    let (x, y) = written-folded c.args.bytes.now c.args.output.now (rw c.in_ok-headed.ensures.bytes at c.in_ok-r.ensures.folds) in
    record { numbers = x; output = y; accepted = λ e. result-accepted c.args.bytes.now n e }
