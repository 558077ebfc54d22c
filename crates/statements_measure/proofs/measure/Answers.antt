use Rattle.std.proofs.lemmas.Result.{err_from_is_err_and}
use Rattle.records.specs.Refusal.{room_wanted}
use Rattle.records_refusal.proofs.Rows.{refuses, header_refuses}
use Rattle.statements_fold.proofs.Returning.{header_limits}
use Rattle.statements_measure.proofs.Laws.{laws}
use Rattle.statements_measure.proofs.Returning.{returns_refused, outcome-refused, outcome-measured}
use Rattle.statements_measure.proofs.measure.Goals as goal

pub returns-in_err-headed : goal.returns-in_err-headed
returns-in_err-headed c =
    let p = err_from_is_err_and c.from_residual.result c.from_residual.ensures.1 in
    let e = c.in_err-headed.field-0.0 in
    record { numbers = rw (p.1, p.2) (returns_refused c.args.bytes.now e (header_refuses c.args.bytes.now _ c.in_err-headed.ensures.result (refuses e) (room_wanted c.args.bytes.now))); laws = laws c.args.bytes.now }

pub fold_records-requires-clause-folded : goal.fold_records-requires-clause-folded
fold_records-requires-clause-folded c = (header_limits c.in_ok-headed.headed.passes).1

pub fold_records-requires-clause-kept : goal.fold_records-requires-clause-kept
fold_records-requires-clause-kept c = (header_limits c.in_ok-headed.headed.passes).2

pub returns-in_err-r : goal.returns-in_err-r
returns-in_err-r c =
    let p = err_from_is_err_and c.from_residual-in_err-r.result c.from_residual-in_err-r.ensures.1 in
    record { numbers = rw (p.1, p.2) (outcome-refused c.args.bytes.now _ (rw c.in_ok-headed.ensures.bytes at c.room_wanted-room.ensures.result) c.in_err-r.field-0.0 (rw c.in_ok-headed.ensures.bytes at c.in_err-r.ensures.folds)); laws = laws c.args.bytes.now }

pub returns : goal.returns
returns c = record { numbers = outcome-measured c.args.bytes.now _ (rw c.in_ok-headed.ensures.bytes at c.room_wanted-room.ensures.result) (rw c.in_ok-headed.ensures.bytes at c.in_ok-r.ensures.folds); laws = laws c.args.bytes.now }
