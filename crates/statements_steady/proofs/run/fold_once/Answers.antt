use mathlib.Core.Path.{sym}
use lib.Seq.{length-take-le}
use Rattle.std.proofs.lemmas.Result.{err_from_is_err_and}
use Rattle.statements_fold.proofs.Core.{by_definition}
use Rattle.statements_fold.proofs.Returning.{header_limits}
use Rattle.statements_steady.proofs.Running.{run_refused, run_is}
use Rattle.statements_steady.proofs.run.fold_once.Goals as goal

pub fold_records-requires-clause-folded : goal.fold_records-requires-clause-folded
fold_records-requires-clause-folded c = (header_limits c.args.headed.now.passes).1

pub fold_records-requires-clause-kept : goal.fold_records-requires-clause-kept
fold_records-requires-clause-kept c = (header_limits c.args.headed.now.passes).2

pub returns-in_err-r : goal.returns-in_err-r
returns-in_err-r c =
    let p = err_from_is_err_and c.from_residual.result c.from_residual.ensures.1 in
    let w = by_definition c.args.headed.now.file.bytes.now c.args.room c.args.res.now (λ e. c.requires.res) c.in_err-r.ensures.folds in
    record { run = rw (p.1, p.2) (run_refused c.in_err-r.field-0.0 w); res = w.written }

pub slice_bounds-eq-end : goal.slice_bounds-eq-end
slice_bounds-eq-end c = (by_definition c.args.headed.now.file.bytes.now c.args.room c.args.res.now (λ e. c.requires.res) c.in_ok-r.ensures.folds).within

pub slice_bounds-eq-end-2 : goal.slice_bounds-eq-end-2
slice_bounds-eq-end-2 c = sym (length-take-le _ _ (by_definition c.args.headed.now.file.bytes.now c.args.room c.args.res.now (λ e. c.requires.res) c.in_ok-r.ensures.folds).within)

pub returns : goal.returns
returns c =
    let w = by_definition c.args.headed.now.file.bytes.now c.args.room c.args.res.now (λ e. c.requires.res) c.in_ok-r.ensures.folds in
    record { run = run_is w c.eq-steady.ensures; res = w.written }
