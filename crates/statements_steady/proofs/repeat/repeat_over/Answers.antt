use Prim.Native.Nat.{◌≤◌}
use native.Mathlib.Omega.{arith}
use mathlib.Core.Path.{sym, ◌∙◌, subst}
use lib.ListN.{length, take}
use lib.Seq.{length-take-le}
use Rattle.records.specs.Refusal.{room_wanted}
use Rattle.std.proofs.lemmas.Result.{err_from_is_err_and}
use Rattle.records_refusal.proofs.Rows.{refuses, header_refuses}
use Rattle.statements_fold.proofs.Core.{number_is}
use Rattle.statements_steady.proofs.Running.{copied, first_run, fits, next-run, own-header, none-refused, folds-few, runs-few, runs_fall, all-run}
use Rattle.statements_steady.proofs.Returning.{all-refused}
use Rattle.statements_steady.proofs.repeat.repeat_over.Goals as goal

pub returns-in_err-first : goal.returns-in_err-first
returns-in_err-first c =
    let p = err_from_is_err_and c.from_residual.result c.from_residual.ensures.1 in
    record { repeats = rw (p.1, p.2) (all-refused c.args.headed.now.file.bytes.now _ c.args.output.now c.in_err-first.field-0.0 (c.in_err-first.ensures.run ∙ number_is c.args.headed.now.file.bytes.now _)) }

pub loop-steady-init : goal.loop-steady-init
loop-steady-init c = first_run c.args.current.now c.args.next.now c.in_ok-first.ensures.run c.in_ok-first.ensures.res

pub copy-requires : goal.copy-requires
copy-requires c =
    let x = length-take-le c.loop-steady.length c.loop-steady.next c.loop-steady.invariant.within in
    record { room = omega (arith, x, (fits c.loop-steady.invariant).0, c.loop-steady.invariant.same-current, c.requires.current) }

pub slice_bounds-read_header-end : goal.slice_bounds-read_header-end
slice_bounds-read_header-end c =
    omega (arith, (fits c.loop-steady.invariant).0, c.loop-steady.invariant.same-current, c.requires.current, c.copy.auto.to)

pub returns-in_err-left : goal.returns-in_err-left
returns-in_err-left c =
    let e = c.in_err-left.field-0.0 in
    let bs = take c.loop-steady.length c.copy.new.to in
    let n = length c.args.output.now in
    let t = copied c.loop-steady.next c.loop-steady.current c.loop-steady.length c.loop-steady.invariant.within c.copy.ensures.output in
    record { repeats = none-refused bs n e (header_refuses bs _ c.in_err-left.ensures.result (refuses e) n) t c.loop-steady.invariant.state.accepted }

pub fold_once-requires-in-loop-steady : goal.fold_once-requires-in-loop-steady
fold_once-requires-in-loop-steady c =
    let t = c.in_ok-left.ensures.bytes ∙ copied c.loop-steady.next c.loop-steady.current c.loop-steady.length c.loop-steady.invariant.within c.copy.ensures.output in
    let y : room_wanted (take c.loop-steady.length c.loop-steady.next) ≤ length c.loop-steady.next = omega (arith, c.loop-steady.invariant.state.lower, c.loop-steady.invariant.same_next, c.requires.next, c.fold_once.auto.res) in
    record { res = subst (λ bs. room_wanted bs ≤ length c.loop-steady.next) (sym t) y }

pub returns-in_err-r : goal.returns-in_err-r
returns-in_err-r c =
    let e = c.in_err-r.field-0.0 in
    let bs = c.in_ok-left.left.file.bytes.now in
    let n = length c.args.output.now in
    let t = c.in_ok-left.ensures.bytes ∙ copied c.loop-steady.next c.loop-steady.current c.loop-steady.length c.loop-steady.invariant.within c.copy.ensures.output in
    record { repeats = none-refused bs n e (c.in_err-r.ensures.run ∙ number_is bs n) t c.loop-steady.invariant.state.accepted }

pub overflow_add-folds : goal.overflow_add-folds
overflow_add-folds c =
    let t = c.in_ok-left.ensures.bytes ∙ copied c.loop-steady.next c.loop-steady.current c.loop-steady.length c.loop-steady.invariant.within c.copy.ensures.output in
    omega (arith, folds-few c.loop-steady.invariant c.loop-steady-test.true _ t c.in_ok-r.ensures.run.1 (own-header c.args.headed.now.passes))

pub overflow_add-runs : goal.overflow_add-runs
overflow_add-runs c = omega (arith, runs-few c.loop-steady.invariant c.loop-steady-test.true (own-header c.args.headed.now.passes))

pub loop-steady-smaller : goal.loop-steady-smaller
loop-steady-smaller c = runs_fall c.loop-steady.invariant c.loop-steady-test.true

pub loop-steady-preserved : goal.loop-steady-preserved
loop-steady-preserved c =
    let t = c.in_ok-left.ensures.bytes ∙ copied c.loop-steady.next c.loop-steady.current c.loop-steady.length c.loop-steady.invariant.within c.copy.ensures.output in
    next-run c.loop-steady.invariant c.loop-steady-test.true _ t c.in_ok-r.ensures.run.1 c.in_ok-r.ensures.res c.copy.auto.to c.fold_once-in-loop-steady.auto.res

pub copy-requires-2 : goal.copy-requires-2
copy-requires-2 c =
    let x = length-take-le c.loop-steady.length c.loop-steady.next c.loop-steady.invariant.within in
    record { room = omega (arith, x, (fits c.loop-steady.invariant).1) }

pub returns : goal.returns
returns c = record { repeats = all-run c.loop-steady.invariant c.loop-steady-test.false c.args.output.now c.copy-2.ensures.output }
