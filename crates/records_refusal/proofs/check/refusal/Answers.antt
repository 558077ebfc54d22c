use Rattle.std.proofs.lemmas.Result.{err_from_is_err_and}
use Rattle.records_refusal.proofs.Rows.{refuses, header_refuses}
use Rattle.records_refusal.proofs.check.refusal.Goals as goal

pub returns-in_err-headed : goal.returns-in_err-headed
returns-in_err-headed c =
    let p = err_from_is_err_and c.from_residual.result c.from_residual.ensures.1 in
    record { result = rw (p.1, p.2) (header_refuses c.args.bytes.now _ c.in_err-headed.ensures.result (refuses c.in_err-headed.field-0.0) c.args.room) }
