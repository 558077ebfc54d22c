use native.Mathlib.Omega.{arith}
use lib.ListN.{length}
use Rattle.std.proofs.lemmas.Result.{err_from_is_err_and}
use Rattle.records_refusal.proofs.Rows.{refuses, header_refuses}
use Rattle.statements_steady.proofs.Returning.{all-refused, laws, room_limit}
use Rattle.statements_steady.proofs.fold_until_steady.Goals as goal

pub returns-in_err-headed : goal.returns-in_err-headed
returns-in_err-headed c =
    let p = err_from_is_err_and c.from_residual.result c.from_residual.ensures.1 in
    let e = c.in_err-headed.field-0.0 in
    let n = length c.args.output.now in
    let (x, y) = all-refused c.args.bytes.now n c.args.output.now e (header_refuses c.args.bytes.now _ c.in_err-headed.ensures.result (refuses e) n) in
    record { numbers = rw (p.1, p.2) x; output = y; laws = laws c.args.bytes.now n }

pub repeat_in-requires-clause-room : goal.repeat_in-requires-clause-room
repeat_in-requires-clause-room c = omega (arith, room_limit c.in_ok-headed.headed.passes)

pub returns-then-room_is_short-clause-laws : goal.returns-then-room_is_short-clause-laws
returns-then-room_is_short-clause-laws c = laws c.args.bytes.now (length c.args.output.now)

pub returns-else-room_is_short-clause-laws : goal.returns-else-room_is_short-clause-laws
returns-else-room_is_short-clause-laws c = laws c.args.bytes.now (length c.args.output.now)
