use native.Mathlib.Omega.{arith}
use Rattle.records.specs.Record.{statement_bytes}
use Rattle.records.proofs.Written.{u16-written}
use Rattle.records.proofs.record_bytes.statement_bytes.Goals as goal

pub returns : goal.returns
unfolding statement_bytes
returns c = record {
  result = rw (
      u16-written c.args.s.declarators (omega arith) c.to_le_bytes-declarators.ensures);
}
