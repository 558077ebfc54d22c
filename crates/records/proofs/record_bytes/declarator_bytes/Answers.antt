use native.Mathlib.Omega.{arith}
use Rattle.records.specs.Record.{declarator_bytes}
use Rattle.records.proofs.Written.{u16-written}
use Rattle.records.proofs.record_bytes.declarator_bytes.Goals as goal

pub returns : goal.returns
unfolding declarator_bytes
returns c = record {
  result = rw (
    u16-written c.args.d.name (omega arith) c.to_le_bytes-name.ensures,
    u16-written c.args.d.present (omega arith) c.to_le_bytes-present.ensures,
  );
}
