use native.Mathlib.Omega.{arith}
use Rattle.records.specs.Record.{node_bytes}
use Rattle.records.proofs.Written.{u16-written, u32-written}
use Rattle.records.proofs.record_bytes.node_bytes.Goals as goal

pub returns : goal.returns
unfolding node_bytes
returns c = record {
  result = rw (
    u16-written c.args.n.label (omega arith) c.to_le_bytes-label.ensures,
    u16-written c.args.n.children (omega arith) c.to_le_bytes-children.ensures,
    u16-written c.args.n.zero (omega arith) c.to_le_bytes-zero.ensures,
    u32-written c.args.n.position (omega arith) c.to_le_bytes-position.ensures,
  );
}
