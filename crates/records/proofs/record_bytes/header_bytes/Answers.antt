use native.Mathlib.Omega.{arith}
use Rattle.records.specs.Record.{header_bytes}
use Rattle.records.proofs.Written.{u16-written}
use Rattle.records.proofs.record_bytes.header_bytes.Goals as goal

pub returns : goal.returns
unfolding header_bytes
returns c = record {
  result = rw (
    u16-written c.args.h.version (omega arith) c.to_le_bytes-version.ensures,
    u16-written c.args.h.names (omega arith) c.to_le_bytes-names.ensures,
    u16-written c.args.h.scopes (omega arith) c.to_le_bytes-scopes.ensures,
    u16-written c.args.h.frames (omega arith) c.to_le_bytes-frames.ensures,
    u16-written c.args.h.nodes (omega arith) c.to_le_bytes-nodes.ensures,
    u16-written c.args.h.declarators (omega arith) c.to_le_bytes-declarators.ensures,
    u16-written c.args.h.statements (omega arith) c.to_le_bytes-statements.ensures,
    u16-written c.args.h.current_scope (omega arith) c.to_le_bytes-current.ensures,
    u16-written c.args.h.this_scope (omega arith) c.to_le_bytes-this.ensures,
    u16-written c.args.h.last (omega arith) c.to_le_bytes-last.ensures,
  );
}
