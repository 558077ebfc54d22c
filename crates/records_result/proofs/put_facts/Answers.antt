use Prim.Native.Nat.{◌-◌}
use native.Mathlib.Omega.{arith}
use lib.ListN.{take, drop}
use Rattle.records.specs.Record.{header_bytes}
use Rattle.records_laws.proofs.Formats.{header_length_lem}
use Rattle.records.proofs.Putting.{put_next}
use Rattle.records_result.proofs.put_facts.Goals as goal

pub returns-clause-output : goal.returns-clause-output
returns-clause-output c = put_next c.args.out.now (header_bytes c.args.header) (take (c.args.end - 24) (drop 24 c.args.bytes.now)) 24 (c.args.end - 24) c.args.end (header_length_lem c.args.header) (omega arith) c.put_header.ensures.output c.put_copy.ensures.output
