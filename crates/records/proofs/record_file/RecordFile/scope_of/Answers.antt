use Rattle.records.proofs.Names.{scope-known, scope-none}
use Rattle.records.proofs.record_file.RecordFile.scope_of.Goals as goal

pub returns-then-scope-self : goal.returns-then-scope-self
returns-then-scope-self c = record { result = scope-known c.args.self.now.bytes.now c.args.self.now.header c.args.self.now.whole.0 c.args.scope.0 _ c.scope_at.result c.if-scope-self.true (rw (c.part_offsets-parts.ensures.result, c.from.ensures)) c.scope_at.ensures.result }

pub returns : goal.returns
returns c = record { result = scope-none c.args.self.now.bytes.now c.args.self.now.header c.args.self.now.whole.0 c.args.scope.0 c.if-scope-self.false }
