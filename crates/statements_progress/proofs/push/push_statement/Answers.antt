use mathlib.Core.Path.{refl}
use Rattle.records.specs.Record.{statement_bytes}
use Rattle.records_laws.proofs.Formats.{statement-reads}
use Rattle.records_table.proofs.Overwriting.{overwritten}
use Rattle.statements_progress.proofs.Writes.{statement-written}
use Rattle.statements_progress.proofs.push.push_statement.Goals as goal

pub returns-clause-pushed : goal.returns-clause-pushed
returns-clause-pushed c = statement-written c.args.s _ c.args.p.statements_kept refl c.requires.room (overwritten _ 4 c.args.statements.now (statement_bytes c.args.s) _ (statement-reads.measured c.args.s) c.put_statement.ensures.output)
