use Rattle.records_laws.proofs.Formats.{statement-reads}
use Rattle.records.specs.Record.{statement_bytes}
use Rattle.records_table.proofs.Overwriting.{overwritten}
use Rattle.statements_search.proofs.in_statement.put_declaration.Goals as goal

pub returns : goal.returns
returns c = record { written = overwritten c.args.at 4 c.args.statements.now (statement_bytes _) _ (statement-reads.measured _) c.put_statement.ensures.output }
