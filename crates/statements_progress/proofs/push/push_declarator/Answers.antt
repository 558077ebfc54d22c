use mathlib.Core.Path.{refl}
use native.Mathlib.Omega.{arith}
use Rattle.records.specs.Record.{declarator_bytes}
use Rattle.records_laws.proofs.Formats.{declarator-reads}
use Rattle.records_table.proofs.Overwriting.{overwritten}
use Rattle.statements_progress.proofs.Writes.{declarator-written}
use Rattle.statements_progress.proofs.push.push_declarator.Goals as goal

pub returns-clause-pushed : goal.returns-clause-pushed
returns-clause-pushed c = declarator-written {starts = c.args.starts.now} c.args.d _ c.args.p.declarators_kept _ refl c.requires.room (omega arith) (overwritten _ 4 c.args.declarators.now (declarator_bytes c.args.d) _ (declarator-reads.measured c.args.d) c.put_declarator.ensures.output) refl
