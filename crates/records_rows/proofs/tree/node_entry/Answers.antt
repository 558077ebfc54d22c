use mathlib.Core.Path.{◌∙◌}
use native.Mathlib.Omega.{arith}
use Rattle.records_rows.proofs.Standings.{entry-leaf, entry_parent}
use Rattle.records_rows.proofs.tree.node_entry.Goals as goal

pub returns-then-n-eq0 : goal.returns-then-n-eq0
returns-then-n-eq0 c = record { result = c.entry_over.ensures.result ∙ entry-leaf c.args.n c.args.stack.now c.args.top c.if-n-eq0.true }

pub returns : goal.returns
returns c = record { result = c.entry_over-2.ensures.result ∙ entry_parent c.args.n c.args.stack.now c.args.top c.if-n-eq0.false (omega arith) }
