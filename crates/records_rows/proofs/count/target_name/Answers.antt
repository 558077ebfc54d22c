use mathlib.Core.Path.{sym}
use Rattle.records_rows.proofs.Naming.{target-named, target_none}
use Rattle.records_rows.proofs.count.target_name.Goals as goal

pub returns-then-n-eq-TARGET_NAME : goal.returns-then-n-eq-TARGET_NAME
returns-then-n-eq-TARGET_NAME c = record { result = sym (target-named c.args.n c.if-n-eq-TARGET_NAME.true) }

pub returns : goal.returns
returns c = record { result = target_none c.args.n c.if-n-eq-TARGET_NAME.false }
