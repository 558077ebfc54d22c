use mathlib.Core.Path.{sym, ◌∙◌}
use Rattle.records_refusal.proofs.Scans.{row-7, row-8, no-row, all-taken}
use Rattle.records_refusal.proofs.scan.scan_nodes.Goals as goal

pub returns-in-Ok-clause-rows : goal.returns-in-Ok-clause-rows
returns-in-Ok-clause-rows c = no-row c.args.headed.now.passes (rw c.from.ensures at c.in-Ok.ensures.pass)

pub returns-in-Ok-clause-taken : goal.returns-in-Ok-clause-taken
returns-in-Ok-clause-taken c = all-taken c.args.headed.now.passes (rw c.from.ensures at c.in-Ok.ensures.pass)

pub returns-in-Err-BadNode-clause-rows : goal.returns-in-Err-BadNode-clause-rows
returns-in-Err-BadNode-clause-rows c = row-7 c.args.headed.now.passes _ (rw (c.in-Err-BadNode.field-0-is, c.from.ensures) at c.in-Err-BadNode.ensures.pass)

pub returns-then-nodes_are_good-clause-rows : goal.returns-then-nodes_are_good-clause-rows
returns-then-nodes_are_good-clause-rows c = row-8 c.args.headed.now.passes (rw (c.in-Err-BadTree.field-0-is, c.from.ensures) at c.in-Err-BadTree.ensures.pass) (sym c.nodes_are_good.ensures.result ∙ c.if-nodes_are_good.true)

pub returns-else-nodes_are_good-clause-rows : goal.returns-else-nodes_are_good-clause-rows
returns-else-nodes_are_good-clause-rows c =
    let p = rw (c.in-Err-BadTree.field-0-is, c.from.ensures) at c.in-Err-BadTree.ensures.pass in
    row-7 c.args.headed.now.passes _ (sym p.nodes ∙ sym c.nodes_are_good.ensures.result ∙ c.if-nodes_are_good.false)
