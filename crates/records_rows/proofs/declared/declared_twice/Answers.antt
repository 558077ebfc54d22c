use native.Mathlib.Omega.{arith}
use Rattle.records_rows.proofs.Declaring.{declaring-none, declaring-name, declaring_pattern, pattern_at}
use Rattle.records_rows.proofs.declared.declared_twice.Goals as goal

pub loop-i-init : goal.loop-i-init
loop-i-init c = declaring-none c.requires.unseen

pub loop-i-preserved-then-at-seen : goal.loop-i-preserved-then-at-seen
loop-i-preserved-then-at-seen c = rw c.from-at.ensures (declaring-name c.declarator_at-d.result _ c.loop-i.invariant (omega arith) c.declarator_at-d.ensures.result (omega (arith, c.from-at.ensures)) (omega arith))

pub loop-i-preserved : goal.loop-i-preserved
loop-i-preserved c =
    declaring_pattern c.declarator_at-d.result _ c.loop-i.invariant (omega arith) c.declarator_at-d.ensures.result
    (pattern_at _ 4 _ _ _ c.declarator_at-d.result c.requires.names (omega arith) c.declarator_at-d.ensures.result (omega (arith, c.from-at.ensures)))
    (omega arith)
