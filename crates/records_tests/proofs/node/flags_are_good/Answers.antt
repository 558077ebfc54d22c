use native.Mathlib.Omega.{arith}
use Rattle.records_tests.proofs.Judged.{flags-marked, flags-optional, flags-property, flags-compound, flags-anonymous}
use Rattle.records_tests.proofs.node.flags_are_good.Goals as goal

pub returns-then-n-eq-MARKED : goal.returns-then-n-eq-MARKED
returns-then-n-eq-MARKED c = record { result = flags-marked c.args.n c.requires.kind (omega arith) c.requires.flags _ c.from.result c.if-n-eq-MARKED.true c.from.ensures c.has_bit.ensures.result }

pub returns-then-n : goal.returns-then-n
returns-then-n c = record { result = flags-optional c.args.n c.requires.kind (omega arith) c.requires.flags _ c.from-then-n.result c.if-n-eq-MARKED.false (omega (arith, c.if-n.true)) c.from-then-n.ensures c.has_bit-then-n.ensures.result }

pub returns-then-n-eq-PROPERTY : goal.returns-then-n-eq-PROPERTY
returns-then-n-eq-PROPERTY c = record { result = flags-property c.args.n c.requires.kind (omega arith) c.requires.flags c.if-n-eq-MARKED.false (omega (arith, c.if-n.false)) c.if-n-eq-PROPERTY.true }

pub returns-then-n-eq-ASSIGNMENT : goal.returns-then-n-eq-ASSIGNMENT
returns-then-n-eq-ASSIGNMENT c = record { result = flags-compound c.args.n c.requires.kind (omega arith) c.requires.flags c.if-n-eq-MARKED.false (omega (arith, c.if-n.false)) c.if-n-eq-PROPERTY.false c.if-n-eq-ASSIGNMENT.true }

pub returns : goal.returns
returns c = record { result = flags-anonymous c.args.n c.requires.kind (omega arith) c.requires.flags c.if-n-eq-MARKED.false (omega (arith, c.if-n.false)) c.if-n-eq-PROPERTY.false c.if-n-eq-ASSIGNMENT.false }
