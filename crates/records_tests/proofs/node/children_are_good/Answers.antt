use Rattle.records.specs.Node.{fewest, most}
use Rattle.records_tests.proofs.Judged.{children-few, children-many, children-property, children-other}
use Rattle.records_tests.proofs.node.children_are_good.Goals as goal

pub returns-then-n-kind : goal.returns-then-n-kind
unfolding fewest most
returns-then-n-kind c = record { result = children-few c.args.n (λ i. fewest) (λ i. most) c.if-n-kind.true }

pub returns-then-kind-n : goal.returns-then-kind-n
unfolding fewest most
returns-then-kind-n c = record { result = children-many c.args.n (λ i. fewest) (λ i. most) c.if-kind-n.true }

pub returns-then-n-eq-PROPERTY : goal.returns-then-n-eq-PROPERTY
unfolding fewest most
returns-then-n-eq-PROPERTY c = record { result = rw (c.is_computed.ensures.result, c.is_proto.ensures.result) (children-property c.args.n (λ i. fewest) (λ i. most) c.if-n-kind.false c.if-kind-n.false c.if-n-eq-PROPERTY.true) }

pub returns : goal.returns
unfolding fewest most
returns c = record { result = children-other c.args.n (λ i. fewest) (λ i. most) c.if-n-kind.false c.if-kind-n.false c.if-n-eq-PROPERTY.false }
