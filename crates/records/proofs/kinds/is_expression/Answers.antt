use Rattle.records.specs.Place.{is_expression}
use Rattle.records.proofs.kinds.is_expression.Goals as goal

pub returns : goal.returns
unfolding is_expression
returns c = record { result = rw (c.from.ensures, c.from-2.ensures) }
