use Rattle.records_rows.specs.Stack.{root_stands}
use Rattle.records_rows.proofs.place.root_stands.Goals as goal

pub returns : goal.returns
unfolding root_stands
returns c = record { result = rw c.is_expression.ensures.result }
