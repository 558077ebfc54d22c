use Rattle.statements_declarator.proofs.Searched.{from-three}
use Rattle.statements_declarator.proofs.unsearched.is_using.Goals as goal

pub returns : goal.returns
returns c = record { result = from-three c.args.kind }
