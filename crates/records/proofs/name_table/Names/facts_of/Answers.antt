use native.Mathlib.Omega.{arith}
use Rattle.records.proofs.Names.{name-known, name-none}
use Rattle.records.proofs.name_table.Names.facts_of.Goals as goal

pub returns-then-name-self : goal.returns-then-name-self
returns-then-name-self c = record { result = name-known _ _ _ _ c.name_at.result c.if-name-self.true (omega (arith, c.from.ensures)) c.name_at.ensures.result }

pub returns : goal.returns
returns c = record { result = name-none _ _ _ c.if-name-self.false }
