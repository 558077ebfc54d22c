-- Steps: where one comes from, and what it has in hand.
use Rattle.std.specs.Prelude.{ℕ}
use Rattle.records.specs.File.{DeclarationKind}
use Rattle.theory_runs.specs.Hand.{Hand}

-- What a member or a target is evaluated for: its value; a plain assignment to it; its deletion. (For the last two ECMA-262
-- reads no property, 13.15.2 and 13.5.1.2, so what is given there may be another value. For its value a member is read:
-- 13.3.2.1, 6.2.5.5.)
pub data Role : Type 0 where
  value target deleted : Role

-- "Two steps are the same if they come from nodes of one kind, label and flags, from declarators of one statement kind and
-- name, or from kind 6 statements." A node's numbers stand in this order: kind, label, flags; then what it is evaluated for.
pub data Origin : Type 0 where
  of_node : ℕ → ℕ → ℕ → Role → Origin
  of_declarator : DeclarationKind → ℕ → Origin
  of_other : Origin

pub record Step (Value : Type 0) : Type 0 where
  pub origin : Origin
  pub hand : Hand Value
