-- What steps do and which way choices go: "What a step does goes by its node's kind, label and flags, the values in hand,
-- the store it reads and what is said below, never by its number, its place in the script or a property's bit 4".
use Rattle.std.specs.Prelude.{Bool}
use Rattle.theory_runs.specs.Store.{Store}
use Rattle.theory_runs.specs.Step.{Step}

-- "A marked step may change the store or stop" (ECMA-262 6.2.4: an abrupt completion)
pub data Act (Value Rest : Type 0) : Type 0 where
  done : Value → Store Value Rest → Act Value Rest
  stops : Act Value Rest

pub record Meaning (Value Rest : Type 0) : Type 0 where
  -- the value of a bare let, and of a chain that is cut short
  pub undefined : Value
  -- "Literals and functions don't read the store" (1, 2; ECMA-262 13.2.3.1, 15.2.6). Nor does an elision (27), which does
  -- nothing (13.2.4.1), nor a property of one child (26), which defines a property of a fresh object (13.2.5.5): demand 3
  -- needs this, and document 01 doesn't state it.
  pub constant : Step Value → Value
  -- "an unmarked one reads only"
  pub reads : Step Value → Store Value Rest → Value
  -- "which side, or whether a compound's value, runs is part of the meaning, a choice that only reads". It has in hand what
  -- the node's first child gave.
  pub chooses : Step Value → Store Value Rest → Bool
  -- a marked step
  pub acts : Step Value → Store Value Rest → Act Value Rest
