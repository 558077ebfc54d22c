-- "A store gives each name a value or none and holds whatever else steps read or change."
use Rattle.std.specs.Prelude.{ℕ, cond, eqb}

-- Values are of any type, of which "none" is one; so is what else a store holds. (ECMA-262 9.1: a name's value stands in an
-- environment record.)
pub record Store (Value Rest : Type 0) : Type 0 where
  pub names : ℕ → Value
  pub rest : Rest

-- the store in which a name has this value
unfoldable pub set : {Value Rest : Type 0} → ℕ → Value → Store Value Rest → Store Value Rest
set name w s = record { names = λ n. cond (eqb n name) w (s.names n); rest = s.rest }
