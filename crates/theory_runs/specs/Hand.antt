-- What a step has in hand: "what its children that ran gave, in order; a target of kind 29 or 30 gives its label too, and
-- a member called, tagged, deleted or assigned to gives its object and key too".
use Rattle.std.specs.Prelude.{ℕ, List, [], ◌∷◌}

-- the key of a member: the label of a static (10) or a private one (11), the value of a computed one (12) (ECMA-262 13.3.2.1,
-- 13.3.3, 13.3.4)
pub data Key (Value : Type 0) : Type 0 where
  static private : ℕ → Key Value
  computed : Value → Key Value

-- What a child gives beside its value: nothing; that it is bare `eval`; the number of a target name (29); the label of an
-- opaque target (30); a member's object and key. So a name's number and a label are never mixed up. (ECMA-262 6.2.5: a
-- reference has a base and a name, and an assignment, a deletion or a call of it goes by both.)
pub data Beside (Value : Type 0) : Type 0 where
  nothing bare_eval : Beside Value
  target_name opaque_target : ℕ → Beside Value
  member : Value → Key Value → Beside Value

pub record Given (Value : Type 0) : Type 0 where
  pub value : Value
  pub beside : Beside Value

abbrev pub Hand : Type 0 → Type 0
Hand Value = List (Given Value)

-- a value and no more
abbrev pub only : {Value : Type 0} → Value → Given Value
only w = record { value = w; beside = nothing }

-- the first of what is in hand, and the value of the last; this value, where nothing is in hand
unfoldable pub first_or : {Value : Type 0} → Value → Hand Value → Given Value
first_or w [] = only w
first_or w (h ∷ hs) = h

unfoldable pub last_or : {Value : Type 0} → Value → Hand Value → Value
last_or w [] = w
last_or w (h ∷ hs) = last_or h.value hs
