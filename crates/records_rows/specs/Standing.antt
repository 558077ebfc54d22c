-- The table by which children are judged: two sets of entries for each kind.
use Rattle.std.specs.Prelude.{ℕ, List, [], ◌∷◌}

-- Expressions: kinds 0 to 24, and 28, none of them unchained.
abbrev any_expression : ℕ
any_expression = 72432894006875477

-- expressions, unchained or not
abbrev objects : ℕ
objects = 217298682020626431

-- members (10, 11, 12) and calls (14) that aren't unchained
abbrev chain_elements : ℕ
chain_elements = 290455552

-- members and calls, unchained or not
abbrev chained : ℕ
chained = 871366656

-- members (10, 11, 12) and targets (29, 30)
abbrev targets : ℕ
targets = 1441151880780578816

-- expressions, spreads (25) and elisions (27)
abbrev elements : ℕ
elements = 91573192423200085

-- spreads (25) and properties (26)
abbrev properties : ℕ
properties = 5629499534213120

-- expressions and spreads (25)
abbrev arguments : ℕ
arguments = 73558793913718101

-- two sets for each kind: what may stand as its first child, except under a shorthand, and what as a later one
unfoldable pub standing : List ℕ
standing =
    any_expression ∷ any_expression ∷  -- 0 other
    any_expression ∷ any_expression ∷  -- 1 literal
    any_expression ∷ any_expression ∷  -- 2 function
    any_expression ∷ any_expression ∷  -- 3 class
    any_expression ∷ any_expression ∷  -- 4 name
    any_expression ∷ any_expression ∷  -- 5 this
    any_expression ∷ any_expression ∷  -- 6 await
    any_expression ∷ any_expression ∷  -- 7 yield
    any_expression ∷ any_expression ∷  -- 8 import
    any_expression ∷ any_expression ∷  -- 9 unary
    objects ∷ any_expression ∷  -- 10 static member
    objects ∷ any_expression ∷  -- 11 private member
    objects ∷ any_expression ∷  -- 12 computed member
    chained ∷ chain_elements ∷  -- 13 chain
    objects ∷ arguments ∷  -- 14 call
    any_expression ∷ arguments ∷  -- 15 new
    any_expression ∷ any_expression ∷  -- 16 binary
    any_expression ∷ any_expression ∷  -- 17 logical
    any_expression ∷ any_expression ∷  -- 18 private in
    any_expression ∷ any_expression ∷  -- 19 conditional
    targets ∷ any_expression ∷  -- 20 assignment
    elements ∷ elements ∷  -- 21 array
    properties ∷ properties ∷  -- 22 object
    any_expression ∷ any_expression ∷  -- 23 template
    any_expression ∷ any_expression ∷  -- 24 tagged template
    any_expression ∷ any_expression ∷  -- 25 spread
    any_expression ∷ any_expression ∷  -- 26 property
    any_expression ∷ any_expression ∷  -- 27 elision
    any_expression ∷ any_expression ∷  -- 28 sequence
    any_expression ∷ any_expression ∷  -- 29 target name
    any_expression ∷ any_expression ∷  -- 30 opaque target
    []
