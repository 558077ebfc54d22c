-- Names that are unsettled, and where `this` blocks: each reason beside what is none.
use Prim.Native.Nat.{ℕ}
use mathlib.Core.Path.{◌≡◌, refl}
use mathlib.Core.Bool.{Bool, true, false}
use mathlib.Core.List.{List, [], ◌∷◌, map}
use Rattle.records.specs.Limits.{no_number, no_position}
use Rattle.records.specs.declared.layout.NameFacts.{NameFacts}
use Rattle.records.specs.declared.layout.Scope.{Scope}
use Rattle.records.specs.declared.layout.Frame.{Frame}
use Rattle.walk_rules.specs.Unsettled.{unsettled}
use Rattle.walk_rules.specs.This.{this_blocks}
use Rattle.walk_rules.proofs.Build.{facts, unresolved_name, outermost, inner}
use Rattle.walk_rules.proofs.Computed.{computed}

-- a name, the scopes and the current one, the options; and whether the name is unsettled
pub record NameCase : Type 0 where
  pub name : NameFacts
  pub scopes : List Scope
  pub current_scope : ℕ
  pub options : ℕ
  pub answer : Bool

abbrev answer_to : NameCase → Bool
answer_to c = unsettled (record {
  options = c.options;
  current_scope = c.current_scope;
  this_scope = no_number;
  names = c.name ∷ [];
  scopes = c.scopes;
  frames = [];
}) 0

abbrev name_case : NameFacts → List Scope → ℕ → ℕ → Bool → NameCase
name_case name scopes current_scope options answer =
    record { name = name; scopes = scopes; current_scope = current_scope; options = options; answer = answer }

-- one scope; three, each in the one before it, the second a function's; two side by side below the first
abbrev single : List Scope
single = outermost 0 ∷ []

abbrev nested : List Scope
nested = outermost 0 ∷ inner 0 1 ∷ inner 1 0 ∷ []

abbrev beside : ℕ → List Scope
beside flags = outermost flags ∷ inner 0 0 ∷ inner 0 0 ∷ []

-- (name facts: flags, scope, reads, writes)
pub name_cases : List NameCase
name_cases =
    name_case (facts 0 0 0 0) single 0 0 false
    ∷ name_case unresolved_name single 0 0 true
    ∷ name_case (facts 2 0 0 0) single 0 0 true  -- an import
    ∷ name_case (facts 0 0 0 0) nested 1 1 true  -- of scope 0 in a script
    ∷ name_case (facts 0 1 0 0) nested 1 1 false
    ∷ name_case (facts 16 0 0 1) single 0 0 true  -- written
    ∷ name_case (facts 64 0 0 0) single 0 0 true  -- mutated, without record
    ∷ name_case (facts 80 0 0 0) single 0 0 false  -- the record counts
    ∷ name_case (facts 1 0 0 0) nested 2 0 true  -- read across a function scope
    ∷ name_case (facts 8 0 0 0) nested 2 0 false  -- a var
    ∷ name_case (facts 1 1 0 0) nested 2 0 false  -- the name's own scope isn't counted
    ∷ name_case (facts 1 2 0 0) (beside 0) 1 0 false  -- no ancestor: the climb goes to scope 0
    ∷ name_case (facts 1 2 0 0) (beside 1) 1 0 true
    ∷ []

pub unsettled-names : map answer_to name_cases ≡ map (λ c. c.answer) name_cases
unfolding computed name_cases
unsettled-names = refl

-- the `this` scope, the frames, a position; and whether `this` blocks there
pub record ThisCase : Type 0 where
  pub this_scope : ℕ
  pub frames : List Frame
  pub position : ℕ
  pub answer : Bool

abbrev this_case : ℕ → List Frame → ℕ → Bool → ThisCase
this_case this_scope frames position answer = record { this_scope = this_scope; frames = frames; position = position; answer = answer }

abbrev frame : ℕ → ℕ → Frame
frame scope initialised = record { scope = scope; zero = 0; initialised = initialised }

pub this_cases : List ThisCase
this_cases =
    this_case no_number [] 7 false
    ∷ this_case 1 [] 7 true
    ∷ this_case 1 (frame 0 3 ∷ []) 7 true  -- no frame has the scope
    ∷ this_case 1 (frame 1 7 ∷ []) 7 false  -- initialised at the position
    ∷ this_case 1 (frame 1 8 ∷ []) 7 true
    ∷ this_case 1 (frame 1 no_position ∷ []) 7 true
    ∷ this_case 1 (frame 1 9 ∷ frame 2 3 ∷ []) 7 false  -- a later frame counts
    ∷ this_case 1 (frame 2 3 ∷ frame 1 9 ∷ []) 7 true  -- an earlier one doesn't
    ∷ this_case 1 (frame 1 3 ∷ frame 1 9 ∷ []) 7 true  -- nor an earlier one of the scope
    ∷ []

pub this_blocks_lem : map (λ c. this_blocks c.this_scope c.frames c.position) this_cases ≡ map (λ c. c.answer) this_cases
unfolding computed this_cases
this_blocks_lem = refl
