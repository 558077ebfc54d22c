-- The steps and choices that a file can make: all that a run of it can come to, whichever way choices go, with any values in
-- hand; any chain counts as one that may be cut short. The definitions follow Run and Script. The facts are asked of these
-- alone; that none is missing is part of the proof of demand 3.
use Rattle.std.specs.Prelude.{ℕ, Bool, true, false, ◌&&◌, ◌||◌, not, List, [], ◌∷◌, eqb}
use Rattle.std.specs.Bool.{beq}
use Rattle.records.specs.Tree.{Node, Tree, Trees, node, none, more}
use Rattle.records.specs.File.{DeclarationKind, Initializer, bare, given, Statement, declaration, expression, other, File, kind_number}
use Rattle.records.specs.declared.layout.NameFacts.{NameFacts}
use Rattle.statements_rules.specs.Declarators.{is_using}
use Rattle.theory_runs.specs.Step.{Role, value, target, deleted, Origin, of_node, of_declarator, of_other, Step}
use Rattle.theory_runs.specs.Form.{cleared, is_marked, Choice, never, logical, conditional, optionally, Form, constant, name, target_name, leaf, chain, property, importing, sequence, assignment, stepping, form, choice_of, first_role, origin_of}
use Rattle.theory_runs.specs.Run.{Turn, all, skipped, second, third, resolved, is_read}
use Rattle.theory_runs.specs.Script.{is_pattern}
use Rattle.theory_runs.specs.InHand.{are_values, may_have}

-- What a meaning is asked: which way a choice goes; what a step does, marked or not.
pub data Asked : Type 0 where
  choice : Asked
  step : Bool → Asked

unfoldable pub is_marked_step : Asked → Bool
is_marked_step choice = false
is_marked_step (step marked) = marked

unfoldable pub is_made : Choice → Bool
is_made never = false
is_made logical = true
is_made conditional = true
is_made optionally = true

-- Whether a node makes a step of its own that is marked, or one that only reads, as an import's does: `own`, line by line. It
-- makes none where it gives a constant, what the store holds, or what a child gave.
unfoldable pub makes_own : Bool → List NameFacts → Form → Node → Role → Bool
makes_own marked names constant n role = false
makes_own marked names name n role = not (resolved names n.label) && beq marked (is_marked n)
makes_own marked names target_name n role = not (resolved names n.label && is_read role) && beq marked (is_marked n)
makes_own marked names leaf n role = beq marked (is_marked n)
makes_own marked names chain n role = false
makes_own marked names property n role = false
makes_own marked names importing n role = not marked
makes_own marked names sequence n role = false
makes_own marked names (assignment c) n role = marked
makes_own marked names (stepping c) n role = beq marked (is_marked n)

unfoldable pub asks : Asked → List NameFacts → Form → Node → Role → Bool
asks choice names f n role = is_made (choice_of f)
asks (step marked) names f n role = makes_own marked names f n role

-- whether a test holds of a turn that the children behind the first can have taken when the meaning is asked this: at a
-- choice none of them has run, at a step those chosen
unfoldable pub some_turn : Asked → Choice → (Turn → Bool) → Bool
some_turn choice c test = test skipped
some_turn (step marked) never test = test all
some_turn (step marked) logical test = test all || test skipped
some_turn (step marked) conditional test = test second || test third
some_turn (step marked) optionally test = test all

unfoldable pub role_number : Role → ℕ
role_number value = 0
role_number target = 1
role_number deleted = 2

-- "Two steps are the same if they come from nodes of one kind, label and flags, from declarators of one statement kind and
-- name, or from kind 6 statements", and here from nodes that are evaluated for the same.
unfoldable pub same_origin : Origin → Origin → Bool
same_origin (of_node kind label flags role) (of_node kind' label' flags' role') =
    eqb kind kind' && eqb label label' && eqb flags flags' && eqb (role_number role) (role_number role')
same_origin (of_node kind label flags role) (of_declarator k a) = false
same_origin (of_node kind label flags role) of_other = false
same_origin (of_declarator k a) (of_node kind label flags role) = false
same_origin (of_declarator k a) (of_declarator k' a') = eqb (kind_number k) (kind_number k') && eqb a a'
same_origin (of_declarator k a) of_other = false
same_origin of_other (of_node kind label flags role) = false
same_origin of_other (of_declarator k a) = false
same_origin of_other of_other = true

unfoldable pub some : {A : Type 0} → (A → Bool) → List A → Bool
some test [] = false
some test (a ∷ rest) = test a || some test rest

-- Whether this step or choice is made:
module _ {Value : Type 0} (names : List NameFacts) (d : Asked) (x : Step Value) where
  -- by a node over these children, evaluated for this
  unfoldable pub makes_here : Node → Role → Trees → Bool
  makes_here n role kids =
      some_turn d (choice_of (form n)) (λ w. may_have names n w kids x.hand) && asks d names (form n) n role && same_origin (origin_of n role) x.origin

  -- in a tree; in a row of trees, of which the first is evaluated for this and the others for their values
  unfoldable mutual
    pub makes_in : Tree → Role → Bool
    makes_in (node n kids) role = makes_here (cleared n) role kids || makes_in_forest kids (first_role (form (cleared n)) (cleared n) role)

    pub makes_in_forest : Trees → Role → Bool
    makes_in_forest none role = false
    makes_in_forest (more t ts) role = makes_in t role || makes_in_forest ts value

  -- as a marked step of this origin, with the values of these trees in hand
  unfoldable pub makes_marked : Origin → Trees → Bool
  makes_marked o ts = are_values all ts x.hand && is_marked_step d && same_origin o x.origin

  -- "Any using makes a marked step"; "a pattern with an initializer .. makes a marked step"
  unfoldable pub makes_declarator : DeclarationKind → ℕ → Initializer → Bool
  makes_declarator k a bare = is_using k && makes_marked (of_declarator k a) none
  makes_declarator k a (given t) = makes_in t value || (is_using k || is_pattern a) && makes_marked (of_declarator k a) (more t none)

  unfoldable pub makes_statement : Statement → Bool
  makes_statement (declaration k ds) = some (λ e. makes_declarator k e.name e.initializer) ds
  makes_statement (expression t) = makes_in t value
  makes_statement other = makes_marked of_other none

unfoldable pub makes : {Value : Type 0} → Asked → File → Step Value → Bool
makes d f x = some (makes_statement f.names d x) f.statements

-- a step that only reads, a choice and a marked step of the file
abbrev pub makes_read : {Value : Type 0} → File → Step Value → Bool
makes_read f x = makes (step false) f x

abbrev pub makes_choice : {Value : Type 0} → File → Step Value → Bool
makes_choice f x = makes choice f x

abbrev pub makes_act : {Value : Type 0} → File → Step Value → Bool
makes_act f x = makes (step true) f x
