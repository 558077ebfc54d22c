-- The run of declarators, of statements and of a file.
use Rattle.std.specs.Prelude.{ℕ, Bool, true, cond, List, [], ◌∷◌, reverse, eqb}
use Rattle.records.specs.Limits.{no_number}
use Rattle.records.specs.File.{DeclarationKind, Var, Let, Const, Using, AwaitUsing, Initializer, bare, given, Declarator, Statement, declaration, expression, other, File}
use Rattle.records.specs.declared.layout.NameFacts.{NameFacts}
use Rattle.theory_runs.specs.Store.{Store, set}
use Rattle.theory_runs.specs.Hand.{Hand, only}
use Rattle.theory_runs.specs.Step.{value, of_declarator, of_other, Step}
use Rattle.theory_runs.specs.Meaning.{Meaning}
use Rattle.theory_runs.specs.State.{Log, State, Out, gave, cut, stop, Part, bind}
use Rattle.theory_runs.specs.Run.{stepped, run}

-- a declarator whose name is a pattern
abbrev pub is_pattern : ℕ → Bool
is_pattern name = eqb name no_number

-- a name is set; a pattern sets none
unfoldable pub sets : {Value Rest : Type 0} → ℕ → Value → Part Value Rest (Unit {0})
sets name w s = gave tt (cond (is_pattern name) s (record { store = set name w s.store; log = s.log }))

-- a statement gives a value
unfoldable pub gives : {Value Rest : Type 0} → Value → Part Value Rest (Unit {0})
gives w s = gave tt (record { store = s.store; log = record { steps = s.log.steps; values = w ∷ s.log.values } })

module _ {Value Rest : Type 0} (m : Meaning Value Rest) where
  -- the marked step of a declarator, "which may also bind names"; no one has its value in hand
  unfoldable pub binds : DeclarationKind → ℕ → Hand Value → Part Value Rest (Unit {0})
  binds k name hs s = bind (stepped m true (record { origin = of_declarator k name; hand = hs }) s) (λ w s'. gave tt s')

  -- "a bare let undefined; a bare var sets nothing, nor does a bare const or pattern, which no script has" (ECMA-262 14.3.1.2,
  -- 14.3.2.1); "Any using makes a marked step"
  unfoldable pub declares_bare : DeclarationKind → ℕ → Part Value Rest (Unit {0})
  declares_bare Var name s = gave tt s
  declares_bare Let name s = sets name m.undefined s
  declares_bare Const name s = gave tt s
  declares_bare Using name s = binds Using name [] s
  declares_bare AwaitUsing name s = binds AwaitUsing name [] s

  -- "Any other declarator sets its name" (ECMA-262 14.3.1.2, 14.3.2.1); "a pattern with an initializer .. makes a marked step"
  -- (8.6.2); "A declarator's step has its initializer's value in hand"
  unfoldable pub declares_with : DeclarationKind → ℕ → Value → Part Value Rest (Unit {0})
  declares_with Var name w s = cond (is_pattern name) (binds Var name (only w ∷ []) s) (sets name w s)
  declares_with Let name w s = cond (is_pattern name) (binds Let name (only w ∷ []) s) (sets name w s)
  declares_with Const name w s = cond (is_pattern name) (binds Const name (only w ∷ []) s) (sets name w s)
  declares_with Using name w s = binds Using name (only w ∷ []) s
  declares_with AwaitUsing name w s = binds AwaitUsing name (only w ∷ []) s

module _ {Value Rest : Type 0} (names : List NameFacts) (m : Meaning Value Rest) where
  unfoldable pub run_declarator : DeclarationKind → ℕ → Initializer → Part Value Rest (Unit {0})
  run_declarator k name bare s = declares_bare m k name s
  run_declarator k name (given t) s = bind (run names m t value s) (λ x s'. declares_with m k name x.value s')

  unfoldable pub run_declarators : DeclarationKind → List Declarator → Part Value Rest (Unit {0})
  run_declarators k [] s = gave tt s
  run_declarators k (d ∷ ds) s = bind (run_declarator k d.name d.initializer s) (λ u s'. run_declarators k ds s')

  -- "An expression statement gives its tree's value, a kind 6 statement its step's; a declaration, or a statement not
  -- finished, gives nothing" (ECMA-262 14.5.1, 14.3). "a kind 6 statement's step [has] none" in hand.
  unfoldable pub run_statement : Statement → Part Value Rest (Unit {0})
  run_statement (declaration k ds) s = run_declarators k ds s
  run_statement (expression t) s = bind (run names m t value s) (λ x s'. gives x.value s')
  run_statement other s = bind (stepped m true (record { origin = of_other; hand = [] }) s) (λ w s'. gives w s')

  unfoldable pub run_statements : List Statement → Part Value Rest (Unit {0})
  run_statements [] s = gave tt s
  run_statements (t ∷ ts) s = bind (run_statement t s) (λ u s'. run_statements ts s')

-- how a run ends
pub data End (Value Rest : Type 0) : Type 0 where
  stopped : End Value Rest
  ended : Store Value Rest → End Value Rest

-- A whole run: the list of steps in the order made; the values that statements gave, in order; its end.
pub record Ran (Value Rest : Type 0) : Type 0 where
  pub steps : List (Step Value)
  pub values : List Value
  pub end : End Value Rest

unfoldable pub whole : {Value Rest : Type 0} → Log Value → End Value Rest → Ran Value Rest
whole l e = record { steps = reverse l.steps; values = reverse l.values; end = e }

-- (The run of an accepted file is never cut short: "An optional node reaches a 13 above it".)
unfoldable pub ran : {Value Rest : Type 0} → Out Value Rest (Unit {0}) → Ran Value Rest
ran (gave u s) = whole s.log (ended s.store)
ran (cut s) = whole s.log (ended s.store)
ran (stop l) = whole l stopped

-- where a run from a store begins
unfoldable pub begin : {Value Rest : Type 0} → Store Value Rest → State Value Rest
begin s = record { store = s; log = record { steps = []; values = [] } }

unfoldable pub run_file : {Value Rest : Type 0} → Meaning Value Rest → File → Store Value Rest → Ran Value Rest
run_file m f s = ran (run_statements f.names m f.statements (begin s))
