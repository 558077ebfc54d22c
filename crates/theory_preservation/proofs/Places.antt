-- The three places of a tree behind a declarator: the next declarator's initializer, an expression statement, the first
-- initializer of the next declaration.
use Prim.Native.Nat.{ℕ}
use mathlib.Core.Bool.{false}
use mathlib.Core.List.{List, [], ◌∷◌, ◌++◌}
use mathlib.Core.Path.{◌≡◌, ◌∙◌}
use lib.Dec.{eqb}
use Rattle.records.specs.Tree.{Tree}
use Rattle.records.specs.File.{DeclarationKind, given, Declarator, Statement, declaration, expression}
use Rattle.records.specs.declared.layout.NameFacts.{NameFacts}
use Rattle.walk_rules.specs.Context.{context_of}
use Rattle.walk_rules.specs.Substitute.{replaced, substitute_in_expression}
use Rattle.statements_rules.specs.Declarators.{is_using, with_tree}
use Rattle.theory_runs.specs.Step.{value}
use Rattle.theory_runs.specs.Meaning.{Meaning}
use Rattle.theory_runs.specs.State.{State, Out, gave, bind}
use Rattle.theory_runs.specs.Run.{run}
use Rattle.theory_runs.specs.Script.{is_pattern, declares_with, run_declarator, run_declarators, gives, run_statement, run_statements}
use Rattle.theory_preservation.proofs.Setting.{Setting}
use Rattle.theory_preservation.proofs.Passing.{Forgets, bind_assoc, gave-bind, drop}
use Rattle.theory_preservation.proofs.Placing as P
use Rattle.theory_preservation.proofs.Asked.{Asked}
use Rattle.theory_preservation.proofs.Program.{FreeDeclarators, FreeStatements, then-on, declarators-on, statements-on, with_on, gives-on}
use Rattle.theory_preservation.proofs.Site.{rest-run, fold_site}

pub data Place : Type 0 where
  -- the initializer of this declarator, before these
  declarator : Declarator → List Declarator → Place
  -- an expression statement
  statement : Place
  -- the initializer of this declarator, the first of another declaration, before these
  initializer : DeclarationKind → Declarator → List Declarator → Place

-- the declarators and the statements that stand there, with a tree in that place
unfoldable pub declarators_at : Place → Tree → List Declarator
declarators_at (declarator d ds) t = with_tree d t ∷ ds
declarators_at statement t = []
declarators_at (initializer k d ds) t = []

unfoldable pub statements_at : Place → Tree → List Statement → List Statement
statements_at (declarator d ds) t after = after
statements_at statement t after = expression t ∷ after
statements_at (initializer k d ds) t after = declaration k (with_tree d t ∷ ds) ∷ after

-- what stands behind the place doesn't use v, nor declare it
abbrev pub FreeBehind : ℕ → Place → List Statement → Type 0
FreeBehind v (declarator d ds) after = (eqb d.name v ≡ false) × FreeDeclarators v ds × FreeStatements v after
FreeBehind v statement after = FreeStatements v after
FreeBehind v (initializer k d ds) after = (eqb d.name v ≡ false) × FreeDeclarators v ds × FreeStatements v after

module _ {Value Rest : Type 0} (names : List NameFacts) (m : Meaning Value Rest) where
  -- what runs behind the tree, by its value
  unfoldable pub behind : DeclarationKind → Place → List Statement → Value → State Value Rest → Out Value Rest (Unit {0})
  behind k (declarator d ds) after w s = bind (declares_with m k d.name w s) (λ u s'. rest-run names m k ds after s')
  behind k statement after w s = bind (gives w s) (λ u s'. run_statements names m after s')
  behind k (initializer k' d ds) after w s = bind (declares_with m k' d.name w s) (λ u s'. rest-run names m k' ds after s')

  initializer-run : (k : DeclarationKind) (d : Declarator) (ds : List Declarator) (after : List Statement) (t : Tree) (s : State Value Rest) → rest-run names m k (with_tree d t ∷ ds) after s ≡ bind (run names m t value s) (λ x s'. bind (declares_with m k d.name x.value s') (λ u s''. rest-run names m k ds after s''))
  unfolding run_declarators run_declarator
  initializer-run k d ds after t s =
      bind_assoc (bind (run names m t value s) (λ x s'. declares_with m k d.name x.value s')) (λ u s'. run_declarators names m k ds s') (λ u s'. run_statements names m after s')
      ∙ bind_assoc (run names m t value s) (λ x s'. declares_with m k d.name x.value s') (λ u s'. rest-run names m k ds after s')

  expression-run : (k : DeclarationKind) (after : List Statement) (t : Tree) (s : State Value Rest) → rest-run names m k [] (expression t ∷ after) s ≡ bind (run names m t value s) (λ x s'. bind (gives x.value s') (λ u s''. run_statements names m after s''))
  unfolding run_declarators run_statements run_statement
  expression-run k after t s =
      gave-bind tt s (λ u s'. bind (bind (run names m t value s') (λ x s''. gives x.value s'')) (λ u s''. run_statements names m after s''))
      ∙ bind_assoc (run names m t value s) (λ x s'. gives x.value s') (λ u s'. run_statements names m after s')

  declaration-run : (k k' : DeclarationKind) (ds : List Declarator) (after : List Statement) (s : State Value Rest) → rest-run names m k [] (declaration k' ds ∷ after) s ≡ rest-run names m k' ds after s
  unfolding run_declarators run_statements run_statement
  declaration-run k k' ds after s = gave-bind tt s (λ u s'. rest-run names m k' ds after s')

  pub place-run : (k : DeclarationKind) (p : Place) (after : List Statement) (t : Tree) (s : State Value Rest) → rest-run names m k (declarators_at p t) (statements_at p t after) s ≡ bind (run names m t value s) (λ x s'. behind k p after x.value s')
  unfolding declarators_at statements_at behind
  place-run k (declarator d ds) after t s = initializer-run k d ds after t s
  place-run k statement after t s = expression-run k after t s
  place-run k (initializer k' d ds) after t s = declaration-run k k' (with_tree d t ∷ ds) after s ∙ initializer-run k' d ds after t s

module _ {Value Rest : Type 0} (σ : Setting Value Rest) where
  open σ use {file, m, v, r}

  abbrev names : List NameFacts
  names = file.names

  rest-on : (k : DeclarationKind) (ds : List Declarator) (after : List Statement) → FreeDeclarators v ds → FreeStatements v after → Forgets σ (rest-run names m k ds after)
  rest-on k ds after h g = then-on σ (run_declarators names m k ds) (λ u s'. run_statements names m after s') (declarators-on σ k ds h) (λ u. statements-on σ after g)

  behind-on : (k : DeclarationKind) (p : Place) (after : List Statement) → FreeBehind v p after → (w : Value) → Forgets σ (behind names m k p after w)
  unfolding behind
  behind-on k (declarator d ds) after (e, h, g) w = then-on σ (declares_with m k d.name w) (λ u s'. rest-run names m k ds after s') (with_on σ k d.name w e) (λ u. rest-on k ds after h g)
  behind-on k statement after g w = then-on σ (gives w) (λ u s'. run_statements names m after s') (gives-on σ w) (λ u. statements-on σ after g)
  behind-on k (initializer k' d ds) after (e, h, g) w = then-on σ (declares_with m k' d.name w) (λ u s'. rest-run names m k' ds after s') (with_on σ k' d.name w e) (λ u. rest-on k' ds after h g)

  -- One fold in a program keeps its run, the value of v apart.
  pub fold-program : (before : List Statement) (k : DeclarationKind) (ds : List Declarator) (p : Place) (after : List Statement) (t t' : Tree) (s₀ : State Value Rest)
      → is_using k ≡ false → is_pattern v ≡ false → Asked σ t → substitute_in_expression (context_of file) v r t ≡ replaced t' → FreeBehind v p after
      → ((s : State Value Rest) → run_statements names m (before ++ (declaration k ds ∷ [])) s₀ ≡ gave tt s → P.FairAt σ s t)
      → drop σ (run_statements names m (before ++ (declaration k (ds ++ (record { name = v; initializer = given r } ∷ declarators_at p t)) ∷ statements_at p t after)) s₀)
      ≡ drop σ (run_statements names m (before ++ (declaration k (ds ++ declarators_at p t') ∷ statements_at p t' after)) s₀)
  fold-program before k ds p after t t' s₀ e g a q h u =
      fold_site σ before k ds (declarators_at p t) (declarators_at p t') (statements_at p t after) (statements_at p t' after) t t' (behind names m k p after) s₀ e g a q (place-run names m k p after t) (place-run names m k p after t') (behind-on k p after h) u
