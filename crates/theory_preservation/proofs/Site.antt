-- One fold in a program: the declarator goes, its initializer stands in the tree behind it, and the run is the same but for
-- the value of the name.
use mathlib.Core.Bool.{true, false}
use mathlib.Core.List.{List, [], ◌∷◌, ◌++◌}
use mathlib.Core.Path.{◌≡◌, refl, sym, ap, ◌∙◌}
use Rattle.records.specs.Tree.{Tree}
use Rattle.records.specs.File.{DeclarationKind, Var, Let, Const, Using, AwaitUsing, given, Declarator, Statement, declaration}
use Rattle.records.specs.declared.layout.NameFacts.{NameFacts}
use Rattle.records.proofs.Tests.{clash}
use Rattle.walk_rules.specs.Context.{context_of}
use Rattle.walk_rules.specs.Substitute.{replaced, substitute_in_expression}
use Rattle.statements_rules.specs.Declarators.{is_using}
use Rattle.theory_runs.specs.Hand.{Given}
use Rattle.theory_runs.specs.Step.{value}
use Rattle.theory_runs.specs.Meaning.{Meaning}
use Rattle.theory_runs.specs.State.{State, Out, gave, cut, stop, bind}
use Rattle.theory_runs.specs.Run.{run}
use Rattle.theory_runs.specs.Script.{is_pattern, sets, declares_with, run_declarator, run_declarators, run_statement, run_statements}
use Rattle.theory_preservation.proofs.Frame.{moved}
use Rattle.theory_preservation.proofs.Setting.{Setting}
use Rattle.theory_preservation.proofs.Passing.{Put, Forgets, bind_assoc, bind-same, gave-bind, first, drop}
use Rattle.theory_preservation.proofs.Placing as P
use Rattle.theory_preservation.proofs.Asked.{Asked}
use Rattle.theory_preservation.proofs.OneFold.{one-fold}

-- Parts of programs, one after the other.
module _ {Value Rest : Type 0} (names : List NameFacts) (m : Meaning Value Rest) where
  abbrev State' : Type 0
  State' = State Value Rest

  unit_bind : (o : Out Value Rest (Unit {0})) → bind o (λ u s. gave tt s) ≡ o
  unfolding bind
  unit_bind (gave tt s) = refl
  unit_bind (cut s) = refl
  unit_bind (stop l) = refl

  declarators-append : (k : DeclarationKind) (ds es : List Declarator) (s : State') → run_declarators names m k (ds ++ es) s ≡ bind (run_declarators names m k ds s) (λ u s'. run_declarators names m k es s')
  unfolding run_declarators
  declarators-append k [] es s = sym (gave-bind tt s (λ u s'. run_declarators names m k es s'))
  declarators-append k (d ∷ ds) es s =
      bind-same (run_declarator names m k d.name d.initializer s) _ _ (λ u s'. declarators-append k ds es s')
      ∙ sym (bind_assoc (run_declarator names m k d.name d.initializer s) (λ u s'. run_declarators names m k ds s') (λ u s'. run_declarators names m k es s'))

  pub statements-append : (ss ts : List Statement) (s : State') → run_statements names m (ss ++ ts) s ≡ bind (run_statements names m ss s) (λ u s'. run_statements names m ts s')
  unfolding run_statements
  statements-append [] ts s = sym (gave-bind tt s (λ u s'. run_statements names m ts s'))
  statements-append (t ∷ ss) ts s =
      bind-same (run_statement names m t s) _ _ (λ u s'. statements-append ss ts s')
      ∙ sym (bind_assoc (run_statement names m t s) (λ u s'. run_statements names m ss s') (λ u s'. run_statements names m ts s'))

  -- the rest of a declaration and what stands behind it
  abbrev pub rest-run : DeclarationKind → List Declarator → List Statement → State' → Out Value Rest (Unit {0})
  rest-run k es after s = bind (run_declarators names m k es s) (λ u s'. run_statements names m after s')

  one-declaration : (k : DeclarationKind) (ds : List Declarator) (s : State') → run_statements names m (declaration k ds ∷ []) s ≡ run_declarators names m k ds s
  unfolding run_statements run_statement
  one-declaration k ds s = unit_bind (run_declarators names m k ds s)

  declaration-then : (k : DeclarationKind) (ds : List Declarator) (after : List Statement) (s : State') → run_statements names m (declaration k ds ∷ after) s ≡ rest-run k ds after s
  unfolding run_statements run_statement
  declaration-then k ds after s = refl

  -- a program, cut in two within a declaration
  pub at_site : (before : List Statement) (k : DeclarationKind) (ds es : List Declarator) (after : List Statement) (s : State') → run_statements names m (before ++ (declaration k (ds ++ es) ∷ after)) s ≡ bind (run_statements names m (before ++ (declaration k ds ∷ [])) s) (λ u s'. rest-run k es after s')
  at_site before k ds es after s =
      statements-append before (declaration k (ds ++ es) ∷ after) s
      ∙ bind-same (run_statements names m before s) _ _ (λ u s'. declaration-then k (ds ++ es) after s' ∙ ap (λ o. bind o (λ u s''. run_statements names m after s'')) (declarators-append k ds es s') ∙ bind_assoc (run_declarators names m k ds s') (λ u s''. run_declarators names m k es s'') (λ u s''. run_statements names m after s''))
      ∙ sym (bind_assoc (run_statements names m before s) (λ u s'. run_declarators names m k ds s') (λ u s'. rest-run k es after s'))
      ∙ ap (λ o. bind o (λ u s'. rest-run k es after s')) (sym (statements-append before (declaration k ds ∷ []) s ∙ bind-same (run_statements names m before s) _ _ (λ u s'. one-declaration k ds s')))

module _ {Value Rest : Type 0} (σ : Setting Value Rest) where
  open σ use {file, m, v, r, nothing_hidden}

  abbrev S : Type 0
  S = State Value Rest

  abbrev O : Type 0 → Type 0
  O A = Out Value Rest A

  abbrev names : List NameFacts
  names = file.names

  abbrev D : {A : Type 0} → O A → O A
  D o = drop σ o

  abbrev go : Tree → S → O (Given Value)
  go t s = run names m t value s

  -- the declarator of v sets it to r's value
  sets-put : (w : Value) (s : S) → is_pattern v ≡ false → sets v w s ≡ gave tt (moved (Put v w) s)
  unfolding sets moved Put
  sets-put w s e = rw e

  declares-put : (k : DeclarationKind) (w : Value) (s : S) → is_using k ≡ false → is_pattern v ≡ false → declares_with m k v w s ≡ gave tt (moved (Put v w) s)
  unfolding declares_with is_using
  declares-put Var w s e g = rw g (sets-put w s g)
  declares-put Let w s e g = rw g (sets-put w s g)
  declares-put Const w s e g = rw g (sets-put w s g)
  declares-put Using w s e g = clash true e refl
  declares-put AwaitUsing w s e g = clash true e refl

  declared-first : {A : Type 0} (k : DeclarationKind) (C : S → O A) (s : S) → is_using k ≡ false → is_pattern v ≡ false → bind (run_declarator names m k v (given r) s) (λ u s'. C s') ≡ first σ C s
  unfolding run_declarator first
  declared-first k C s e g =
      bind_assoc (go r s) (λ x s'. declares_with m k v x.value s') (λ u s'. C s')
      ∙ bind-same (go r s) _ _ (λ x s'. ap (λ o. bind o (λ u s''. C s'')) (declares-put k x.value s' e g) ∙ gave-bind tt (moved (Put v x.value) s') (λ u s''. C s''))

  abbrev declarator : Declarator
  declarator = record { name = v; initializer = given r }

  first_of : (k : DeclarationKind) (es : List Declarator) (after : List Statement) (s : S) → rest-run names m k (declarator ∷ es) after s ≡ bind (run_declarator names m k v (given r) s) (λ u s'. rest-run names m k es after s')
  unfolding run_declarators
  first_of k es after s = bind_assoc (run_declarator names m k v (given r) s) (λ u s'. run_declarators names m k es s') (λ u s'. run_statements names m after s')

  -- where t is what runs behind the declarator
  abbrev pub Behind : (S → O (Unit {0})) → Tree → (Value → S → O (Unit {0})) → Type 0
  Behind c t K = (s : S) → c s ≡ bind (go t s) (λ x s'. K x.value s')

  same_at : {A B : Type 0} (o : O A) (f g : A → S → O B) → ((a : A) (s : S) → o ≡ gave a s → D (f a s) ≡ D (g a s)) → D (bind o f) ≡ D (bind o g)
  unfolding bind
  same_at (gave a s) f g h = h a s refl
  same_at (cut s) f g h = refl
  same_at (stop l) f g h = refl

  -- the fold of a declarator into a tree behind it, whatever comes behind that tree, keeps the run but for v
  pub fold_site : (before : List Statement) (k : DeclarationKind) (ds es es' : List Declarator) (after after' : List Statement) (t t' : Tree) (K : Value → S → O (Unit {0})) (s₀ : S)
      → is_using k ≡ false → is_pattern v ≡ false → Asked σ t → substitute_in_expression (context_of file) v r t ≡ replaced t'
      → Behind (rest-run names m k es after) t K → Behind (rest-run names m k es' after') t' K → ((w : Value) → Forgets σ (K w))
      → ((s : S) → run_statements names m (before ++ (declaration k ds ∷ [])) s₀ ≡ gave tt s → P.FairAt σ s t)
      → D (run_statements names m (before ++ (declaration k (ds ++ (declarator ∷ es)) ∷ after)) s₀) ≡ D (run_statements names m (before ++ (declaration k (ds ++ es') ∷ after')) s₀)
  fold_site before k ds es es' after after' t t' K s₀ e g a q b b' f u =
      ap D (at_site names m before k ds (declarator ∷ es) after s₀)
      ∙ same_at (run_statements names m (before ++ (declaration k ds ∷ [])) s₀) _ _ (λ w s z.
      ap D (first_of k es after s ∙ bind-same (run_declarator names m k v (given r) s) _ _ (λ u s'. b s') ∙ declared-first k (λ s'. bind (go t s') (λ x s''. K x.value s'')) s e g)
      ∙ one-fold σ t t' a q K f s (u s (tt_gave w s z))
      ∙ ap D (sym (b' s)))
      ∙ ap D (sym (at_site names m before k ds es' after' s₀))
    where
      tt_gave : (w : Unit {0}) (s : S) → run_statements names m (before ++ (declaration k ds ∷ [])) s₀ ≡ gave w s → run_statements names m (before ++ (declaration k ds ∷ [])) s₀ ≡ gave tt s
      tt_gave tt s z = z
