-- The search from declarators, one declarator after the other.
use Prim.Native.Nat.{ℕ, suc, ◌+◌, ◌≤◌}
use native.Mathlib.Omega.{arith}
use mathlib.Core.Bool.{Bool, true, false, cond}
use mathlib.Core.List.{List, [], ◌∷◌}
use mathlib.Core.Path.{◌≡◌, refl}
use lib.ListN.{length}
use Rattle.records.specs.Tree.{Tree, size}
use Rattle.records.specs.File.{DeclarationKind, Initializer, bare, given, Declarator, Statement}
use Rattle.records.proofs.Tests.{clash}
use Rattle.walk_rules.specs.Context.{Context}
use Rattle.walk_rules.specs.Substitute.{Answer, replaced, stopped, passed, substitute_in_expression}
use Rattle.walk_rules.specs.Looks.{looks_in_expression}
use Rattle.walk_rules.proofs.Sizes.{Sized, sized}
use Rattle.statements_rules.specs.Trace.{pure, looked, folded}
use Rattle.statements_rules.specs.Declarators.{ends_search, ended, FromDeclarators, fold_of, after_answer, from_declarator}
use Rattle.statements_search.specs.Kept.{node_count, folded_names}
use Rattle.statements_search.specs.Try.{Try, by_answer, no_try, try_from}

-- the search ends at a declarator
pub record Ends (d : Declarator) (earlier : List Declarator) (w : FromDeclarators) (step : Try) : Type 0 where
  pub left : w.result.left ≡ d ∷ earlier
  pub target_is : w.result.target ≡ step.target
  pub none : w.trace ≡ []
  pub looks : w.looks ≡ step.looks

-- it goes on before it, with one fold more
pub record Folds (d : Declarator) (w v : FromDeclarators) (step : Try) : Type 0 where
  pub result-is : w.result ≡ v.result
  pub names : folded_names w.trace ≡ d.name ∷ folded_names v.trace
  pub more-folds : length w.trace ≡ suc (length v.trace)
  pub looks : w.looks ≡ step.looks + v.looks

module _ (ctx : Context) (before : List Statement) (kind : DeclarationKind) (literal_only : Bool) (d : Declarator) (earlier : List Declarator) (target : Tree) (onward : Tree → FromDeclarators) where
  -- after the answer of a search with so many looks, and where a test may end it before
  abbrev answered : ℕ → Tree → Answer Tree → FromDeclarators
  answered n initializer a = looked target n (after_answer ctx before kind d initializer earlier target a onward)

  abbrev tested : Bool → ℕ → Tree → Answer Tree → FromDeclarators
  tested b n initializer a = cond b (ended target (d ∷ earlier)) (answered n initializer a)

  abbrev tested_step : Bool → ℕ → Answer Tree → Try
  tested_step b n a = cond b (no_try target) (by_answer target n a)

  answer-ends : (n : ℕ) (initializer : Tree) (a : Answer Tree) → (by_answer target n a).folds ≡ false → Ends d earlier (answered n initializer a) (by_answer target n a)
  unfolding by_answer after_answer looked pure
  answer-ends n initializer (replaced t) h = clash true h refl
  answer-ends n initializer (stopped t) h = record { left = refl; target_is = refl; none = refl; looks = omega arith }
  answer-ends n initializer passed h = record { left = refl; target_is = refl; none = refl; looks = omega arith }

  answer-folds : (n : ℕ) (initializer : Tree) (a : Answer Tree) → (by_answer target n a).folds ≡ true → Folds d (answered n initializer a) (onward (by_answer target n a).target) (by_answer target n a)
  unfolding by_answer after_answer looked folded fold_of
  answer-folds n initializer (replaced t) h = record { result-is = refl; names = refl; more-folds = refl; looks = refl }
  answer-folds n initializer (stopped t) h = clash false refl h
  answer-folds n initializer passed h = clash false refl h

  test-ends : (b : Bool) (n : ℕ) (initializer : Tree) (a : Answer Tree) → (tested_step b n a).folds ≡ false → Ends d earlier (tested b n initializer a) (tested_step b n a)
  unfolding pure
  test-ends true n initializer a h = record { left = refl; target_is = refl; none = refl; looks = refl }
  test-ends false n initializer a h = answer-ends n initializer a h

  test-folds : (b : Bool) (n : ℕ) (initializer : Tree) (a : Answer Tree) → (tested_step b n a).folds ≡ true → Folds d (tested b n initializer a) (onward (tested_step b n a).target) (tested_step b n a)
  test-folds true n initializer a h = clash false refl h
  test-folds false n initializer a h = answer-folds n initializer a h

  abbrev step : Initializer → Try
  step i = try_from ctx literal_only d.name i target

  pub step-ends : (i : Initializer) → (step i).folds ≡ false → Ends d earlier (from_declarator ctx before kind literal_only d i earlier target onward) (step i)
  unfolding try_from from_declarator pure
  step-ends bare h = record { left = refl; target_is = refl; none = refl; looks = refl }
  step-ends (given t) h = test-ends (ends_search ctx literal_only d.name t) (looks_in_expression ctx d.name t target) t (substitute_in_expression ctx d.name t target) h

  pub step-folds : (i : Initializer) → (step i).folds ≡ true → Folds d (from_declarator ctx before kind literal_only d i earlier target onward) (onward (step i).target) (step i)
  unfolding try_from from_declarator
  step-folds bare h = clash false refl h
  step-folds (given t) h = test-folds (ends_search ctx literal_only d.name t) (looks_in_expression ctx d.name t target) t (substitute_in_expression ctx d.name t target) h

-- A step that folds adds at most one node to those of the initializer and the tree; another one adds none.
module _ (ctx : Context) (literal_only : Bool) (name : ℕ) (target : Tree) where
  answer-size : (n : ℕ) (initializer : Tree) (a : Answer Tree) → Sized initializer target a → size (by_answer target n a).target ≤ size initializer + size target + 1
  unfolding by_answer
  answer-size n initializer (replaced t) h = omega (arith, h)
  answer-size n initializer (stopped t) h = omega (arith, h)
  answer-size n initializer passed h = omega arith

  kept-size : (n : ℕ) (initializer : Tree) (a : Answer Tree) → Sized initializer target a → (by_answer target n a).folds ≡ false → size (by_answer target n a).target ≡ size target
  unfolding by_answer
  kept-size n initializer (replaced t) h e = clash true e refl
  kept-size n initializer (stopped t) h e = h
  kept-size n initializer passed h e = refl

  pub step-size : (initializer : Initializer) → size (try_from ctx literal_only name initializer target).target ≤ node_count initializer + size target + 1
  unfolding try_from node_count
  step-size bare = omega arith
  step-size (given t) = by (ends_search ctx literal_only name t) (substitute_in_expression ctx name t target) (sized ctx name t target)
    where
      by : (b : Bool) (a : Answer Tree) → Sized t target a → size (cond b (no_try target) (by_answer target (looks_in_expression ctx name t target) a)).target ≤ size t + size target + 1
      by true a h = omega arith
      by false a h = answer-size (looks_in_expression ctx name t target) t a h

  pub kept-step_size : (initializer : Initializer) → (try_from ctx literal_only name initializer target).folds ≡ false → size (try_from ctx literal_only name initializer target).target ≡ size target
  unfolding try_from
  kept-step_size bare e = refl
  kept-step_size (given t) e = by (ends_search ctx literal_only name t) (substitute_in_expression ctx name t target) (sized ctx name t target) e
    where
      by : (b : Bool) (a : Answer Tree) → Sized t target a → (cond b (no_try target) (by_answer target (looks_in_expression ctx name t target) a)).folds ≡ false → size (cond b (no_try target) (by_answer target (looks_in_expression ctx name t target) a)).target ≡ size target
      by true a h e = refl
      by false a h e = kept-size (looks_in_expression ctx name t target) t a h e
