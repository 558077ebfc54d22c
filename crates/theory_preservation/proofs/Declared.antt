-- A name by the sums of a program: what neither uses nor declares it, and whether it is declared.
use Prim.Native.Nat.{ℕ, zero, suc, ◌+◌, ◌≤◌}
use native.Mathlib.Omega.{arith}
use mathlib.Core.Bool.{Bool, true, false, ◌||◌, or-true}
use mathlib.Core.List.{List, [], ◌∷◌, ◌++◌}
use mathlib.Core.Path.{◌≡◌, refl}
use lib.Dec.{eqb}
use Rattle.records.specs.Tree.{Tree}
use Rattle.records.specs.File.{one, Initializer, bare, given, Declarator, Statement, declaration, expression, other, declarators_in, all_declarators}
use Rattle.theory_runs.specs.Shapes.{declared_in}
use Rattle.theory_preservation.proofs.Tests.{one_on}
use Rattle.theory_preservation.proofs.Uses.{reads, targets}
use Rattle.theory_preservation.proofs.Places.{Place, declarator, statement, initializer, FreeBehind}
use Rattle.theory_preservation.proofs.Program.{FreeInitializer, FreeDeclarators, FreeStatement, FreeStatements}
use Rattle.theory_preservation.proofs.Totals.{weighed, of_initializer, total_of, total_in, total, there, around, trees, declarations, declaring}

module _ (v : ℕ) where
  free-initializer : (i : Initializer) → weighed (reads v) i ≡ 0 → weighed (targets v) i ≡ 0 → FreeInitializer v i
  unfolding weighed
  free-initializer bare h g = tt
  free-initializer (given t) h g = (h, g)

  free-declarators : (ds : List Declarator) → total_of (of_initializer (reads v)) (reads v) ds ≡ 0 → total_of (of_initializer (targets v)) (targets v) ds ≡ 0 → total_of (declaring v) (λ t. 0) ds ≡ 0 → FreeDeclarators v ds
  unfolding total_of
  free-declarators [] h g e = tt
  free-declarators (d ∷ ds) h g e = (one_on (eqb d.name v) (omega arith), free-initializer d.initializer (omega arith) (omega arith), free-declarators ds (omega arith) (omega arith) (omega arith))

  free-statement : (s : Statement) → total_in (of_initializer (reads v)) (reads v) s ≡ 0 → total_in (of_initializer (targets v)) (targets v) s ≡ 0 → total_in (declaring v) (λ t. 0) s ≡ 0 → FreeStatement v s
  unfolding total_in
  free-statement (declaration k ds) h g e = free-declarators ds h g e
  free-statement (expression t) h g e = (h, g)
  free-statement other h g e = tt

  free-statements : (ss : List Statement) → trees (reads v) ss ≡ 0 → trees (targets v) ss ≡ 0 → declarations v ss ≡ 0 → FreeStatements v ss
  unfolding total
  free-statements [] h g e = tt
  free-statements (s ∷ ss) h g e = (free-statement s (omega arith) (omega arith) (omega arith), free-statements ss (omega arith) (omega arith) (omega arith))

  pub free-behind : (p : Place) (t : Tree) (after : List Statement) → around (of_initializer (reads v)) (reads v) p after ≡ 0 → around (of_initializer (targets v)) (targets v) p after ≡ 0 → around (declaring v) (λ t. 0) p after + there (declaring v) (λ t. 0) p t ≡ 0 → FreeBehind v p after
  unfolding around there
  free-behind (declarator d ds) t after h g e = (one_on (eqb d.name v) (omega arith), free-declarators ds (omega arith) (omega arith) (omega arith), free-statements after (omega arith) (omega arith) (omega arith))
  free-behind statement t after h g e = free-statements after (omega arith) (omega arith) (omega arith)
  free-behind (initializer k d ds) t after h g e = (one_on (eqb d.name v) (omega arith), free-declarators ds (omega arith) (omega arith) (omega arith), free-statements after (omega arith) (omega arith) (omega arith))

  -- a name that is declared is found among the declarators
  declared-one : (ds es : List Declarator) → 1 ≤ total_of (declaring v) (λ t. 0) ds → declared_in v (ds ++ es) ≡ true
  unfolding total_of declared_in
  declared-one [] es h = absurd (omega arith)
  declared-one (d ∷ ds) es h = by (eqb d.name v) refl (λ g. declared-one ds es g)
    where
      by : (b : Bool) → eqb d.name v ≡ b → (1 ≤ total_of (declaring v) (λ t. 0) ds → declared_in v (ds ++ es) ≡ true) → (eqb d.name v || declared_in v (ds ++ es)) ≡ true
      by true e n = rw e
      by false e n = rw e (n (let z : ◌≡◌ {A = ℕ} (one (eqb d.name v)) 0 = rw e in omega (arith, z)))

  declared-right : (ds es : List Declarator) → declared_in v es ≡ true → declared_in v (ds ++ es) ≡ true
  unfolding declared_in
  declared-right [] es h = h
  declared-right (d ∷ ds) es h = rw (declared-right ds es h) (or-true (eqb d.name v))

  in_statement : (s : Statement) (es : List Declarator) → 1 ≤ total_in (declaring v) (λ t. 0) s → declared_in v (declarators_in s ++ es) ≡ true
  unfolding total_in declarators_in
  in_statement (declaration k ds) es h = declared-one ds es h
  in_statement (expression t) es h = absurd (omega arith)
  in_statement other es h = absurd (omega arith)

  pub declared-found : (ss : List Statement) → 1 ≤ declarations v ss → declared_in v (all_declarators ss) ≡ true
  unfolding total all_declarators declared_in
  declared-found [] h = absurd (omega arith)
  declared-found (s ∷ ss) h = by (total_in (declaring v) (λ t. 0) s) refl (λ g. declared-found ss g)
    where
      by : (n : ℕ) → total_in (declaring v) (λ t. 0) s ≡ n → (1 ≤ declarations v ss → declared_in v (all_declarators ss) ≡ true) → declared_in v (declarators_in s ++ all_declarators ss) ≡ true
      by zero e f = declared-right (declarators_in s) (all_declarators ss) (f (omega arith))
      by (suc n) e f = in_statement s (all_declarators ss) (omega arith)

  -- and one that isn't is not
  none_of : (ds es : List Declarator) → total_of (declaring v) (λ t. 0) ds ≡ 0 → declared_in v es ≡ false → declared_in v (ds ++ es) ≡ false
  unfolding total_of declared_in
  none_of [] es h g = g
  none_of (d ∷ ds) es h g = rw (one_on (eqb d.name v) (omega arith)) (none_of ds es (omega arith) g)

  none_in : (s : Statement) (es : List Declarator) → total_in (declaring v) (λ t. 0) s ≡ 0 → declared_in v es ≡ false → declared_in v (declarators_in s ++ es) ≡ false
  unfolding total_in declarators_in
  none_in (declaration k ds) es h g = none_of ds es h g
  none_in (expression t) es h g = g
  none_in other es h g = g

  pub declared-none : (ss : List Statement) → declarations v ss ≡ 0 → declared_in v (all_declarators ss) ≡ false
  unfolding total all_declarators declared_in
  declared-none [] h = refl
  declared-none (s ∷ ss) h = none_in s (all_declarators ss) (omega arith) (declared-none ss (omega arith))
