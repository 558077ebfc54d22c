-- Trees that are fit to stand as a statement or an initializer. A search leaves them so, and makes no initializer `eval`.
use Prim.Native.Nat.{ℕ}
use mathlib.Core.Bool.{Bool, true, false, ◌&&◌, not}
use mathlib.Core.List.{List}
use mathlib.Core.Path.{◌≡◌, refl}
use borrow.Author.Tests.{not-true}
use Rattle.records.specs.Tree.{Tree, Node, Trees, node}
use Rattle.records.specs.Place.{root, is_expression, placed, unchained}
use Rattle.records.specs.File.{one, given}
use Rattle.records.specs.declared.layout.NameFacts.{NameFacts}
use Rattle.records.proofs.Tests.{both}
use Rattle.theory_runs.specs.Shapes.{eval_whole}
use Rattle.theory_preservation.proofs.Tests.{one_on, one_none, one_not}
use Rattle.theory_preservation.proofs.WellMade.{well_made}
use Rattle.theory_preservation.proofs.Remade.{well-turned}
use Rattle.theory_preservation.proofs.Places.{Place, declarator, statement, initializer}
use Rattle.theory_preservation.proofs.Totals.{there}
use Rattle.walk_rules.specs.Shape.{cleared}
use Rattle.walk_rules.specs.Substitute.{at, preserve_indirect_access}
use Rattle.theory_preservation.proofs.Turned.{Turned, same, here, apart, under}
use Rattle.theory_preservation.proofs.Standing.{placed-turned, unchained-turned, expression-turned}

-- a tree that stands well and is well made: an expression that cuts short no chain around it
unfoldable pub fit : List NameFacts → Tree → Bool
fit names t = placed t && well_made names t && is_expression (root t).kind && not (unchained t)

abbrev pub misfit : List NameFacts → Tree → ℕ
misfit names t = one (not (fit names t))

pub fit_parts : (names : List NameFacts) (t : Tree) → fit names t ≡ true → (placed t ≡ true) × (well_made names t ≡ true) × (is_expression (root t).kind ≡ true) × (unchained t ≡ false)
unfolding fit
fit_parts names t e =
    let (x, d) = both (placed t && well_made names t && is_expression (root t).kind) (not (unchained t)) e in
    let (y, c) = both (placed t && well_made names t) (is_expression (root t).kind) x in
    let (a, b) = both (placed t) (well_made names t) y in
    (a, b, c, not-true (unchained t) d)

pub fit-whole : (names : List NameFacts) (t : Tree) → placed t ≡ true → well_made names t ≡ true → is_expression (root t).kind ≡ true → unchained t ≡ false → fit names t ≡ true
unfolding fit
fit-whole names t a b c d = rw (a, b, c, d)

at_eval : (names : List NameFacts) (p : ℕ) (t : Tree) → eval_whole names (given (at p t)) ≡ eval_whole names (given t)
unfolding eval_whole at
at_eval names p (node n ts) = refl

apart_eval : (names : List NameFacts) (t : Tree) → eval_whole names (given (preserve_indirect_access t)) ≡ false
unfolding eval_whole preserve_indirect_access
apart_eval names (node n ts) = refl

clear_eval : (names : List NameFacts) (n : Node) (ts us : Trees) → eval_whole names (given (node (cleared n) us)) ≡ eval_whole names (given (node n ts))
unfolding eval_whole cleared
clear_eval names n ts us = refl

module _ (names : List NameFacts) (v : ℕ) (r : Tree) (fits : fit names r ≡ true) where
  pub fit-turned : {k : ℕ} {t u : Tree} → Turned v r k t u → fit names t ≡ true → fit names u ≡ true
  fit-turned {t = t} {u = u} h e =
      let (a, b, c, d) = fit_parts names t e in
      let (x, y, z, w) = fit_parts names r fits in
      fit-whole names u (placed-turned v r z x w h a) (well-turned names h y b) (expression-turned v r z x w h c) (unchained-turned v r z x w h d)

  pub eval_turned : {k : ℕ} {t u : Tree} → Turned v r k t u → eval_whole names (given r) ≡ false → eval_whole names (given t) ≡ false → eval_whole names (given u) ≡ false
  eval_turned (same e p) h g = rw p g
  eval_turned (here {n = n} e q p) h g = rw (p, at_eval names n.position r) h
  eval_turned (apart t' e q i p) h g = rw p (apart_eval names t')
  eval_turned (under {n = n} {ts = ts} ts' i p) h g = rw (p, clear_eval names n ts ts') g

-- `eval` in a place
pub eval_there : (names : List NameFacts) (p : Place) (t u : Tree) → (eval_whole names (given t) ≡ false → eval_whole names (given u) ≡ false) → there (λ d. one (eval_whole names d.initializer)) (λ t. 0) p t ≡ 0 → there (λ d. one (eval_whole names d.initializer)) (λ t. 0) p u ≡ 0
unfolding there
eval_there names (declarator d ds) t u h e = one_none (eval_whole names (given u)) (h (one_on (eval_whole names (given t)) e))
eval_there names statement t u h e = refl
eval_there names (initializer k d ds) t u h e = one_none (eval_whole names (given u)) (h (one_on (eval_whole names (given t)) e))

pub misfit-none : (names : List NameFacts) (t : Tree) → fit names t ≡ true → misfit names t ≡ 0
misfit-none names t e = one_not (fit names t) e
