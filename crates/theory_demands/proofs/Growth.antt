-- Weights of a program that no move of a fold makes heavier.
use Prim.Native.Nat.{ℕ, ◌+◌, ◌≤◌}
use native.Mathlib.Omega.{arith}
use mathlib.Core.List.{List}
use mathlib.Core.Bool.{true, false}
use mathlib.Core.Path.{◌≡◌, refl}
use lib.Dec.{eqb}
use Rattle.records.specs.Limits.{no_number}
use Rattle.records.specs.Tree.{Tree}
use Rattle.records.specs.File.{Declarator, Statement, File}
use Rattle.records.specs.declared.layout.NameFacts.{NameFacts}
use Rattle.walk_rules.specs.Context.{context_of}
use Rattle.statements_rules.specs.Trace.{Fold}
use Rattle.theory_preservation.proofs.Tests.{one-off}
use Rattle.theory_preservation.proofs.Uses.{reads, targets}
use Rattle.theory_preservation.proofs.Counts.{turned-reads, turned-targets, no_times, one_time}
use Rattle.theory_preservation.proofs.Turned.{Turned, replaced-turned, stopped-turned}
use Rattle.theory_preservation.proofs.Places.{Place, declarator, statement, initializer}
use Rattle.theory_preservation.proofs.Moves.{FoldAt, StopAt, DropAt, Moves, done, fold, stop, drop}
use Rattle.theory_preservation.proofs.Totals.{of_initializer, total, there, trees}
use Rattle.theory_preservation.proofs.Sums.{fold-before, fold-behind, fold-trees_before, fold_trees_behind, stop-before, stop-behind, stop-trees_before, stop_trees_behind, drop-sum}
use Rattle.theory_preservation.proofs.Fit.{fit, misfit, fit_parts, fit-turned, misfit-none}
use Rattle.theory_preservation.proofs.FineKept.{none-placed}

-- what a program weighs in the names that it declares
abbrev pub named : (ℕ → ℕ) → List Statement → ℕ
named weight P = total (λ d. weight d.name) (λ t. 0) P

module _ (f : File) (weight : ℕ → ℕ) where
  abbrev of_name : Declarator → ℕ
  of_name d = weight d.name

  there-named : (p : Place) (t t' : Tree) → there of_name (λ t. 0) p t ≡ there of_name (λ t. 0) p t'
  unfolding there
  there-named (declarator d ds) t t' = refl
  there-named statement t t' = refl
  there-named (initializer k d ds) t t' = refl

  fold-names : {P Q : List Statement} {φ : Fold} → FoldAt (context_of f) P Q φ → named weight Q ≤ named weight P
  fold-names {φ = φ} m =
      let x = fold-before m of_name (λ t. 0) in
      let y = fold-behind m of_name (λ t. 0) in
      let z = there-named m.place φ.into m.tree in
      omega (arith, x, y, z)

  stop-names : {P Q : List Statement} → StopAt (context_of f) P Q → named weight Q ≤ named weight P
  stop-names m =
      let x = stop-before m of_name (λ t. 0) in
      let y = stop-behind m of_name (λ t. 0) in
      let z = there-named m.place m.old m.new in
      omega (arith, x, y, z)

  drop-names : {P Q : List Statement} → DropAt (context_of f) P Q → named weight Q ≤ named weight P
  drop-names m = let x = drop-sum m of_name (λ t. 0) in omega (arith, x)

  pub moves-names : {P Q : List Statement} {φs : List Fold} → Moves (context_of f) P Q φs → named weight Q ≤ named weight P
  moves-names (done e g) = rw e (omega arith)
  moves-names (fold M φ ψs m e k) = let x = fold-names m in let y = moves-names k in omega (arith, x, y)
  moves-names (stop M m k) = let x = stop-names m in let y = moves-names k in omega (arith, x, y)
  moves-names (drop M m k) = let x = drop-names m in let y = moves-names k in omega (arith, x, y)

-- A weight of trees that a search of a fit tree for a fit initializer only moves: placed once, or not at all.
pub record Light (names : List NameFacts) (w : Tree → ℕ) : Type 0 where
  pub once : (v : ℕ) (r t t' : Tree) → fit names r ≡ true → fit names t ≡ true → Turned v r 1 t t' → w t' ≤ w t + w r
  pub never : (v : ℕ) (t t' : Tree) → fit names t ≡ true → Turned v t 0 t t' → w t' ≤ w t

-- the reads and the targets of a name are such weights
module _ (names : List NameFacts) (a : ℕ) (known : eqb no_number a ≡ false) where
  pub reads_light : Light names (reads a)
  reads_light = record {
    once = λ v r t t' g h turned.
        let x = turned-reads v r (fit_parts names r g).2 a known turned in
        let y = one_time (reads a r) in
        omega (arith, x, y);
    never = λ v t t' h turned.
        let x = turned-reads v t (fit_parts names t h).2 a known turned in
        let y = no_times (reads a t) in
        omega (arith, x, y);
  }

  pub targets_light : Light names (targets a)
  targets_light = record {
    once = λ v r t t' g h turned.
        let x = turned-targets v r (fit_parts names r g).2 a known turned in
        let y = one_time (targets a r) in
        omega (arith, x, y);
    never = λ v t t' h turned.
        let x = turned-targets v t (fit_parts names t h).2 a known turned in
        let y = no_times (targets a t) in
        omega (arith, x, y);
  }

module _ (f : File) where
  abbrev Fits : List Statement → Type 0
  Fits P = trees (misfit f.names) P ≡ 0

  -- the trees that a move touches are fit
  fold-fit : {P Q : List Statement} {φ : Fold} → FoldAt (context_of f) P Q φ → Fits P → (fit f.names φ.initializer ≡ true) × (fit f.names φ.into ≡ true)
  fold-fit {φ = φ} m fits =
      let x = fold-trees_before m (misfit f.names) in
      (one-off (fit f.names φ.initializer) (omega (arith, fits, x)), one-off (fit f.names φ.into) (omega (arith, fits, x)))

  stop-fit : {P Q : List Statement} (m : StopAt (context_of f) P Q) → Fits P → fit f.names m.old ≡ true
  stop-fit m fits = let x = stop-trees_before m (misfit f.names) in one-off (fit f.names m.old) (omega (arith, fits, x))

  module _ (w : Tree → ℕ) (light : Light f.names w) where
    fold-lighter : {P Q : List Statement} {φ : Fold} → FoldAt (context_of f) P Q φ → Fits P → trees w Q ≤ trees w P
    fold-lighter {φ = φ} m fits =
        let (r, t) = fold-fit m fits in
        let x = fold-trees_before m w in
        let y = fold_trees_behind m w in
        let z = light.once φ.name φ.initializer φ.into m.tree r t (replaced-turned (context_of f) φ.name φ.initializer φ.into m.tree m.placed) in
        omega (arith, x, y, z)

    stop-lighter : {P Q : List Statement} → StopAt (context_of f) P Q → Fits P → trees w Q ≤ trees w P
    stop-lighter m fits =
        let x = stop-trees_before m w in
        let y = stop_trees_behind m w in
        let z = light.never m.name m.old m.new (stop-fit m fits) (none-placed m.old (stopped-turned (context_of f) m.name m.initial m.old m.new m.ended) refl) in
        omega (arith, x, y, z)

    drop-lighter : {P Q : List Statement} → DropAt (context_of f) P Q → trees w Q ≤ trees w P
    drop-lighter m = let x = drop-sum m (of_initializer w) w in omega (arith, x)

  -- trees stay fit
  fit_light : Light f.names (misfit f.names)
  fit_light = record {
    once = λ v r t t' a b h. (let x = misfit-none f.names t' (fit-turned f.names v r a h b) in omega (arith, x));
    never = λ v t t' a h. (let x = misfit-none f.names t' (fit-turned f.names v t a h a) in omega (arith, x));
  }

  -- a program where none is heavier than before, and none unfit
  module _ (w : Tree → ℕ) (light : Light f.names w) where
    pub moves-lighter : {P Q : List Statement} {φs : List Fold} → Moves (context_of f) P Q φs → Fits P → trees w Q ≤ trees w P
    moves-lighter (done e g) fits = rw e (omega arith)
    moves-lighter (fold M φ ψs m e k) fits =
        let x = fold-lighter w light m fits in
        let y = fold-lighter (misfit f.names) fit_light m fits in
        let z = moves-lighter k (omega (arith, fits, y)) in
        omega (arith, x, z)
    moves-lighter (stop M m k) fits =
        let x = stop-lighter w light m fits in
        let y = stop-lighter (misfit f.names) fit_light m fits in
        let z = moves-lighter k (omega (arith, fits, y)) in
        omega (arith, x, z)
    moves-lighter (drop M m k) fits =
        let x = drop-lighter w light m in
        let y = drop-lighter (misfit f.names) fit_light m in
        let z = moves-lighter k (omega (arith, fits, y)) in
        omega (arith, x, z)

  pub moves-fit : {P Q : List Statement} {φs : List Fold} → Moves (context_of f) P Q φs → trees (misfit f.names) P ≡ 0 → trees (misfit f.names) Q ≡ 0
  moves-fit k fits = let x = moves-lighter (misfit f.names) fit_light k fits in omega (arith, fits, x)
