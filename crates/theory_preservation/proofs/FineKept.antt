-- A search that stops and a declaration that is dropped keep a program fine.
use Prim.Native.Nat.{ℕ, ◌≤◌}
use native.Mathlib.Omega.{arith}
use mathlib.Core.Bool.{Bool, true, false, ◌||◌}
use mathlib.Core.List.{List}
use mathlib.Core.Path.{◌≡◌, refl}
use Rattle.records.specs.Tree.{Tree, Trees}
use Rattle.records.specs.File.{one, Statement, File}
use Rattle.walk_rules.specs.Context.{context_of}
use Rattle.theory_runs.specs.Shapes.{eval_whole}
use Rattle.theory_runs.specs.Facts.{this_unblocked}
use Rattle.theory_preservation.proofs.Tests.{one-off, one_none, one_of}
use Rattle.theory_preservation.proofs.Uses.{reads, targets}
use Rattle.theory_preservation.proofs.Turned.{Turned, same, here, apart, under, AllTurned, no_more, both, stopped-turned}
use Rattle.theory_preservation.proofs.Counts.{turned-reads, turned-targets, no_times}
use Rattle.theory_preservation.proofs.Moves.{StopAt, DropAt}
use Rattle.theory_preservation.proofs.Totals.{of_initializer, declaring}
use Rattle.theory_preservation.proofs.Fine.{unblocked_trees, Fine, unblocked_at}
use Rattle.theory_preservation.proofs.Fit.{fit, misfit, fit_parts, fit-turned, eval_turned, eval_there, misfit-none}
use Rattle.theory_preservation.proofs.Positions.{somewhere, some-turned}
use Rattle.theory_preservation.proofs.Sums.{stop-before, stop-behind, stop-trees_before, stop_trees_behind, stop-declared, drop-sum}

-- A tree where nothing was placed is so for any initializer.
module _ {v : ℕ} {r : Tree} (x : Tree) where
  mutual
    pub none-placed : {k : ℕ} {t u : Tree} → Turned v r k t u → k ≡ 0 → Turned v x 0 t u
    none-placed (same e p) z = same refl p
    none-placed (here e q p) z = absurd (omega arith)
    none-placed (apart t' e q i p) z = absurd (omega arith)
    none-placed (under ts' i p) z = under ts' (all_none i z) p

    all_none : {k : ℕ} {ts us : Trees} → AllTurned v r k ts us → k ≡ 0 → AllTurned v x 0 ts us
    all_none (no_more e) z = no_more refl
    all_none (both i j e h g) z = both 0 0 refl (none-placed h (omega arith)) (all_none g (omega arith))

-- a search that stopped
module _ (f : File) (P Q : List Statement) (move : StopAt (context_of f) P Q) (fine : Fine f P) where
  turned : Turned move.name move.old 0 move.old move.new
  turned = none-placed move.old (stopped-turned (context_of f) move.name move.initial move.old move.new move.ended) refl

  pub fit-here : fit f.names move.old ≡ true
  fit-here = let a = fine.fits in let b = stop-trees_before move (misfit f.names) in one-off (fit f.names move.old) (omega (arith, a, b))

  either_same : (b : Bool) → (b || b) ≡ true → b ≡ true
  either_same true e = refl
  either_same false e = e

  stop-this : (b : Bool) → somewhere (unblocked_at f) move.new ≡ b → 1 ≤ unblocked_trees f Q → this_unblocked f ≡ true
  stop-this true e h =
      let g = either_same (somewhere (unblocked_at f) move.old) (some-turned (unblocked_at f) turned e) in
      fine.this_in (let a = stop-trees_before move (λ t. one (somewhere (unblocked_at f) t)) in let d = one_of (somewhere (unblocked_at f) move.old) g in omega (arith, a, d))
  stop-this false e h =
      fine.this_in (let a = stop-trees_before move (λ t. one (somewhere (unblocked_at f) t)) in let d = stop_trees_behind move (λ t. one (somewhere (unblocked_at f) t)) in let k = one_none (somewhere (unblocked_at f) move.new) e in omega (arith, a, d, k, h))

  -- the program with the tree that the search left is as fine
  pub stop_fine : Fine f Q
  stop_fine = record {
    fits =
        let a = fine.fits in
        let b = stop-trees_before move (misfit f.names) in
        let c = stop_trees_behind move (misfit f.names) in
        let d = misfit-none f.names move.new (fit-turned f.names move.name move.old fit-here turned fit-here) in
        omega (arith, a, b, c, d);
    reads_in = λ a e.
        let b = fine.reads_in a e in
        let c = stop-trees_before move (reads a) in
        let d = stop_trees_behind move (reads a) in
        let g = turned-reads move.name move.old (fit_parts f.names move.old fit-here).2 a e turned in
        let h = no_times (reads a move.old) in
        omega (arith, b, c, d, g, h);
    targets_in = λ a e.
        let b = fine.targets_in a e in
        let c = stop-trees_before move (targets a) in
        let d = stop_trees_behind move (targets a) in
        let g = turned-targets move.name move.old (fit_parts f.names move.old fit-here).2 a e turned in
        let h = no_times (targets a move.old) in
        omega (arith, b, c, d, g, h);
    declared_in = λ a. let b = fine.declared_in a in let c = stop-declared move a in omega (arith, b, c);
    this_in = λ h. stop-this (somewhere (unblocked_at f) move.new) refl h;
    no_evals =
        let a = fine.no_evals in
        let b = stop-before move (λ d. one (eval_whole f.names d.initializer)) (λ t. 0) in
        let c = stop-behind move (λ d. one (eval_whole f.names d.initializer)) (λ t. 0) in
        let e = eval_there f.names move.place move.old move.new (λ g. eval_turned f.names move.name move.old fit-here turned g g) (omega (arith, a, b)) in
        omega (arith, a, b, c, e);
  }

-- an empty declaration that was dropped
module _ (f : File) (P Q : List Statement) (move : DropAt (context_of f) P Q) (fine : Fine f P) where
  -- the program without it is as fine
  pub drop_fine : Fine f Q
  drop_fine = record {
    fits = let a = fine.fits in let b = drop-sum move (of_initializer (misfit f.names)) (misfit f.names) in omega (arith, a, b);
    reads_in = λ a e. let b = fine.reads_in a e in let c = drop-sum move (of_initializer (reads a)) (reads a) in omega (arith, b, c);
    targets_in = λ a e. let b = fine.targets_in a e in let c = drop-sum move (of_initializer (targets a)) (targets a) in omega (arith, b, c);
    declared_in = λ a. let b = fine.declared_in a in let c = drop-sum move (declaring a) (λ t. 0) in omega (arith, b, c);
    this_in = λ h. fine.this_in (let c = drop-sum move (of_initializer (λ t. one (somewhere (unblocked_at f) t))) (λ t. one (somewhere (unblocked_at f) t)) in omega (arith, h, c));
    no_evals = let a = fine.no_evals in let b = drop-sum move (λ d. one (eval_whole f.names d.initializer)) (λ t. 0) in omega (arith, a, b);
  }
