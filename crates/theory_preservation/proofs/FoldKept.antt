-- A fold made on the way keeps the run, and leaves a program as fine as the one before.
use Prim.Native.Nat.{ℕ, ◌≤◌}
use native.Mathlib.Omega.{arith}
use mathlib.Core.Bool.{Bool, true, false, ◌&&◌}
use mathlib.Core.List.{List}
use mathlib.Core.Path.{◌≡◌, refl, sym, ap, ◌∙◌}
use lib.Dec.{eqb}
use borrow.Author.Tests.{eq-eqb, ne_eqb, eqb-false}
use Rattle.records.specs.Flags.{recorded, is_eval}
use Rattle.records.specs.Limits.{no_number}
use Rattle.records.specs.Script.{flags_of}
use Rattle.records.specs.Tree.{Tree}
use Rattle.records.specs.Place.{root}
use Rattle.records.specs.Count.{name_read, target_name, reads_of, targets_of}
use Rattle.records.specs.File.{one, given, Statement, File, all_trees}
use Rattle.records.specs.declared.layout.NameFacts.{NameFacts}
use Rattle.walk_rules.specs.Context.{context_of}
use Rattle.statements_rules.specs.Trace.{Fold}
use Rattle.theory_runs.specs.Store.{Store}
use Rattle.theory_runs.specs.Meaning.{Meaning}
use Rattle.theory_runs.specs.Run.{resolved}
use Rattle.theory_runs.specs.Script.{run_statements, begin}
use Rattle.theory_runs.specs.Settled.{facts_of, settled}
use Rattle.theory_runs.specs.Shapes.{declared, eval_whole}
use Rattle.theory_runs.specs.Facts.{reads_stand, writes_stand, this_unblocked, FoldKeeps}
use Rattle.theory_preservation.proofs.OfAll.{FactsOfAll}
use Rattle.theory_preservation.proofs.Words.{nothing_hidden}
use Rattle.theory_preservation.proofs.Tests.{by_or, one_on, one-off, one_none, one_of}
use Rattle.theory_preservation.proofs.Uses.{reads, targets}
use Rattle.theory_preservation.proofs.Setting.{Setting}
use Rattle.theory_preservation.proofs.Frame.{shifted}
use Rattle.theory_preservation.proofs.Passing.{Put, drop}
use Rattle.theory_preservation.proofs.Aims.{unblocked, ThisKnown}
use Rattle.theory_preservation.proofs.Asked.{Asked}
use Rattle.theory_preservation.proofs.Turned.{Turned, replaced-turned}
use Rattle.theory_preservation.proofs.Counts.{turned-reads, turned-targets, found, one_time}
use Rattle.theory_preservation.proofs.Places.{FreeBehind, fold-program}
use Rattle.theory_preservation.proofs.Moves.{FoldAt}
use Rattle.theory_preservation.proofs.Totals.{of_initializer, there-declared, declarations, program-uses, declaring}
use Rattle.theory_preservation.proofs.Fine.{unblocked_trees, Accepted, Fine, searched-name, unblocked_at}
use Rattle.theory_preservation.proofs.Fit.{fit, misfit, fit_parts, fit-turned, eval_turned, eval_there, misfit-none}
use Rattle.theory_preservation.proofs.Declared.{free-behind, declared-found}
use Rattle.theory_preservation.proofs.Positions.{somewhere, some-turned}
use Rattle.theory_preservation.proofs.Sums.{fold-rest, fold-before, fold-behind, fold-trees_before, fold_trees_behind, fold-declared}

other_way : (a b : ℕ) → eqb a b ≡ false → eqb b a ≡ false
other_way a b e = ne_eqb b a (λ q. eqb-false a b e (sym q))

module _ (f : File) (P Q : List Statement) (φ : Fold) (move : FoldAt (context_of f) P Q φ) (accepted : Accepted f) (fine : Fine f P) where
  abbrev names : List NameFacts
  names = f.names

  abbrev v : ℕ
  v = φ.name

  abbrev r : Tree
  r = φ.initializer

  abbrev t : Tree
  t = φ.into

  abbrev t' : Tree
  t' = move.tree

  -- what the search says
  turned : Turned v r 1 t t'
  turned = replaced-turned (context_of f) v r t t' move.placed

  asked-name : (eqb v no_number ≡ false) × (recorded (facts_of f v).flags ≡ true) × ((facts_of f v).reads ≤ 1) × ((facts_of f v).writes ≤ 0)
  asked-name = searched-name (context_of f) move.literal_only v r move.searched

  declared-here : 1 ≤ declarations v P
  declared-here =
      let a = fold-before move (declaring v) (λ t. 0) in
      let b : ◌≡◌ {A = ℕ} (one (eqb v v)) 1 = rw (eq-eqb v v refl) in
      omega (arith, a, b)

  pub declared-there : declared f φ.name ≡ true
  declared-there = declared-found v f.statements (let a = fine.declared_in v in let b = declared-here in omega (arith, a, b))

  pub known-name : (resolved names v ≡ true) × (is_eval (flags_of names v) ≡ false)
  known-name = accepted.known v asked-name.0 declared-there

  within-counts : (reads_of v (all_trees f.statements) ≤ (facts_of f v).reads) × (targets_of v (all_trees f.statements) ≤ (facts_of f v).writes)
  within-counts = accepted.counts v asked-name.1 known-name.0

  read-once : 1 ≤ reads v t
  read-once = found v r turned

  -- the one read stands in t; v is no target anywhere
  numbers : (reads v t ≡ 1) × (reads v r ≡ 0) × (fold-rest move (of_initializer (reads v)) (reads v) ≡ 0) × (reads_of v (all_trees f.statements) ≡ (facts_of f v).reads) × (targets v t ≡ 0) × (targets v r ≡ 0) × (fold-rest move (of_initializer (targets v)) (targets v) ≡ 0) × (targets_of v (all_trees f.statements) ≡ (facts_of f v).writes)
  numbers =
      let (e, g, h, i) = asked-name in
      let (b, c) = within-counts in
      let x = read-once in
      let k = fine.reads_in v (other_way v no_number e) in
      let l = fine.targets_in v (other_way v no_number e) in
      let a = fold-trees_before move (reads v) in
      let d = fold-trees_before move (targets v) in
      let p = program-uses name_read v f.statements in
      let q = program-uses (λ n kids. target_name n) v f.statements in
      (omega (arith, h, b, x, k, a, p), omega (arith, h, b, x, k, a, p), omega (arith, h, b, x, k, a, p), omega (arith, h, b, x, k, a, p), omega (arith, i, c, l, d, q), omega (arith, i, c, l, d, q), omega (arith, i, c, l, d, q), omega (arith, i, c, l, d, q))

  reads-stand : reads_stand f v ≡ true
  unfolding reads_stand
  reads-stand = rw (asked-name.1, eq-eqb (reads_of v (all_trees f.statements)) (facts_of f v).reads numbers.3)

  writes-stand : writes_stand f v ≡ true
  unfolding writes_stand
  writes-stand = rw (declared-there, asked-name.1, eq-eqb (targets_of v (all_trees f.statements)) (facts_of f v).writes numbers.7)

  pub fits-here : (fit names t ≡ true) × (fit names r ≡ true)
  fits-here = let a = fine.fits in let b = fold-trees_before move (misfit names) in (one-off (fit names t) (omega (arith, a, b)), one-off (fit names r) (omega (arith, a, b)))

  pub eval_here : eval_whole names (given r) ≡ false
  eval_here = let a = fine.no_evals in let b = fold-before move (λ d. one (eval_whole names d.initializer)) (λ t. 0) in one_on (eval_whole names (given r)) (omega (arith, a, b))

  no_eval-here : (eqb (root r).kind 4 && is_eval (flags_of names (root r).label)) ≡ false
  no_eval-here = unfold eval_whole in eval_here

  apart-here : (a : ℕ) → settled f a ≡ true → targets a r ≡ 0
  apart-here a e =
      let (x, y) = accepted.settled-unaimed a e in
      let b = fine.targets_in a x in
      let c = fold-trees_before move (targets a) in
      let d = program-uses (λ n kids. target_name n) a f.statements in
      omega (arith, y, b, c, d)

  module _ {Value Rest : Type 0} {trace : List Fold} (m : Meaning Value Rest) (start : Store Value Rest) (facts : FactsOfAll f trace m start) where
    abbrev setting : Setting Value Rest
    setting = record {
      file = f;
      m = m;
      v = v;
      nothing_hidden = nothing_hidden v facts reads-stand writes-stand;
      there = known-name.0;
      plain = known-name.1;
      r = r;
      free = numbers.1;
      unaimed = numbers.5;
      well = (fit_parts names r fits-here.1).0;
      chained = (fit_parts names r fits-here.1).3;
      expression = (fit_parts names r fits-here.1).2;
      no_eval = no_eval-here;
      settled-kept = facts.settled-kept;
      apart = apart-here;
      this-kept = facts.this-kept;
    }

    this-known : ThisKnown setting t
    this-known e = fine.this_in (let a = fold-trees_before move (λ t. one (somewhere (unblocked_at f) t)) in let b = one_of (somewhere (unblocked_at f) t) (unfold unblocked in e) in omega (arith, a, b))

    asked : Asked setting t
    asked = (let a = numbers.0 in omega (arith, a), numbers.4, (fit_parts names t fits-here.0).0, (fit_parts names t fits-here.0).1, this-known)

    free-here : FreeBehind v move.place move.after
    free-here =
        let a = numbers.2 in
        let b = numbers.6 in
        let c = accepted.once v asked-name.0 in
        let d = fine.declared_in v in
        let e = fold-before move (declaring v) (λ t. 0) in
        let g : ◌≡◌ {A = ℕ} (one (eqb v v)) 1 = rw (eq-eqb v v refl) in
        free-behind v move.place t move.after (omega (arith, a)) (omega (arith, b)) (omega (arith, c, d, e, g))

    kept_here : FoldKeeps names m start φ → drop setting (run_statements names m P (begin start)) ≡ drop setting (run_statements names m Q (begin start))
    kept_here keeps =
        ap (λ X. drop setting (run_statements names m X (begin start))) move.from
        ∙ fold-program setting move.before move.kind move.earlier move.place move.after t t' (begin start) move.plain asked-name.0 asked move.placed free-here (λ s e x s' g. keeps s s' x (ap (λ X. run_statements names m X (begin start)) move.stood ∙ e) g)
        ∙ ap (λ X. drop setting (run_statements names m X (begin start))) (sym move.into)

    -- the fold keeps the run, the value of the name apart
    pub fold-kept : FoldKeeps names m start φ → shifted (Put φ.name m.undefined) (run_statements names m P (begin start)) ≡ shifted (Put φ.name m.undefined) (run_statements names m Q (begin start))
    unfolding drop
    fold-kept keeps = kept_here keeps

  fold-this : (b : Bool) → somewhere (unblocked_at f) t' ≡ b → 1 ≤ unblocked_trees f Q → this_unblocked f ≡ true
  fold-this true e h =
      let a = fold-trees_before move (λ t. one (somewhere (unblocked_at f) t)) in
      by_or (somewhere (unblocked_at f) t) (somewhere (unblocked_at f) r) (λ g. fine.this_in (let d = one_of (somewhere (unblocked_at f) t) g in omega (arith, a, d))) (λ g. fine.this_in (let d = one_of (somewhere (unblocked_at f) r) g in omega (arith, a, d))) (some-turned (unblocked_at f) turned e)
  fold-this false e h =
      fine.this_in (let a = fold-trees_before move (λ t. one (somewhere (unblocked_at f) t)) in let d = fold_trees_behind move (λ t. one (somewhere (unblocked_at f) t)) in let k = one_none (somewhere (unblocked_at f) t') e in omega (arith, a, d, k, h))

  -- it is as fine
  pub fold_fine : Fine f Q
  fold_fine = record {
    fits =
        let a = fine.fits in
        let b = fold-trees_before move (misfit names) in
        let c = fold_trees_behind move (misfit names) in
        let d = misfit-none names t' (fit-turned names v r fits-here.1 turned fits-here.0) in
        omega (arith, a, b, c, d);
    reads_in = λ a e.
        let b = fine.reads_in a e in
        let c = fold-trees_before move (reads a) in
        let d = fold_trees_behind move (reads a) in
        let g = turned-reads v r (fit_parts names r fits-here.1).2 a e turned in
        let h = one_time (reads a r) in
        omega (arith, b, c, d, g, h);
    targets_in = λ a e.
        let b = fine.targets_in a e in
        let c = fold-trees_before move (targets a) in
        let d = fold_trees_behind move (targets a) in
        let g = turned-targets v r (fit_parts names r fits-here.1).2 a e turned in
        let h = one_time (targets a r) in
        omega (arith, b, c, d, g, h);
    declared_in = λ a. let b = fine.declared_in a in let c = fold-declared move a in omega (arith, b, c);
    this_in = λ h. fold-this (somewhere (unblocked_at f) t') refl h;
    no_evals =
        let a = fine.no_evals in
        let b = fold-before move (λ d. one (eval_whole names d.initializer)) (λ t. 0) in
        let c = fold-behind move (λ d. one (eval_whole names d.initializer)) (λ t. 0) in
        let e = eval_there names move.place t t' (λ g. eval_turned names v r fits-here.1 turned eval_here g) (omega (arith, a, b)) in
        omega (arith, a, b, c, e);
  }

  -- its name is declared no more
  pub gone : declarations φ.name Q ≡ 0
  gone =
      let c = accepted.once v asked-name.0 in
      let d = fine.declared_in v in
      let e = fold-before move (declaring v) (λ t. 0) in
      let g : ◌≡◌ {A = ℕ} (one (eqb v v)) 1 = rw (eq-eqb v v refl) in
      let h = fold-behind move (declaring v) (λ t. 0) in
      let i = there-declared v move.place t t' in
      omega (arith, c, d, e, g, h, i)
