-- The facts of a file are facts of its result: names whose reads or writes all stand get fewer, settled names stay,
-- positions and the steps that can be made only get fewer. Assumes nothing.
use Prim.Native.Nat.{ℕ, zero, suc, ◌/◌, ◌%◌, ◌≤◌, ◌<◌}
use native.Mathlib.Omega.{arith}
use mathlib.Core.Bool.{Bool, true, false, ◌&&◌, ◌||◌}
use mathlib.Core.List.{List, [], ◌∷◌}
use mathlib.Core.Path.{◌≡◌, refl, sym, ap, subst}
use lib.ListN.{length, get_or}
use lib.Dec.{eqb, ltb}
use borrow.Author.Tests.{eqb-true, eq-eqb, ne_eqb}
use Rattle.records.specs.Limits.{no_number}
use Rattle.records.specs.Flags.{recorded, unresolved}
use Rattle.records.specs.Script.{no_name, flags_of}
use Rattle.records.specs.Facts.{good_name, no_counts, good_unresolved}
use Rattle.records.specs.Tree.{Trees, none, more}
use Rattle.records.specs.Count.{name_read, target_name, reads_of, targets_of}
use Rattle.records.specs.File.{one, Declarator, Statement, File, names_of, scopes_of, all_trees, all_declarators, read}
use Rattle.records.specs.Refusal.{refusal}
use Rattle.records.specs.declared.layout.NameFacts.{NameFacts}
use Rattle.records.proofs.Tests.{both, clash}
use Rattle.walk_rules.specs.Context.{context_of, facts_of as factsIn}
use Rattle.statements_rules.specs.Trace.{Fold}
use Rattle.statements_rules.specs.Fold.{with_statements, folded_file, fold_file}
use Rattle.statements_rules.proofs.Totals.{context_kept}
use Rattle.theory_runs.specs.Store.{Store}
use Rattle.theory_runs.specs.Step.{Step}
use Rattle.theory_runs.specs.Meaning.{Meaning}
use Rattle.theory_runs.specs.Settled.{facts_of, settled}
use Rattle.theory_runs.specs.Shapes.{some_in, some_of, declared, eval_whole, some_eval, shape_r}
use Rattle.theory_runs.specs.Makes.{Asked, choice, step, makes}
use Rattle.theory_runs.specs.Facts.{reads_stand, writes_stand, this_unblocked, Each, FoldKeeps, this_step, Facts}
use Rattle.records_laws.proofs.Accepted.{Accepted as Passed, accepted as rows-passed}
use Rattle.theory_preservation.proofs.Tests.{one_on, one_of, by_or}
use Rattle.theory_preservation.proofs.Positions.{somewhere}
use Rattle.theory_preservation.proofs.Moves.{Moves, done, fold, stop, drop, file-moves}
use Rattle.theory_preservation.proofs.Totals.{total_of, sums, declarations, program-uses, program-sums, program-declarators}
use Rattle.theory_preservation.proofs.Declared.{declared-found, declared-none}
use Rattle.theory_preservation.proofs.Fine.{Accepted, Fine, unblocked_at}
use Rattle.theory_preservation.proofs.FineKept.{stop_fine, drop_fine}
use Rattle.theory_preservation.proofs.FoldKept.{fold_fine}
use Rattle.theory_preservation.proofs.MovesWithin.{file-within, moves-within}
use Rattle.theory_demands.proofs.Rows.{every-at, good_names, few-names, recorded_in, names-accepted, file_fine}
use Rattle.theory_demands.proofs.Growth.{moves-names}

-- A name that the result declares is declared in the file.
pub declared-back : (f : File) (a : ℕ) → declared (fold_file f).file a ≡ true → declared f a ≡ true
declared-back f a e =
    let g = (fold_file f).file in
    let x = moves-names f (λ y. one (eqb y a)) (file-moves f) in
    by (declarations a g.statements) refl x
  where
    by : (n : ℕ) → declarations a (fold_file f).file.statements ≡ n → declarations a (fold_file f).file.statements ≤ declarations a f.statements → declared f a ≡ true
    by zero z x = clash (declared (fold_file f).file a) (declared-none a (fold_file f).file.statements z) e
    by (suc n) z x = declared-found a f.statements (omega arith)

-- every program on the way is fine, the last one too
moves_fine : (f : File) → Accepted f → {P Q : List Statement} {φs : List Fold} → Moves (context_of f) P Q φs → Fine f P → Fine f Q
moves_fine f a (done e g) fine = rw e fine
moves_fine f a {P = P} (fold M φ ψs m e k) fine = moves_fine f a k (fold_fine f P M φ m a fine)
moves_fine f a {P = P} (stop M m k) fine = moves_fine f a k (stop_fine f P M m fine)
moves_fine f a {P = P} (drop M m k) fine = moves_fine f a k (drop_fine f P M m fine)

-- the other way round of what the rows give: a node somewhere, and initializers that are `eval`
sums-some : (φ : ℕ → Bool) (ts : Trees) → some_of (λ n kids. φ n.position) ts ≡ true → 1 ≤ sums (λ t. one (somewhere φ t)) ts
unfolding sums some_in
sums-some φ none h = clash false refl h
sums-some φ (more t ts) h =
    by_or (somewhere φ t) (some_of (λ n kids. φ n.position) ts)
    (λ e. let x = one_of (somewhere φ t) e in omega (arith, x))
    (λ e. let x = sums-some φ ts e in omega (arith, x)) h

evals-none : (names : List NameFacts) (ds : List Declarator) → total_of (λ d. one (eval_whole names d.initializer)) (λ t. 0) ds ≡ 0 → some_eval names ds ≡ false
unfolding some_eval total_of
evals-none names [] e = refl
evals-none names (d ∷ ds) e = rw (one_on (eval_whole names d.initializer) (omega arith)) (evals-none names ds (omega arith))

low : (flags : ℕ) → flags % 128 ≡ 0 → flags / 16 % 2 ≡ 1 → ⊥
low flags z o = omega arith

-- a recorded name is resolved
good_recorded : (scopes : ℕ) (n : NameFacts) → good_name scopes n ≡ true → recorded n.flags ≡ true → unresolved n.flags ≡ false
unfolding good_name
good_recorded scopes n g r = by (unresolved n.flags) refl
  where
    by : (b : Bool) → unresolved n.flags ≡ b → unresolved n.flags ≡ false
    by true u =
        let x : (ltb n.flags 512 && (good_unresolved n || false)) ≡ true = rw u at g in
        let (p, q) = both (ltb n.flags 512) (good_unresolved n || false) x in
        let y = by_or (good_unresolved n) false (λ e. e) (λ e. clash false refl e) q in
        let z = (both (eqb (n.flags % 128) 0) (eqb n.scope no_number) (both (eqb (n.flags % 128) 0 && eqb n.scope no_number) (no_counts n) y).0).0 in
        absurd (low n.flags (eqb-true (n.flags % 128) 0 z) (eqb-true (n.flags / 16 % 2) 1 r))
    by false u = u

-- The tests of the facts, of the result and of the file.
reads_all : (reads reads' stated : ℕ) → reads' ≤ reads → reads ≤ stated → eqb reads' stated ≡ true → eqb reads stated ≡ true
reads_all reads reads' stated l k e = let x = eqb-true reads' stated e in eq-eqb reads stated (omega arith)

module _ (bytes : List ℕ) (room : ℕ) (e : refusal bytes room ≡ 0) (plain : shape_r (read bytes) ≡ false) where
  abbrev f : File
  f = read bytes

  abbrev g : File
  g = (fold_file f).file

  abbrev rows : Passed bytes room
  rows = rows-passed bytes room e

  pub result_fine : Fine f g.statements
  result_fine = moves_fine f (names-accepted bytes room rows) (file-moves f) (file_fine bytes room rows plain)

  known : (a : ℕ) → recorded (facts_of f a).flags ≡ true → (a < length (names_of bytes)) × (unresolved (flags_of f.names a) ≡ false)
  unfolding context_of factsIn flags_of read
  known a r =
      let l = recorded_in bytes room rows a r in
      (l, good_recorded (length (scopes_of bytes)) (get_or (names_of bytes) a no_name) (every-at (λ i. good_name (length (scopes_of bytes))) 0 (names_of bytes) a no_name (good_names bytes room rows) l a (omega arith)) r)

  -- how often a recorded name is read and aimed at: in the result no more than in the file, there no more than stated
  record Used (a : ℕ) : Type 0 where
    fewer_reads : reads_of a (all_trees g.statements) ≤ reads_of a (all_trees f.statements)
    fewer-targets : targets_of a (all_trees g.statements) ≤ targets_of a (all_trees f.statements)
    stated-reads : reads_of a (all_trees f.statements) ≤ (facts_of f a).reads
    stated-targets : targets_of a (all_trees f.statements) ≤ (facts_of f a).writes

  used : (a : ℕ) → recorded (facts_of f a).flags ≡ true → Used a
  used a r =
      let (l, u) = known a r in
      let few = few-names bytes room rows in
      let n : eqb no_number a ≡ false = ne_eqb no_number a (λ z. omega (arith, l, few)) in
      let c = (names-accepted bytes room rows).counts a r (rw u) in
      let i = result_fine.reads_in a n in
      let j = result_fine.targets_in a n in
      let i₁ = program-uses name_read a f.statements in
      let i₂ = program-uses name_read a g.statements in
      let j₁ = program-uses (λ n kids. target_name n) a f.statements in
      let j₂ = program-uses (λ n kids. target_name n) a g.statements in
      record { fewer_reads = omega (arith, i, i₁, i₂); fewer-targets = omega (arith, j, j₁, j₂); stated-reads = c.0; stated-targets = c.1 }

  same-facts : (a : ℕ) → facts_of g a ≡ facts_of f a
  same-facts a = ap (λ ctx. factsIn ctx a) (context_kept f)

  reads-back : (a : ℕ) → reads_stand g a ≡ true → reads_stand f a ≡ true
  unfolding reads_stand
  reads-back a h =
      let (r, x) = both (recorded (facts_of f a).flags) (eqb (reads_of a (all_trees g.statements)) (facts_of f a).reads) (rw (same-facts a) at h) in
      let u = used a r in
      rw (r, reads_all (reads_of a (all_trees f.statements)) (reads_of a (all_trees g.statements)) (facts_of f a).reads u.fewer_reads u.stated-reads x)

  writes-back : (a : ℕ) → writes_stand g a ≡ true → writes_stand f a ≡ true
  unfolding writes_stand
  writes-back a h =
      let (y, x) = both (declared g a && recorded (facts_of f a).flags) (eqb (targets_of a (all_trees g.statements)) (facts_of f a).writes) (rw (same-facts a) at h) in
      let (d, r) = both (declared g a) (recorded (facts_of f a).flags) y in
      let u = used a r in
      rw (declared-back f a d, r, reads_all (targets_of a (all_trees f.statements)) (targets_of a (all_trees g.statements)) (facts_of f a).writes u.fewer-targets u.stated-targets x)

  settled_back : (a : ℕ) → settled g a ≡ true → settled f a ≡ true
  unfolding settled fold_file folded_file with_statements context_of
  settled_back a h = h

  unblocked-trees : this_unblocked g ≡ true → some_of (λ n kids. unblocked_at f n.position) (all_trees g.statements) ≡ true
  unfolding this_unblocked fold_file folded_file with_statements
  unblocked-trees h = h

  this-back : this_unblocked g ≡ true → this_unblocked f ≡ true
  this-back h =
      let x = sums-some (unblocked_at f) (all_trees g.statements) (unblocked-trees h) in
      let y = program-sums (λ t. one (somewhere (unblocked_at f) t)) g.statements in
      result_fine.this_in (omega (arith, x, y))

  same_names : g.names ≡ f.names
  unfolding fold_file folded_file with_statements
  same_names = refl

  -- the result has no shape R either
  pub plain-result : shape_r g ≡ false
  unfolding shape_r
  plain-result =
      let x = result_fine.no_evals in
      let y = program-declarators (λ d. one (eval_whole f.names d.initializer)) g.statements in
      subst (λ ns. some_eval ns (all_declarators g.statements) ≡ false) (sym same_names) (evals-none f.names (all_declarators g.statements) (omega (arith, x, y)))

  -- so facts that are true of a meaning for the file are so for its result
  module _ {Value Rest : Type 0} (m : Meaning Value Rest) (start : Store Value Rest) where
    keeps-passed : (φs : List Fold) → Each (FoldKeeps f.names m start) φs → Each (FoldKeeps g.names m start) φs
    unfolding fold_file folded_file with_statements
    keeps-passed φs h = h

    -- a step or choice of the result is one of the file
    made-back : (d : Asked) (x : Step Value) → makes d g x ≡ true → makes d f x ≡ true
    unfolding makes fold_file folded_file with_statements
    made-back d x k = (moves-within Value f (file-moves f) (names-accepted bytes room rows) (file_fine bytes room rows plain) (file-within Value f)).1 d x k

    pub facts-passed : (trace φs : List Fold) → Facts f trace m start → Each (FoldKeeps f.names m start) φs → Facts g φs m start
    facts-passed trace φs facts kept = record {
      reads_hidden = λ a h x k. facts.reads_hidden a (reads-back a h) x (made-back (step false) x k);
      chooses_hidden = λ a h x k. facts.chooses_hidden a (reads-back a h) x (made-back choice x k);
      acts_hidden = λ a h x k. facts.acts_hidden a (reads-back a h) x (made-back (step true) x k);
      writes_hidden = λ a h x k. facts.writes_hidden a (writes-back a h) x (made-back (step true) x k);
      settled-kept = λ a h x k. facts.settled-kept a (settled_back a h) x (made-back (step true) x k);
      this-kept = λ h x k n s s' w e label flags l. facts.this-kept (this-back h) x (made-back (step true) x k) n s s' w e label flags (made-back (step false) (this_step label flags) l);
      targets-kept = keeps-passed φs kept;
    }
