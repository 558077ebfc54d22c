-- An accepted file before the first statement: everything that its header counts is still to come. Assumes nothing.
use mathlib.Core.Bool.{◌&&◌}
use mathlib.Core.Path.{◌≡◌, refl, sym, ap, ap₂, ◌∙◌}
use mathlib.Core.List.{List, []}
use Prim.Native.Nat.{ℕ, ◌+◌, ◌*◌, ◌≤◌}
use native.Mathlib.Omega.{arith}
use lib.ListN.{length}
use lib.Dec.{eqb, leb}
use borrow.Author.Tests.{leb-true, not-false}
use Rattle.records.specs.Limits.{max_names, min_scopes, max_scopes, max_frames, max_declarators, min_statements, max_statements, max_nodes}
use Rattle.records.specs.Header.{counts_fit, options_known, header_scopes, outside_limits}
use Rattle.records.specs.Record.{header_of, declarator_at, statement_at}
use Rattle.records.specs.Records.{records_from}
use Rattle.records.specs.Refusal.{refusal}
use Rattle.records.specs.Tree.{sizes}
use Rattle.records.specs.File.{bare, Statement, read, header_for, nodes_of, declarators_of, statements_of, declarators_start, statements_start, all_trees, all_declarators, declarator_records, statement_records}
use Rattle.records.specs.declared.layout.Header.{Header}
use Rattle.records.proofs.Tests.{both}
use Rattle.records_laws.proofs.Accepted.{Accepted, accepted, has_length}
use Rattle.records_laws.proofs.ReadFile.{read-statements, read-declarators, read-nodes, read_header, declarators_of-length, statements_of-length}
use Rattle.statements_search.proofs.BareNames.{accepted-bare}
use Rattle.records_table.proofs.FileForest.{all-trees}
use Rattle.statements_search.specs.Kept.{laid_initializer, node_count as nodesGiven, bare_initializer, laid_declarators, nodes_in, bare_declarators, Held}
use Rattle.statements_search.specs.KeptStatements.{laid_kept, nodes_kept, declarators_kept, bare_kept, HeldKept, tables}
use Rattle.statements_progress.specs.declared.progress.Progress.{Progress}
use Rattle.statements.specs.State.{Holds, StandingRecords, Coming, holding}
use Rattle.statements.specs.Folds.{Taking}

abbrev pub at_start : Progress
at_start = record {
  tree = record { 0 = 0 };
  nodes_used = 0;
  declarators_kept = 0;
  statements_kept = 0;
  folds = 0;
  looks = 0;
  nodes_read = 0;
  declarators_read = 0;
}

-- all the records of a part
row-all : {A : Type 0} (readAt : List ℕ → ℕ → A) (file : List ℕ) (from n : ℕ) (xs : List A) → xs ≡ records_from (readAt file) 4 n from → length xs ≡ n → from + 4 * n ≤ length file
    → StandingRecords readAt file from 0 xs
row-all readAt file from n xs e l inside =
    let at : from + 4 * 0 ≡ from = omega arith in
    record { is = ap₂ (λ (m k : ℕ). records_from (readAt file) 4 m k) l at ∙ sym e; inside = omega (arith, l, inside) }

-- nothing is kept
holds-none : (nodes records starts statements : List ℕ) → Holds (tables nodes records starts statements) at_start (holding 0 [] [] bare nodes)
unfolding laid_kept laid_declarators laid_initializer nodes_kept nodes_in nodesGiven declarators_kept bare_kept bare_declarators bare_initializer HeldKept Held
holds-none nodes records starts statements = record {
  is = refl;
  stated = refl;
  declared = refl;
  counted = refl;
  starting = refl;
  ends = refl;
  kept = tt;
  held = tt;
  names = refl;
  own-names = refl;
  tree-names = refl;
}

module _ (file : List ℕ) (room : ℕ) (e : refusal file room ≡ 0) where
  abbrev h : Header
  h = header_of file

  abbrev ss : List Statement
  ss = (read file).statements

  a : Accepted file room
  a = accepted file room e

  -- row 3
  limits : (h.declarators ≤ 500) × (h.nodes + 2 * h.declarators ≤ 3000)
  unfolding outside_limits
  limits =
      let g = not-false (counts_fit h && options_known h && header_scopes h && eqb h.last 0) a.limits in
      let x₁ = (both (counts_fit h) (options_known h) (both (counts_fit h && options_known h) (header_scopes h) (both (counts_fit h && options_known h && header_scopes h) (eqb h.last 0) g).0).0).0 in
      let c₁ = leb h.names max_names && leb min_scopes h.scopes && leb h.scopes max_scopes && leb h.frames max_frames in
      let c₂ = leb h.declarators max_declarators in
      let c₃ = leb min_statements h.statements in
      let c₄ = leb h.statements max_statements in
      let (x₂, x₄) = both (c₁ && c₂ && c₃ && c₄) (leb (h.nodes + 2 * h.declarators) max_nodes) x₁ in
      let x₃ = (both (c₁ && c₂ && c₃) c₄ x₂).0 in
      (leb-true h.declarators 500 (both c₁ c₂ (both (c₁ && c₂) c₃ x₃).0).1, leb-true (h.nodes + 2 * h.declarators) 3000 x₄)

  nodes_are : sizes (all_trees ss) ≡ h.nodes
  unfolding header_for
  nodes_are = ap (λ (x : Header). x.nodes) (read_header file room a)

  pub statements_are : length ss ≡ h.statements
  unfolding header_for
  statements_are = ap (λ (x : Header). x.statements) (read_header file room a)

  declared-length : length (declarator_records (all_declarators ss)) ≡ h.declarators
  declared-length = ap length (read-declarators file room a) ∙ declarators_of-length file

  stated-length : length (statement_records ss) ≡ h.statements
  stated-length = ap length (read-statements file room a) ∙ statements_of-length file

  coming-all : Coming file h at_start (all_trees ss) (declarator_records (all_declarators ss)) []
  unfolding nodes_of declarators_of
  coming-all = record {
    trees = all-trees (all_trees ss) (sym (read-nodes file room a)) (omega (arith, has_length a));
    records = row-all declarator_at file (declarators_start h) h.declarators (declarator_records (all_declarators ss)) (read-declarators file room a) declared-length (omega (arith, has_length a));
    few = omega (arith, declared-length, limits);
    names = accepted-bare file room e;
  }

  pub taking-all : (nodes records starts statements : List ℕ) → Taking file h (tables nodes records starts statements) at_start [] ss nodes []
  taking-all nodes records starts statements = record {
    holds = holds-none nodes records starts statements;
    comes = coming-all;
    room = record { weight = omega (arith, nodes_are, declared-length); declared = omega (arith, declared-length); stated = omega (arith, statements_are); looked = omega (arith, nodes_are); few = omega (arith, limits) };
  }

  pub statements-coming : StandingRecords statement_at file (statements_start h) 0 (statement_records ss)
  unfolding statements_of
  statements-coming = row-all statement_at file (statements_start h) h.statements (statement_records ss) (read-statements file room a) stated-length (omega (arith, has_length a))
