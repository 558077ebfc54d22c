-- The result of an accepted file is accepted with the same room, row by row. Assumes nothing.
use Prim.Native.Nat.{ℕ, ◌+◌, ◌≤◌, ◌<◌}
use native.Mathlib.Omega.{arith}
use mathlib.Core.Bool.{true, false}
use mathlib.Core.List.{List, []}
use mathlib.Core.Path.{◌≡◌, refl, sym, ap, ◌∙◌, subst}
use lib.ListN.{length, get_or}
use lib.Dec.{eqb, ltb}
use borrow.Author.Tests.{eq-eqb, ne_eqb, ltb-false, le-ltb}
use Rattle.records.specs.Limits.{no_number}
use Rattle.records.specs.Records.{every, every_from}
use Rattle.records.specs.Record.{header_of}
use Rattle.records.specs.Tree.{Trees, count, forest_of}
use Rattle.records.specs.Header.{outside_limits}
use Rattle.records.specs.Facts.{bad_facts}
use Rattle.records.specs.Script.{no_name, good_declarator, declarator_sum, bad_statements, declared_twice}
use Rattle.records.specs.Node.{bad_nodes}
use Rattle.records.specs.Place.{roots_stand, all_placed, expressions, bad_trees}
use Rattle.records.specs.Count.{name_read, target_name, reads_of, targets_of, good_counts, bad_counts}
use Rattle.records.specs.File.{File, Declarator, one, initializers, names_of, scopes_of, frames_of, nodes_of, declarators_of, statements_of, header_for, all_trees, all_declarators, declarator_records, statement_records, read, print}
use Rattle.records.specs.Refusal.{room_wanted, refusal}
use Rattle.records.specs.declared.layout.Header.{Header}
use Rattle.walk_rules.specs.Context.{context_of, facts_of as factsIn}
use Rattle.statements_rules.specs.Fold.{with_statements, folded_file, fold_file, accepted, fold_bytes}
use Rattle.records_laws.proofs.Preorder.{closed_preorders-alone}
use Rattle.records_laws.proofs.Accepted.{Accepted, accepted as rows-passed, accepts, has_length, good_script}
use Rattle.records_laws.proofs.PrintedStatements.{declarator_records-length}
use Rattle.records_laws.proofs.PrintedFile.{printed_header, printed_names, printed_scopes, printed_frames, printed_nodes, printed_declarators, printed_statements, printed_forest, printed_length}
use Rattle.records_laws.proofs.PrintedTests.{printed_script, printed_version, printed_measured, statements_good, declarators_summed, trees-counted}
use Rattle.records_laws.proofs.ReadFile.{read-declarators, read_header}
use Rattle.theory_preservation.proofs.Uses.{reads, targets}
use Rattle.theory_preservation.proofs.WellMade.{all_well_made}
use Rattle.theory_preservation.proofs.Totals.{program-uses, program-sums, program-declarators}
use Rattle.theory_preservation.proofs.Moves.{file-moves}
use Rattle.theory_preservation.proofs.Fit.{misfit}
use Rattle.theory_demands.proofs.Rows.{few-names, good_counts_lem, file-fits, names-accepted}
use Rattle.theory_demands.proofs.Growth.{reads_light, targets_light, moves-names, moves-lighter, moves-fit}
use Rattle.theory_demands.proofs.Limits.{Lower, limits-some, limits-lower, header_lower, room-lower}
use Rattle.theory_demands.proofs.Tests.{row-fit, row_good, misnamed, all_named, named-all, declared-once, counts-less, every-each}

module _ (bs : List ℕ) (room : ℕ) (a : Accepted bs room) where
  abbrev pub f : File
  f = read bs

  abbrev pub g : File
  g = (fold_file f).file

  abbrev row : Trees
  row = all_trees g.statements

  abbrev declared : List Declarator
  declared = all_declarators g.statements

  -- the facts are copied
  pub same_names : g.names ≡ names_of bs
  unfolding fold_file folded_file with_statements read
  same_names = refl

  pub same-scopes : g.scopes ≡ scopes_of bs
  unfolding fold_file folded_file with_statements read
  same-scopes = refl

  pub same-frames : g.frames ≡ frames_of bs
  unfolding fold_file folded_file with_statements read
  same-frames = refl

  -- rows 3 and 11
  some-statements : 1 ≤ length f.statements
  unfolding header_for
  some-statements =
      let x = limits-some (header_of bs) a.limits in
      let same = ap (λ (h : Header). h.statements) (read_header bs room a) in
      omega (arith, x, same)

  pub lower : Lower (header_of bs) (header_for g)
  lower = subst (λ h. Lower h (header_for g)) (read_header bs room a) (header_lower f some-statements)

  limits : outside_limits (header_of (print g)) ≡ false
  limits = rw (printed_header g) (limits-lower (header_of bs) (header_for g) lower a.limits)

  room_fits : ltb room (room_wanted (print g)) ≡ false
  unfolding room_wanted
  room_fits =
      let x = room-lower (header_of bs) (header_for g) lower in
      let y = has_length a in
      let z = ltb-false room (room_wanted bs) a.fits in
      rw (printed_header g, printed_length g) (le-ltb room _ (omega (arith, x, y, z)))

  -- row 5
  facts : bad_facts (names_of (print g)) (scopes_of (print g)) (frames_of (print g)) ≡ false
  facts = rw (printed_names g, printed_scopes g, printed_frames g, same_names, same-scopes, same-frames) a.facts

  -- row 6
  all_good : every (good_declarator (names_of bs)) (declarator_records declared) ≡ true
  all_good =
      let w = misnamed (names_of bs) in
      let x = moves-names f w (file-moves f) in
      let y = program-declarators (λ d. w d.name) f.statements in
      let z = program-declarators (λ d. w d.name) g.statements in
      let n = all_named (names_of bs) (all_declarators f.statements) (rw (read-declarators bs room a) (good_script a).0) in
      named-all (names_of bs) declared (omega (arith, x, y, z, n))

  script : bad_statements (names_of (print g)) (declarators_of (print g)) (statements_of (print g)) ≡ false
  unfolding bad_statements
  script =
      rw (
        printed_names g,
        printed_declarators g,
        printed_statements g,
        same_names,
        all_good,
        statements_good g.statements,
        eq-eqb (declarator_sum (statement_records g.statements)) (length (declarator_records declared)) (declarators_summed g.statements ∙ sym (declarator_records-length declared)),
      )

  -- rows 7 and 8
  fits : (roots_stand row ≡ true) × (all_placed row ≡ true) × (all_well_made f.names row ≡ true)
  fits = row-fit f.names row (program-sums (misfit f.names) g.statements ∙ moves-fit f (file-moves f) (file-fits bs room a))

  nodes : bad_nodes (names_of (print g)) (nodes_of (print g)) ≡ false
  unfolding bad_nodes
  nodes = rw (printed_names g, printed_nodes g, same_names, row_good (names_of bs) row [] (unfold read in fits.2) (unfold every_from in refl))

  placed : bad_trees (declarators_of (print g)) (statements_of (print g)) (nodes_of (print g)) ≡ false
  unfolding bad_trees
  placed =
      rw (
        printed_forest g,
        printed_nodes g,
        printed_declarators g,
        printed_statements g,
        closed_preorders-alone row,
        eq-eqb (count row) (initializers (declarator_records declared) + expressions (statement_records g.statements)) (trees-counted g.statements),
        fits.0,
        fits.1,
      )

  -- row 9
  once : declared_twice (declarators_of (print g)) ≡ false
  once =
      rw (printed_declarators g)
      (declared-once declared (λ x n.
      let h = moves-names f (λ y. one (eqb y x)) (file-moves f) in
      let i = program-declarators (λ d. one (eqb d.name x)) g.statements in
      let j = (names-accepted bs room a).once x n in
      omega (arith, h, i, j)))

  -- row 10
  counted : (x : ℕ) → x < length (names_of bs) → good_counts (get_or (names_of bs) x no_name) (reads_of x row) (targets_of x row) ≡ true
  counted x h =
      let few = few-names bs room a in
      let known : eqb no_number x ≡ false = ne_eqb no_number x (λ z. omega (arith, h, few)) in
      let i = moves-lighter f (reads x) (reads_light f.names x known) (file-moves f) (file-fits bs room a) in
      let j = moves-lighter f (targets x) (targets_light f.names x known) (file-moves f) (file-fits bs room a) in
      let i₁ = program-uses name_read x f.statements in
      let i₂ = program-uses name_read x g.statements in
      let j₁ = program-uses (λ n kids. target_name n) x f.statements in
      let j₂ = program-uses (λ n kids. target_name n) x g.statements in
      counts-less (get_or (names_of bs) x no_name) (reads_of x (all_trees f.statements)) (reads_of x row) (targets_of x (all_trees f.statements)) (targets_of x row) (omega (arith, i, i₁, i₂)) (omega (arith, j, j₁, j₂)) (unfold context_of factsIn read in good_counts_lem bs room a x h)

  counts : bad_counts (names_of (print g)) (forest_of (nodes_of (print g))) ≡ false
  unfolding bad_counts
  counts =
      rw (printed_forest g, printed_names g, same_names, every-each (λ name n. good_counts n (reads_of name row) (targets_of name row)) no_name 0 (names_of bs) (λ k l. (let z : 0 + k ≡ k = omega arith in rw z (counted k l))))

  pub printed_accepted : Accepted (print (fold_file (read bs)).file) room
  printed_accepted = record {
    is_script = printed_script g;
    version = printed_version g;
    limits = limits;
    measured = printed_measured g;
    facts = facts;
    script = script;
    nodes = nodes;
    trees = placed;
    once = once;
    counts = counts;
    fits = room_fits;
  }

pub result-accepted : (bytes : List ℕ) (room : ℕ) → refusal bytes room ≡ 0 → refusal (fold_bytes bytes room).result room ≡ 0
unfolding fold_bytes accepted
result-accepted bytes room e = rw e (accepts (print (fold_file (read bytes)).file) room (printed_accepted bytes room (rows-passed bytes room e)))
