-- Accepted bytes, by the rows of the refusal table. Assumes nothing.
use mathlib.Core.Path.{◌≡◌, refl, sym, ◌∙◌}
use mathlib.Core.Bool.{Bool, true, false, cond, ◌&&◌}
use mathlib.Core.List.{List, [], ◌∷◌, ◌++◌}
use Prim.Native.Nat.{ℕ, zero, suc, ◌+◌, ◌≤◌}
use native.Mathlib.Omega.{arith}
use lib.ListN.{length, get_or}
use lib.Dec.{eqb, ltb}
use borrow.Author.Tests.{ltb-false, eqb-true, not-false}
use Rattle.records.specs.Limits.{header_length}
use Rattle.records.specs.Records.{every}
use Rattle.records.specs.Record.{header_of}
use Rattle.records.specs.Tree.{count, forest_of, closed}
use Rattle.records.specs.File.{names_of, scopes_of, frames_of, nodes_of, declarators_of, statements_of, file_length, initializers}
use Rattle.records.specs.Header.{counts_fit, options_known, header_scopes, not_a_record_file, other_version, outside_limits, other_length}
use Rattle.records.specs.Facts.{bad_facts}
use Rattle.records.specs.Script.{good_declarator, good_statement, declarator_sum, bad_statements, declared_twice}
use Rattle.records.specs.Node.{good_node, bad_nodes}
use Rattle.records.specs.Place.{roots_stand, all_placed, expressions, bad_trees}
use Rattle.records.specs.Count.{bad_counts}
use Rattle.records.specs.Refusal.{refusal, room_wanted}
use Rattle.records.proofs.Tests.{both, all_three, neither}

-- No row holds.
pub record Accepted (bs : List ℕ) (room : ℕ) : Type 0 where
  pub is_script : not_a_record_file bs ≡ false
  pub version : other_version (header_of bs) ≡ false
  pub limits : outside_limits (header_of bs) ≡ false
  pub measured : other_length bs (header_of bs) ≡ false
  pub facts : bad_facts (names_of bs) (scopes_of bs) (frames_of bs) ≡ false
  pub script : bad_statements (names_of bs) (declarators_of bs) (statements_of bs) ≡ false
  pub nodes : bad_nodes (names_of bs) (nodes_of bs) ≡ false
  pub trees : bad_trees (declarators_of bs) (statements_of bs) (nodes_of bs) ≡ false
  pub once : declared_twice (declarators_of bs) ≡ false
  pub counts : bad_counts (names_of bs) (forest_of (nodes_of bs)) ≡ false
  pub fits : ltb room (room_wanted bs) ≡ false

-- the number of the first test that holds, where the first of them has number n
unfoldable pub first_held : ℕ → List Bool → ℕ
first_held n [] = 0
first_held n (t ∷ ts) = cond t n (first_held (suc n) ts)

none-held : (n : ℕ) (ts : List Bool) → first_held (suc n) ts ≡ 0 → (i : ℕ) → get_or ts i false ≡ false
unfolding first_held
none-held n [] e i = refl
none-held n (true ∷ ts) e i = absurd (omega arith)
none-held n (false ∷ ts) e zero = refl
none-held n (false ∷ ts) e (suc i) = none-held (suc n) ts e i

-- rows 1 to 10, which are of the file alone
unfoldable pub file_tests : List ℕ → List Bool
file_tests bs =
    not_a_record_file bs ∷ other_version (header_of bs) ∷ outside_limits (header_of bs) ∷ other_length bs (header_of bs)
    ∷ bad_facts (names_of bs) (scopes_of bs) (frames_of bs) ∷ bad_statements (names_of bs) (declarators_of bs) (statements_of bs) ∷ bad_nodes (names_of bs) (nodes_of bs)
    ∷ bad_trees (declarators_of bs) (statements_of bs) (nodes_of bs) ∷ declared_twice (declarators_of bs) ∷ bad_counts (names_of bs) (forest_of (nodes_of bs)) ∷ []

module _ (bs : List ℕ) (room : ℕ) where
  -- all rows
  abbrev tests : List Bool
  tests = file_tests bs ++ (ltb room (room_wanted bs) ∷ [])

  pub rows-tested : refusal bs room ≡ first_held 1 tests
  unfolding refusal file_tests first_held
  rows-tested = refl

  -- of accepted bytes no row holds
  pub accepted : refusal bs room ≡ 0 → Accepted bs room
  unfolding file_tests
  accepted e =
      let clear : (i : ℕ) → get_or tests i false ≡ false = none-held 0 tests (sym rows-tested ∙ e) in
      record {
        is_script = clear 0;
        version = clear 1;
        limits = clear 2;
        measured = clear 3;
        facts = clear 4;
        script = clear 5;
        nodes = clear 6;
        trees = clear 7;
        once = clear 8;
        counts = clear 9;
        fits = clear 10;
      }

  -- bytes of which no row holds are accepted
  pub accepts : Accepted bs room → refusal bs room ≡ 0
  unfolding refusal
  accepts a = rw (a.is_script, a.version, a.limits, a.measured, a.facts, a.script, a.nodes, a.trees, a.once, a.counts, a.fits)

-- What some rows say, as facts.
module _ {bs : List ℕ} {room : ℕ} (a : Accepted bs room) where
  -- 1: the header is there, with its letters
  pub has_header : (header_length ≤ length bs) × (get_or bs 0 0 ≡ 87) × (get_or bs 1 0 ≡ 83) × (get_or bs 2 0 ≡ 70)
  unfolding not_a_record_file
  has_header =
      let p = neither (ltb (length bs) header_length) _ a.is_script in
      let q = all_three (eqb (get_or bs 0 0) 87) (eqb (get_or bs 1 0) 83) (eqb (get_or bs 2 0) 70) (not-false _ p.1) in
      (ltb-false _ _ p.0, eqb-true _ _ q.0, eqb-true _ _ q.1, eqb-true _ _ q.2)

  -- 2: the version is 1
  pub has_version : (header_of bs).version ≡ 1
  unfolding other_version
  has_version = eqb-true _ _ (not-false _ a.version)

  -- 3: the last number of the header is 0
  pub last_zero : (header_of bs).last ≡ 0
  unfolding outside_limits
  last_zero =
      let h = header_of bs in
      eqb-true _ _ (all_three (counts_fit h && options_known h) (header_scopes h) (eqb h.last 0) (not-false _ a.limits)).2

  -- 4: the bytes are as many as the header says
  pub has_length : length bs ≡ file_length (header_of bs)
  unfolding other_length
  has_length = eqb-true _ _ (not-false _ a.measured)

  -- 6: every declarator and statement is good, and the declarators are as many as the statements say
  pub good_script : (every (good_declarator (names_of bs)) (declarators_of bs) ≡ true) × (every good_statement (statements_of bs) ≡ true)
      × (declarator_sum (statements_of bs) ≡ length (declarators_of bs))
  unfolding bad_statements
  good_script =
      let ds = declarators_of bs in
      let ss = statements_of bs in
      let p = all_three (every (good_declarator (names_of bs)) ds) (every good_statement ss) (eqb (declarator_sum ss) (length ds)) (not-false _ a.script) in
      (p.0, p.1, eqb-true _ _ p.2)

  -- 7: every node is good by itself
  pub good_nodes : every (good_node (names_of bs)) (nodes_of bs) ≡ true
  unfolding bad_nodes
  good_nodes = not-false _ a.nodes

  -- 8: the trees close, are as many as initializers and expressions, and stand where they may
  pub good_trees : (closed (nodes_of bs) ≡ true) × (count (forest_of (nodes_of bs)) ≡ initializers (declarators_of bs) + expressions (statements_of bs))
      × (roots_stand (forest_of (nodes_of bs)) ≡ true) × (all_placed (forest_of (nodes_of bs)) ≡ true)
  unfolding bad_trees
  good_trees =
      let forest = forest_of (nodes_of bs) in
      let many = eqb (count forest) (initializers (declarators_of bs) + expressions (statements_of bs)) in
      let p = all_three (closed (nodes_of bs) && many) (roots_stand forest) (all_placed forest) (not-false _ a.trees) in
      let q = both (closed (nodes_of bs)) many p.0 in
      (q.0, eqb-true _ _ q.1, p.1, p.2)
