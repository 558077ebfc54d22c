-- Tests of the refusal table that a printed file passes, whatever it holds. Assumes nothing.
use mathlib.Core.Path.{◌≡◌, refl, ap, ◌∙◌}
use mathlib.Core.Bool.{true, false}
use mathlib.Core.List.{List, [], ◌∷◌}
use Prim.Native.Nat.{◌+◌}
use native.Mathlib.Omega.{arith}
use lib.ListN.{length, length-append}
use lib.Dec.{eqb}
use borrow.Author.Tests.{le-leb, lt-ltb, le-ltb, eq-eqb}
use Rattle.records.specs.Limits.{header_length}
use Rattle.records.specs.Records.{every, every_from}
use Rattle.records.specs.Record.{header_of, header_bytes}
use Rattle.records.specs.Tree.{Trees, count}
use Rattle.records.specs.File.{File, Initializer, bare, given, Declarator, Statement, declaration, expression, other, one, initializers, is_given, declarator_records, kind_number, declarators_in, statement_number, statement_record, statement_records, all_declarators, initializer_tree, initializer_trees, statement_trees, all_trees, header_for, file_length, print}
use Rattle.records.specs.Header.{not_a_record_file, other_version, other_length}
use Rattle.records.specs.Script.{good_statement, declarator_sum}
use Rattle.records.specs.Place.{expressions}
use Rattle.records.proofs.Tests.{every_more}
use Rattle.records_laws.proofs.PrintedStatements.{declarator_records-append, kind-small, no_declaration}
use Rattle.records_laws.proofs.ReadStatements.{initializers-append}
use Rattle.records_laws.proofs.PrintedFile.{printed_header, printed_length}

module _ (f : File) where
  -- row 1: the letters
  pub printed_script : not_a_record_file (print f) ≡ false
  unfolding not_a_record_file print header_bytes
  printed_script = rw (le-ltb (length (print f)) header_length (omega (arith, printed_length f)))

  -- row 2: the version
  pub printed_version : other_version (header_of (print f)) ≡ false
  unfolding other_version header_for
  printed_version = rw (printed_header f)

  -- row 4: the length
  pub printed_measured : other_length (print f) (header_of (print f)) ≡ false
  unfolding other_length
  printed_measured = rw (printed_header f, eq-eqb (length (print f)) (file_length (header_for f)) (printed_length f))

statement_good : (s : Statement) → good_statement (statement_record s) ≡ true
unfolding good_statement statement_record statement_number declarators_in
statement_good (declaration k ds) = rw (le-leb (kind_number k) 6 (omega (arith, kind-small k)), lt-ltb (kind_number k) 5 (kind-small k))
statement_good (expression t) = refl
statement_good other = refl

-- row 6: a statement is good
pub statements_good : (ss : List Statement) → every good_statement (statement_records ss) ≡ true
unfolding statement_records every_from
statements_good [] = refl
statements_good (s ∷ ss) = every_more good_statement (statement_record s) (statement_records ss) (statement_good s) (statements_good ss)

-- row 6: the declarators are as many as the statements say
pub declarators_summed : (ss : List Statement) → declarator_sum (statement_records ss) ≡ length (all_declarators ss)
unfolding declarator_sum statement_records statement_record all_declarators
declarators_summed [] = refl
declarators_summed (s ∷ ss) = omega (arith, declarators_summed ss, length-append (declarators_in s) (all_declarators ss))

-- the trees that an initializer adds to a forest; that declarators add; that a statement adds
initializer-counted : (i : Initializer) (forest : Trees) → count (initializer_tree i forest) ≡ one (eqb (is_given i) 1) + count forest
unfolding initializer_tree is_given count
initializer-counted bare forest = omega arith
initializer-counted (given t) forest = omega arith

initializers-counted : (ds : List Declarator) (forest : Trees) → count (initializer_trees ds forest) ≡ initializers (declarator_records ds) + count forest
unfolding initializer_trees declarator_records initializers
initializers-counted [] forest = omega arith
initializers-counted (d ∷ ds) forest = omega (arith, initializer-counted d.initializer (initializer_trees ds forest), initializers-counted ds forest)

statement-counted : (s : Statement) (forest : Trees) → count (statement_trees s forest) ≡ initializers (declarator_records (declarators_in s)) + (one (eqb (statement_number s) 5) + count forest)
unfolding statement_trees declarators_in statement_number declarator_records initializers count
statement-counted (declaration k ds) forest = rw (no_declaration k 5 (omega arith)) (omega (arith, initializers-counted ds forest))
statement-counted (expression t) forest = omega arith
statement-counted other forest = omega arith

-- row 8: the trees are as many as the initializers and the expressions; that they close is `closed_preorders-alone`
pub trees-counted : (ss : List Statement) → count (all_trees ss) ≡ initializers (declarator_records (all_declarators ss)) + expressions (statement_records ss)
unfolding all_trees all_declarators statement_records statement_record expressions declarator_records initializers count
trees-counted [] = refl
trees-counted (s ∷ ss) =
    let own = declarator_records (declarators_in s) in
    let later = declarator_records (all_declarators ss) in
    let split = ap initializers (declarator_records-append (declarators_in s) (all_declarators ss)) ∙ initializers-append own later in
    omega (arith, statement-counted s (all_trees ss), trees-counted ss)
