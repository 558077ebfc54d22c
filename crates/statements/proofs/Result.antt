-- What the tables hold in the end: the trees and the records of the statements that are kept. Assumes nothing.
use mathlib.Core.Path.{◌≡◌, refl, sym, ap, ◌∙◌}
use mathlib.Core.List.{List, [], ◌∷◌, ◌++◌, append_assoc, append-nil, map, reverse, reverse_aux, reverse-reverse}
use Prim.Native.Nat.{ℕ, suc, ◌+◌, ◌*◌, ◌≤◌}
use native.Mathlib.Nat.{zero-add}
use native.Mathlib.Numerals.{add-one}
use native.Mathlib.Omega.{arith}
use lib.ListN.{length, drop, length-reverse}
use Rattle.records.specs.Bytes.{Bytes}
use Rattle.records.specs.Record.{declarator_at, declarator_bytes, statement_at, statement_bytes}
use Rattle.records.specs.Records.{records_from, bytes_of}
use Rattle.records.specs.Tree.{Trees, sizes}
use Rattle.records.specs.File.{Initializer, bare, given, Declarator, Statement, declaration, expression, other, declarator_records, declarators_in, statement_record, statement_records, initializer_tree, initializer_trees, statement_trees, all_trees, all_declarators}
use Rattle.records.specs.declared.layout.DeclaratorRecord.{DeclaratorRecord}
use Rattle.records.specs.declared.layout.StatementRecord.{StatementRecord}
use Rattle.records.proofs.Series.{records-length}
use Rattle.records_laws.proofs.Series.{records_from_add, print-all}
use Rattle.records_laws.proofs.Formats.{declarator-reads, declarator_prints, statement-reads, statement_prints}
use Rattle.records_laws.proofs.PrintedStatements.{declarator_records-append, declarator_records-length, statement_records-length}
use Rattle.records_table.specs.Laid.{laids}
use Rattle.records_table.proofs.Laid.{laids-length}
use Rattle.statements_rules.specs.Statements.{Kept, statement_of, in_file_order}
use Rattle.statements_search.specs.Kept.{laid_initializer, laid_declarators, Held}
use Rattle.statements_search.specs.KeptStatements.{laid_statement, laid_kept, nodes_kept, declarators_kept, HeldKept}
use Rattle.statements_search.proofs.KeptRecords.{kept-length}
use Rattle.statements.specs.Declarators.{record_for}

-- The trees.
initializer-laid : (i : Initializer) (ts : Trees) (rest : List ℕ) → laid_initializer i (laids ts rest) ≡ laids (initializer_tree i ts) rest
unfolding laid_initializer laids initializer_tree
initializer-laid bare ts rest = refl
initializer-laid (given t) ts rest = refl

declarators-laid : (ds es : List Declarator) (ts : Trees) (rest : List ℕ) → laid_declarators (reverse_aux ds es) (laids ts rest) ≡ laid_declarators es (laids (initializer_trees ds ts) rest)
unfolding laid_declarators initializer_trees
declarators-laid [] es ts rest = refl
declarators-laid (d ∷ ds) es ts rest =
    declarators-laid ds (d ∷ es) ts rest ∙ ap (laid_declarators es) (initializer-laid d.initializer (initializer_trees ds ts) rest)

statement-laid : (s : Statement) (ts : Trees) (rest : List ℕ) → laid_statement s (laids ts rest) ≡ laids (statement_trees s ts) rest
unfolding laid_statement laid_declarators laids statement_trees
statement-laid (declaration kind ds) ts rest = declarators-laid ds [] ts rest
statement-laid (expression t) ts rest = refl
statement-laid other ts rest = refl

kept-laid : (ks ls : List Kept) (rest : List ℕ) → laid_kept ks (laids (all_trees (map statement_of ls)) rest) ≡ laids (all_trees (map statement_of (reverse_aux ks ls))) rest
unfolding laid_kept all_trees
kept-laid [] ls rest = refl
kept-laid (k ∷ ks) ls rest = ap (laid_kept ks) (statement-laid k.statement (all_trees (map statement_of ls)) rest) ∙ kept-laid ks (k ∷ ls) rest

pub trees-laid : (ks : List Kept) (rest : List ℕ) → laid_kept ks rest ≡ laids (all_trees (in_file_order ks)) rest
unfolding laids all_trees
trees-laid ks rest = kept-laid ks [] rest

pub nodes-counted : (ks : List Kept) → nodes_kept ks ≡ sizes (all_trees (in_file_order ks))
nodes-counted ks = omega (arith, ap length (trees-laid ks []), kept-length ks [], laids-length (all_trees (in_file_order ks)) [])

-- one record more
one_more : {A : Type 0} (readAt : ℕ → A) (n at : ℕ) (x : A) (xs : List A) → readAt (at + 4 * n) ≡ x → records_from readAt 4 (suc n) at ++ xs ≡ records_from readAt 4 n at ++ (x ∷ xs)
unfolding records_from
one_more readAt n at x xs e =
    ap (λ (k : ℕ). records_from readAt 4 k at ++ xs) (sym (add-one n))
    ∙ ap (λ (l : List _). l ++ xs) (records_from_add readAt 4 n 1 at)
    ∙ append_assoc (records_from readAt 4 n at) (readAt (at + 4 * n) ∷ []) xs
    ∙ ap (λ (y : _). records_from readAt 4 n at ++ (y ∷ xs)) e

-- The records of declarators.
module _ (records starts : List ℕ) where
  held-records : (low at : ℕ) (ds es : List Declarator) → Held records starts low at ds
      → records_from (declarator_at records) 4 (length ds) (4 * low) ++ declarator_records es ≡ declarator_records (reverse_aux ds es)
  unfolding Held records_from declarator_records
  held-records low at [] es h = refl
  held-records low at (d ∷ ds) es h =
      one_more (declarator_at records) (length ds) (4 * low) (record_for d) (declarator_records es) (ap (declarator_at records) (omega arith) ∙ h.0)
      ∙ held-records low at ds (d ∷ es) h.2

  own-records : (low at : ℕ) (ds : List Declarator) → Held records starts low at (reverse ds) → records_from (declarator_at records) 4 (length ds) (4 * low) ≡ declarator_records ds
  unfolding declarator_records
  own-records low at ds h =
      ap (λ (n : ℕ). records_from (declarator_at records) 4 n (4 * low)) (sym (length-reverse ds))
      ∙ sym (append-nil (records_from (declarator_at records) 4 (length (reverse ds)) (4 * low)))
      ∙ held-records low at (reverse ds) [] h
      ∙ ap declarator_records (reverse-reverse ds)

  module _ (statements : List ℕ) where
    kept-records : (ks ls : List Kept) → HeldKept records starts statements ks
        → records_from (declarator_at records) 4 (declarators_kept ks) 0 ++ declarator_records (all_declarators (map statement_of ls)) ≡ declarator_records (all_declarators (map statement_of (reverse_aux ks ls)))
    unfolding HeldKept declarators_kept records_from all_declarators
    kept-records [] ls h = refl
    kept-records (k ∷ ks) ls h =
        let n = declarators_kept ks in
        let ds = declarators_in k.statement in
        let more = declarator_records (all_declarators (map statement_of ls)) in
        ap (λ (l : List DeclaratorRecord). l ++ more) (records_from_add (declarator_at records) 4 n (length ds) 0)
        ∙ append_assoc (records_from (declarator_at records) 4 n 0) (records_from (declarator_at records) 4 (length ds) (0 + 4 * n)) more
        ∙ ap (λ (l : List DeclaratorRecord). records_from (declarator_at records) 4 n 0 ++ (l ++ more)) (ap (records_from (declarator_at records) 4 (length ds)) (zero-add (4 * n)) ∙ own-records n (nodes_kept ks) ds h.1)
        ∙ ap (λ (l : List DeclaratorRecord). records_from (declarator_at records) 4 n 0 ++ l) (sym (declarator_records-append ds (all_declarators (map statement_of ls))))
        ∙ kept-records ks (k ∷ ls) h.2

    kept-statements : (ks ls : List Kept) → HeldKept records starts statements ks
        → records_from (statement_at statements) 4 (length ks) 0 ++ statement_records (map statement_of ls) ≡ statement_records (map statement_of (reverse_aux ks ls))
    unfolding HeldKept records_from statement_records
    kept-statements [] ls h = refl
    kept-statements (k ∷ ks) ls h =
        one_more (statement_at statements) (length ks) 0 (statement_record k.statement) (statement_records (map statement_of ls)) (ap (statement_at statements) (zero-add (4 * length ks)) ∙ h.0)
        ∙ kept-statements ks (k ∷ ls) h.2

    module _ (ks : List Kept) (h : HeldKept records starts statements ks) where
      all-declarators : records_from (declarator_at records) 4 (declarators_kept ks) 0 ≡ declarator_records (all_declarators (in_file_order ks))
      unfolding all_declarators declarator_records
      all-declarators = sym (append-nil (records_from (declarator_at records) 4 (declarators_kept ks) 0)) ∙ kept-records ks [] h

      all-statements : records_from (statement_at statements) 4 (length ks) 0 ≡ statement_records (in_file_order ks)
      unfolding statement_records
      all-statements = sym (append-nil (records_from (statement_at statements) 4 (length ks) 0)) ∙ kept-statements ks [] h

      pub declarators-counted : declarators_kept ks ≡ length (all_declarators (in_file_order ks))
      declarators-counted =
          sym (records-length (declarator_at records) 4 (declarators_kept ks) 0) ∙ ap length all-declarators ∙ declarator_records-length (all_declarators (in_file_order ks))

      pub statements-counted : length ks ≡ length (in_file_order ks)
      statements-counted = sym (records-length (statement_at statements) 4 (length ks) 0) ∙ ap length all-statements ∙ statement_records-length (in_file_order ks)

      pub declarators_printed : Bytes records → 4 * declarators_kept ks ≤ length records
          → records ≡ bytes_of declarator_bytes (declarator_records (all_declarators (in_file_order ks))) ++ drop (0 + 4 * declarators_kept ks) records
      declarators_printed small l =
          sym (print-all declarator-reads declarator_prints records small (declarators_kept ks) 0 (omega arith))
          ∙ ap (λ (xs : List DeclaratorRecord). bytes_of declarator_bytes xs ++ drop (0 + 4 * declarators_kept ks) records) all-declarators

      pub statements_printed : Bytes statements → 4 * length ks ≤ length statements
          → statements ≡ bytes_of statement_bytes (statement_records (in_file_order ks)) ++ drop (0 + 4 * length ks) statements
      statements_printed small l =
          sym (print-all statement-reads statement_prints statements small (length ks) 0 (omega arith))
          ∙ ap (λ (xs : List StatementRecord). bytes_of statement_bytes xs ++ drop (0 + 4 * length ks) statements) all-statements
