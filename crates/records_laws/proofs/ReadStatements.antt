-- Statements that are read of records, and the records of those. Assumes nothing.
use mathlib.Core.Path.{◌≡◌, refl, sym, ap, ap₂, ◌∙◌}
use mathlib.Core.Bool.{Bool, true, false, cond, ◌&&◌, ◌||◌}
use mathlib.Core.List.{List, [], ◌∷◌, ◌++◌}
use Prim.Native.Nat.{ℕ, zero, suc, ◌+◌, ◌≤◌}
use native.Mathlib.Omega.{arith}
use lib.ListN.{length, take, drop, length-drop, take-append-drop}
use lib.Seq.{length-take-le}
use lib.Dec.{eqb, ltb, leb}
use borrow.Author.Tests.{leb-true, eqb-true}
use Rattle.records.specs.Records.{every}
use Rattle.records.specs.Tree.{Tree, Trees, none, more, count, others}
use Rattle.records.specs.File.{DeclarationKind, Var, Let, Const, Using, AwaitUsing, bare, given, Statement, one, first_tree, initializers, read_declarators, read_statement, trees_of, read_statements, is_given, declarator_records, kind_number, declarators_in, statement_number, statement_record, statement_records, all_declarators, initializer_tree, initializer_trees, statement_trees, all_trees}
use Rattle.records.specs.Script.{good_statement, declarator_sum}
use Rattle.records.specs.Place.{expressions}
use Rattle.records.specs.declared.layout.DeclaratorRecord.{DeclaratorRecord}
use Rattle.records.specs.declared.layout.StatementRecord.{StatementRecord}
use Rattle.records.proofs.Tests.{both, every-parts, every-cut}
use Rattle.records_laws.proofs.Forests.{count_zero, count-others, others_zero, others-others}
use Rattle.records_laws.proofs.PrintedStatements.{declarator_records-length, declarator_records-append, declaration-read, declaration-trees}

-- an initializer's mark is 0 or 1
abbrev pub present_known : DeclaratorRecord → Bool
present_known d = leb d.present 1

-- a declarator's mark, from the initializer that it stands for
present_again : (n : ℕ) (t : Tree) → leb n 1 ≡ true → is_given (cond (eqb n 1) (given t) bare) ≡ n
unfolding is_given
present_again zero t h = refl
present_again (suc zero) t h = refl
present_again (suc (suc n)) t h = absurd (omega (arith, leb-true (suc (suc n)) 1 h))

-- an initializer that is there takes a tree
tree_again : (b : Bool) (forest : Trees) → one b ≤ count forest → initializer_tree (cond b (given (first_tree forest)) bare) (others (one b) forest) ≡ forest
unfolding initializer_tree first_tree others count
tree_again true none h = absurd (omega arith)
tree_again true (more t ts) h = refl
tree_again false forest h = refl

-- the records of declarators that were read are those that stood there
pub declarators-again : (ds : List DeclaratorRecord) (forest : Trees) → every present_known ds ≡ true → declarator_records (read_declarators ds forest) ≡ ds
unfolding declarator_records read_declarators
declarators-again [] forest h = refl
declarators-again (d ∷ ds) forest h =
    let p = every-parts present_known d ds h in
    ap₂ ◌∷◌ (λ k. record { name = d.name; present = present_again d.present (first_tree forest) p.0 k })
    (declarators-again ds (others (one (eqb d.present 1)) forest) p.1)

-- and their initializers are the trees that stood in front
pub initializers-again : (ds : List DeclaratorRecord) (forest : Trees) → initializers ds ≤ count forest
    → initializer_trees (read_declarators ds forest) (others (initializers ds) forest) ≡ forest
unfolding initializer_trees read_declarators initializers
initializers-again [] forest h = others_zero forest
initializers-again (d ∷ ds) forest h =
    let b = eqb d.present 1 in
    let rest = others (one b) forest in
    ap (initializer_tree (cond b (given (first_tree forest)) bare))
    (ap (initializer_trees (read_declarators ds rest)) (sym (others-others (one b) (initializers ds) forest)) ∙ initializers-again ds rest (omega (arith, count-others (one b) forest)))
    ∙ tree_again b forest (omega arith)

-- the numbers of statements, by what they say
data Kind : ℕ → Type 0 where
  declares : (k : DeclarationKind) → Kind (kind_number k)
  expresses : Kind 5
  says_other : Kind 6

kind-known : (k : ℕ) → k ≤ 6 → Kind k
unfolding kind_number
kind-known zero h = declares Var
kind-known (suc zero) h = declares Let
kind-known (suc (suc zero)) h = declares Const
kind-known (suc (suc (suc zero))) h = declares Using
kind-known (suc (suc (suc (suc zero)))) h = declares AwaitUsing
kind-known (suc (suc (suc (suc (suc zero))))) h = expresses
kind-known (suc (suc (suc (suc (suc (suc zero)))))) h = says_other
kind-known (suc (suc (suc (suc (suc (suc (suc k))))))) h = absurd (omega arith)

-- a statement's record, its declarators and its trees, again from the statement that was read of them
record Again (s : StatementRecord) (ds : List DeclaratorRecord) (forest : Trees) : Type 0 where
  same : statement_record (read_statement s ds forest) ≡ s
  declared : declarator_records (declarators_in (read_statement s ds forest)) ≡ take s.declarators ds
  trees : statement_trees (read_statement s ds forest) (others (trees_of s ds) forest) ≡ forest

module _ (ds : List DeclaratorRecord) (forest : Trees) (known : every present_known ds ≡ true) where
  -- the declarators of a declaration
  own-again : (n : ℕ) → declarator_records (read_declarators (take n ds) forest) ≡ take n ds
  own-again n = declarators-again (take n ds) forest (every-cut present_known n ds known).0

  own-length : (n : ℕ) → n ≤ length ds → length (read_declarators (take n ds) forest) ≡ n
  own-length n fits = sym (declarator_records-length (read_declarators (take n ds) forest)) ∙ ap length (own-again n) ∙ length-take-le n ds fits

  declaration-again : (k : DeclarationKind) (z n : ℕ) → z ≡ 0 → n ≤ length ds → trees_of (record { kind = kind_number k; zero = z; declarators = n }) ds ≤ count forest
      → Again (record { kind = kind_number k; zero = z; declarators = n }) ds forest
  unfolding statement_record statement_number declarators_in statement_trees
  declaration-again k z n ez fits room =
      let read = declaration-read k z n ds forest in
      let many = declaration-trees k z n ds in
      record {
        same = ap statement_record read ∙ (λ i. record { kind = kind_number k; zero = sym ez i; declarators = own-length n fits i });
        declared = ap (λ (s : Statement). declarator_records (declarators_in s)) read ∙ own-again n;
        trees = ap₂ (λ (s : Statement) (m : ℕ). statement_trees s (others m forest)) read many ∙ initializers-again (take n ds) forest (rw many at room);
      }

  kind-again : {k : ℕ} → Kind k → (z n : ℕ) → z ≡ 0 → (ltb k 5 || eqb n 0) ≡ true → n ≤ length ds
      → trees_of (record { kind = k; zero = z; declarators = n }) ds ≤ count forest → Again (record { kind = k; zero = z; declarators = n }) ds forest
  unfolding statement_record read_statement declarators_in statement_number statement_trees trees_of initializers declarator_records initializer_tree
  kind-again (declares k) z n ez en fits room = declaration-again k z n ez fits room
  kind-again expresses z zero ez en fits room = record { same = λ i. record { kind = 5; zero = sym ez i; declarators = 0 }; declared = refl; trees = tree_again true forest room }
  kind-again expresses z (suc n) ez en fits room = absurd (omega (arith, eqb-true (suc n) 0 en))
  kind-again says_other z zero ez en fits room = record { same = λ i. record { kind = 6; zero = sym ez i; declarators = 0 }; declared = refl; trees = others_zero forest }
  kind-again says_other z (suc n) ez en fits room = absurd (omega (arith, eqb-true (suc n) 0 en))

  -- a good statement, of any kind
  statement-again : (s : StatementRecord) → good_statement s ≡ true → s.declarators ≤ length ds → trees_of s ds ≤ count forest → Again s ds forest
  unfolding good_statement
  statement-again s good fits room =
      let p = both (leb s.kind 6 && eqb s.zero 0) (ltb s.kind 5 || eqb s.declarators 0) good in
      let q = both (leb s.kind 6) (eqb s.zero 0) p.0 in
      kind-again (kind-known s.kind (leb-true s.kind 6 q.0)) s.zero s.declarators (eqb-true s.zero 0 q.1) p.1 fits room

-- the initializers of two lists of declarators
pub initializers-append : (ds es : List DeclaratorRecord) → initializers (ds ++ es) ≡ initializers ds + initializers es
unfolding initializers
initializers-append [] es = omega arith
initializers-append (d ∷ ds) es = omega (arith, initializers-append ds es)

-- the records, the declarators and the trees, again from the statements that were read of them
pub record AllAgain (ss : List StatementRecord) (ds : List DeclaratorRecord) (forest : Trees) : Type 0 where
  pub same : statement_records (read_statements ss ds forest) ≡ ss
  pub declared : declarator_records (all_declarators (read_statements ss ds forest)) ≡ ds
  pub trees : all_trees (read_statements ss ds forest) ≡ forest

-- From records to statements and back: good records are those of their statements, if the declarators and the trees
-- are as many as they say.
pub statements-again : (ss : List StatementRecord) (ds : List DeclaratorRecord) (forest : Trees) → every good_statement ss ≡ true → every present_known ds ≡ true
    → declarator_sum ss ≡ length ds → count forest ≡ initializers ds + expressions ss → AllAgain ss ds forest
unfolding statement_records all_declarators declarator_records all_trees read_statements declarator_sum expressions initializers trees_of
statements-again [] [] forest good known sum many = record { same = refl; declared = refl; trees = sym (count_zero forest many) }
statements-again [] (d ∷ ds) forest good known sum many = absurd (omega arith)
statements-again (s ∷ ss) ds forest good known sum many =
    let n = s.declarators in
    let left = others (trees_of s ds) forest in
    let goods = every-parts good_statement s ss good in
    let cut : initializers ds ≡ initializers (take n ds) + initializers (drop n ds) = ap initializers (sym (take-append-drop n ds)) ∙ initializers-append (take n ds) (drop n ds) in
    let first = statement-again ds forest known s goods.0 (omega arith) (omega (arith, cut)) in
    let later = statements-again ss (drop n ds) left goods.1 (every-cut present_known n ds known).1 (omega (arith, length-drop n ds)) (omega (arith, cut, count-others (trees_of s ds) forest)) in
    record {
      same = ap₂ ◌∷◌ first.same later.same;
      declared =
          declarator_records-append (declarators_in (read_statement s ds forest)) (all_declarators (read_statements ss (drop n ds) left))
          ∙ ap₂ ◌++◌ first.declared later.declared ∙ take-append-drop n ds;
      trees = ap (statement_trees (read_statement s ds forest)) later.trees ∙ first.trees;
    }
