-- Statements, their records, and what is read of those. Assumes nothing.
use mathlib.Core.Path.{◌≡◌, refl, sym, ap, ap₂, ◌∙◌}
use mathlib.Core.Bool.{false, cond}
use mathlib.Core.List.{List, [], ◌∷◌, ◌++◌}
use Prim.Native.Nat.{ℕ, suc, ◌≤◌, ◌<◌}
use native.Mathlib.Nat.{zero-add}
use native.Mathlib.Omega.{arith}
use lib.ListN.{length, take, drop}
use lib.Seq.{take_at, drop_at}
use lib.Dec.{eqb}
use borrow.Author.Tests.{ne_eqb}
use Rattle.records.specs.Tree.{Trees, others}
use Rattle.records.specs.File.{DeclarationKind, Var, Let, Const, Using, AwaitUsing, Initializer, bare, given, Declarator, Statement, declaration, expression, other, one, first_tree, initializers, read_declarators, declaration_kind, read_statement, trees_of, read_statements, is_given, declarator_records, kind_number, declarators_in, statement_number, statement_record, statement_records, all_declarators, initializer_tree, initializer_trees, statement_trees, all_trees}
use Rattle.records.specs.declared.layout.DeclaratorRecord.{DeclaratorRecord}
use Rattle.records_laws.proofs.Forests.{others_zero, others-others}

-- a record for each declarator
pub declarator_records-length : (ds : List Declarator) → length (declarator_records ds) ≡ length ds
unfolding declarator_records
declarator_records-length [] = refl
declarator_records-length (d ∷ ds) = ap suc (declarator_records-length ds)

-- and for each statement
pub statement_records-length : (ss : List Statement) → length (statement_records ss) ≡ length ss
unfolding statement_records
statement_records-length [] = refl
statement_records-length (s ∷ ss) = ap suc (statement_records-length ss)

-- the records of declarators before others
pub declarator_records-append : (ds es : List Declarator) → declarator_records (ds ++ es) ≡ declarator_records ds ++ declarator_records es
unfolding declarator_records
declarator_records-append [] es = refl
declarator_records-append (d ∷ ds) es = rw (declarator_records-append ds es)

-- from the front, so many are those of the first
pub declarators_front : (ds es : List Declarator) → take (length ds) (declarator_records (ds ++ es)) ≡ declarator_records ds
declarators_front ds es = rw (declarator_records-append ds es) (take_at (declarator_records ds) (declarator_records es) (length ds) (declarator_records-length ds))

-- and behind those are those of the others
pub declarators-behind : (ds es : List Declarator) → drop (length ds) (declarator_records (ds ++ es)) ≡ declarator_records es
declarators-behind ds es = rw (declarator_records-append ds es) (drop_at (declarator_records ds) (declarator_records es) (length ds) (declarator_records-length ds))

-- an initializer before other trees
initializer-read : (i : Initializer) (forest : Trees) → cond (eqb (is_given i) 1) (given (first_tree (initializer_tree i forest))) bare ≡ i
unfolding is_given initializer_tree first_tree
initializer-read bare forest = refl
initializer-read (given t) forest = refl

initializer-passed : (i : Initializer) (forest : Trees) → others (one (eqb (is_given i) 1)) (initializer_tree i forest) ≡ forest
unfolding is_given initializer_tree others
initializer-passed bare forest = refl
initializer-passed (given t) forest = refl

-- declarators are read of their records and of their initializers, before other trees
pub declarators-read : (ds : List Declarator) (forest : Trees) → read_declarators (declarator_records ds) (initializer_trees ds forest) ≡ ds
unfolding declarator_records initializer_trees read_declarators
declarators-read [] forest = refl
declarators-read (d ∷ ds) forest =
    let rest = initializer_trees ds forest in
    ap₂ ◌∷◌ (λ k. record { name = d.name; initializer = initializer-read d.initializer rest k })
    (ap (read_declarators (declarator_records ds)) (initializer-passed d.initializer rest) ∙ declarators-read ds forest)

-- and the other trees are left
pub declarators-passed : (ds : List Declarator) (forest : Trees) → others (initializers (declarator_records ds)) (initializer_trees ds forest) ≡ forest
unfolding declarator_records initializer_trees initializers
declarators-passed [] forest = others_zero forest
declarators-passed (d ∷ ds) forest =
    let rest = initializer_trees ds forest in
    sym (others-others (one (eqb (is_given d.initializer) 1)) (initializers (declarator_records ds)) (initializer_tree d.initializer rest))
    ∙ ap (others (initializers (declarator_records ds))) (initializer-passed d.initializer rest) ∙ declarators-passed ds forest

-- a declaration's number is below those of the other statements
pub kind-small : (k : DeclarationKind) → kind_number k < 5
unfolding kind_number
kind-small Var = omega arith
kind-small Let = omega arith
kind-small Const = omega arith
kind-small Using = omega arith
kind-small AwaitUsing = omega arith

-- and tells its kind
pub kind-back : (k : DeclarationKind) → declaration_kind (kind_number k) ≡ k
unfolding kind_number declaration_kind
kind-back Var = refl
kind-back Let = refl
kind-back Const = refl
kind-back Using = refl
kind-back AwaitUsing = refl

-- so it is not one of theirs
pub no_declaration : (k : DeclarationKind) (n : ℕ) → 5 ≤ n → eqb (kind_number k) n ≡ false
no_declaration k n h = ne_eqb (kind_number k) n (λ e. omega (arith, kind-small k))

-- a declaration is read of its number and its declarators
module _ (k : DeclarationKind) (z n : ℕ) (ds : List DeclaratorRecord) where
  pub declaration-read : (forest : Trees) → read_statement (record { kind = kind_number k; zero = z; declarators = n }) ds forest ≡ declaration k (read_declarators (take n ds) forest)
  unfolding read_statement
  declaration-read forest = rw (no_declaration k 5 (omega arith), no_declaration k 6 (omega arith), kind-back k)

  -- and has the trees of their initializers
  pub declaration-trees : trees_of (record { kind = kind_number k; zero = z; declarators = n }) ds ≡ initializers (take n ds)
  unfolding trees_of
  declaration-trees = rw (no_declaration k 5 (omega arith)) (zero-add (initializers (take n ds)))

-- a statement before others is read, and the trees of the others are left
module _ (es : List Declarator) (forest : Trees) where
  statement-read : (s : Statement) → read_statement (statement_record s) (declarator_records (declarators_in s ++ es)) (statement_trees s forest) ≡ s
  unfolding statement_record statement_number declarators_in statement_trees read_statement first_tree
  statement-read (declaration k ds) =
      let trees = initializer_trees ds forest in
      declaration-read k 0 (length ds) (declarator_records (ds ++ es)) trees
      ∙ ap (declaration k) (ap (λ (rs : List DeclaratorRecord). read_declarators rs trees) (declarators_front ds es) ∙ declarators-read ds forest)
  statement-read (expression t) = refl
  statement-read other = refl

  statement-passed : (s : Statement) → others (trees_of (statement_record s) (declarator_records (declarators_in s ++ es))) (statement_trees s forest) ≡ forest
  unfolding statement_record statement_number declarators_in statement_trees trees_of initializers others
  statement-passed (declaration k ds) =
      ap (λ (n : ℕ). others n (initializer_trees ds forest)) (declaration-trees k 0 (length ds) (declarator_records (ds ++ es)) ∙ ap initializers (declarators_front ds es))
      ∙ declarators-passed ds forest
  statement-passed (expression t) = refl
  statement-passed other = refl

-- From statements to records and back.
pub statements-read : (ss : List Statement) → read_statements (statement_records ss) (declarator_records (all_declarators ss)) (all_trees ss) ≡ ss
unfolding statement_records statement_record all_declarators all_trees read_statements
statements-read [] = refl
statements-read (s ∷ ss) =
    ap₂ ◌∷◌ (statement-read (all_declarators ss) (all_trees ss) s)
    (ap₂ (read_statements (statement_records ss)) (declarators-behind (declarators_in s) (all_declarators ss)) (statement-passed (all_declarators ss) (all_trees ss) s)
    ∙ statements-read ss)
