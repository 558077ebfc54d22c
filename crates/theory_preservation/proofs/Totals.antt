-- Sums over the declarators and expression statements of a program, and what a tree in a place adds to them.
use Prim.Native.Nat.{ℕ, ◌+◌}
use native.Mathlib.Omega.{arith}
use mathlib.Core.List.{List, [], ◌∷◌, ◌++◌}
use mathlib.Core.Path.{◌≡◌, refl}
use lib.Dec.{eqb}
use Rattle.records.specs.Tree.{Node, Tree, Trees, none, more}
use Rattle.records.specs.Count.{uses_in, uses_of}
use Rattle.records.specs.File.{one, DeclarationKind, Initializer, bare, given, Declarator, Statement, declaration, expression, other, initializer_tree, initializer_trees, statement_trees, all_trees, declarators_in, all_declarators}
use Rattle.statements_rules.specs.Declarators.{with_tree}
use Rattle.theory_preservation.proofs.Places.{Place, declarator, statement, initializer, declarators_at, statements_at}

-- the weight of an initializer
unfoldable pub weighed : (Tree → ℕ) → Initializer → ℕ
weighed w bare = 0
weighed w (given t) = w t

abbrev pub of_initializer : (Tree → ℕ) → Declarator → ℕ
of_initializer w d = weighed w d.initializer

module _ (wd : Declarator → ℕ) (we : Tree → ℕ) where
  unfoldable pub total_of : List Declarator → ℕ
  total_of [] = 0
  total_of (d ∷ ds) = wd d + total_of ds

  unfoldable pub total_in : Statement → ℕ
  total_in (declaration k ds) = total_of ds
  total_in (expression t) = we t
  total_in other = 0

  unfoldable pub total : List Statement → ℕ
  total [] = 0
  total (s ∷ ss) = total_in s + total ss

  pub of_append : (ds es : List Declarator) → total_of (ds ++ es) ≡ total_of ds + total_of es
  unfolding total_of
  of_append [] es = omega arith
  of_append (d ∷ ds) es = let h = of_append ds es in omega (arith, h)

  pub total-append : (ss ts : List Statement) → total (ss ++ ts) ≡ total ss + total ts
  unfolding total
  total-append [] ts = omega arith
  total-append (s ∷ ss) ts = let h = total-append ss ts in omega (arith, h)

  -- what the tree in a place weighs, and what stands around it
  unfoldable pub there : Place → Tree → ℕ
  there (declarator d ds) t = wd (with_tree d t)
  there statement t = we t
  there (initializer k d ds) t = wd (with_tree d t)

  unfoldable pub around : Place → List Statement → ℕ
  around (declarator d ds) after = total_of ds + total after
  around statement after = total after
  around (initializer k d ds) after = total_of ds + total after

  place-total : (p : Place) (t : Tree) (after : List Statement) → total_of (declarators_at p t) + total (statements_at p t after) ≡ there p t + around p after
  unfolding total_of total total_in there around declarators_at statements_at
  place-total (declarator d ds) t after = omega arith
  place-total statement t after = omega arith
  place-total (initializer k d ds) t after = omega arith

  declared-total : (before : List Statement) (k : DeclarationKind) (ds es : List Declarator) (after : List Statement) → total (before ++ (declaration k (ds ++ es) ∷ after)) ≡ total before + total_of ds + (total_of es + total after)
  unfolding total total_in
  declared-total before k ds es after = let h = total-append before (declaration k (ds ++ es) ∷ after) in let g = of_append ds es in omega (arith, h, g)

  pub site_total : (before : List Statement) (k : DeclarationKind) (ds : List Declarator) (p : Place) (t : Tree) (after : List Statement) → total (before ++ (declaration k (ds ++ declarators_at p t) ∷ statements_at p t after)) ≡ total before + total_of ds + around p after + there p t
  site_total before k ds p t after = let h = declared-total before k ds (declarators_at p t) (statements_at p t after) in let g = place-total p t after in omega (arith, h, g)

  with_one : (d : Declarator) (p : Place) (t : Tree) → total_of (d ∷ declarators_at p t) ≡ wd d + total_of (declarators_at p t)
  unfolding total_of
  with_one d p t = refl

  pub fold-total : (before : List Statement) (k : DeclarationKind) (ds : List Declarator) (d : Declarator) (p : Place) (t : Tree) (after : List Statement) → total (before ++ (declaration k (ds ++ (d ∷ declarators_at p t)) ∷ statements_at p t after)) ≡ total before + total_of ds + around p after + there p t + wd d
  fold-total before k ds d p t after =
      let h = declared-total before k ds (d ∷ declarators_at p t) (statements_at p t after) in
      let g = place-total p t after in
      let e = with_one d p t in
      omega (arith, h, g, e)

  pub drop-total : (before : List Statement) (k : DeclarationKind) (after : List Statement) → total (before ++ (declaration k [] ∷ after)) ≡ total (before ++ after)
  unfolding total total_in total_of
  drop-total before k after = let h = total-append before (declaration k [] ∷ after) in let g = total-append before after in omega (arith, h, g)

-- a weight of trees is there what the tree weighs
pub there-tree : (w : Tree → ℕ) (p : Place) (t : Tree) → there (of_initializer w) w p t ≡ w t
unfolding there weighed
there-tree w (declarator d ds) t = refl
there-tree w statement t = refl
there-tree w (initializer k d ds) t = refl

-- what a program weighs in all its trees
abbrev pub trees : (Tree → ℕ) → List Statement → ℕ
trees w P = total (of_initializer w) w P

-- how often a declarator, and a program, declares a name
abbrev pub declaring : ℕ → Declarator → ℕ
declaring a d = one (eqb d.name a)

abbrev pub declarations : ℕ → List Statement → ℕ
declarations a P = total (declaring a) (λ t. 0) P

-- the tree in a place declares nothing
pub there-declared : (a : ℕ) (p : Place) (t t' : Tree) → there (declaring a) (λ t. 0) p t ≡ there (declaring a) (λ t. 0) p t'
unfolding there
there-declared a (declarator d ds) t t' = refl
there-declared a statement t t' = refl
there-declared a (initializer k d ds) t t' = refl

-- Any weight, over the forest of all trees.
unfoldable pub sums : (Tree → ℕ) → Trees → ℕ
sums w none = 0
sums w (more t ts) = w t + sums w ts

module _ (w : Tree → ℕ) where
  initializer-sums : (i : Initializer) (ts : Trees) → sums w (initializer_tree i ts) ≡ weighed w i + sums w ts
  unfolding sums initializer_tree weighed
  initializer-sums bare ts = omega arith
  initializer-sums (given t) ts = refl

  declarators-sums : (ds : List Declarator) (ts : Trees) → sums w (initializer_trees ds ts) ≡ total_of (of_initializer w) w ds + sums w ts
  unfolding initializer_trees total_of
  declarators-sums [] ts = omega arith
  declarators-sums (d ∷ ds) ts = let h = declarators-sums ds ts in let g = initializer-sums d.initializer (initializer_trees ds ts) in omega (arith, h, g)

  statement-sums : (s : Statement) (ts : Trees) → sums w (statement_trees s ts) ≡ total_in (of_initializer w) w s + sums w ts
  unfolding statement_trees total_in sums
  statement-sums (declaration k ds) ts = declarators-sums ds ts
  statement-sums (expression t) ts = refl
  statement-sums other ts = omega arith

  pub program-sums : (ss : List Statement) → sums w (all_trees ss) ≡ trees w ss
  unfolding all_trees total sums
  program-sums [] = refl
  program-sums (s ∷ ss) = let h = program-sums ss in let g = statement-sums s (all_trees ss) in omega (arith, h, g)

-- The counts of row 10 are such sums.
module _ (named : Node → Trees → ℕ) (a : ℕ) where
  uses-sums : (ts : Trees) → uses_of named a ts ≡ sums (uses_in named a) ts
  unfolding uses_in sums
  uses-sums none = refl
  uses-sums (more t ts) = let h = uses-sums ts in omega (arith, h)

  -- a program's uses of a name are the sum over its trees
  pub program-uses : (ss : List Statement) → uses_of named a (all_trees ss) ≡ trees (uses_in named a) ss
  program-uses ss = let h = uses-sums (all_trees ss) in let g = program-sums (uses_in named a) ss in omega (arith, h, g)

-- A weight of declarators, over the list of them all.
module _ (wd : Declarator → ℕ) where
  statement-declarators : (s : Statement) → total_in wd (λ t. 0) s ≡ total_of wd (λ t. 0) (declarators_in s)
  unfolding total_in total_of declarators_in
  statement-declarators (declaration k ds) = refl
  statement-declarators (expression t) = refl
  statement-declarators other = refl

  pub program-declarators : (ss : List Statement) → total wd (λ t. 0) ss ≡ total_of wd (λ t. 0) (all_declarators ss)
  unfolding total total_of all_declarators
  program-declarators [] = refl
  program-declarators (s ∷ ss) =
      let h = program-declarators ss in
      let g = statement-declarators s in
      let e = of_append wd (λ t. 0) (declarators_in s) (all_declarators ss) in
      omega (arith, h, g, e)
