-- What a fold does to the numbers of nodes, declarators and statements; what it copies. Assumes nothing.
use Prim.Native.Nat.{ℕ, ◌+◌, ◌≤◌}
use native.Mathlib.Omega.{arith}
use mathlib.Core.Path.{◌≡◌, refl, ap, ◌∙◌}
use mathlib.Core.Bool.{Bool, true, false, cond, ◌||◌}
use mathlib.Core.List.{List, [], ◌∷◌, ◌++◌, map, reverse, reverse_aux}
use lib.ListN.{length, length-append}
use Rattle.records.specs.Tree.{Tree, Trees, size, sizes}
use Rattle.records.specs.File.{DeclarationKind, Initializer, bare, given, Declarator, Statement, declaration, expression, other, File, declarators_in, all_declarators, initializer_tree, initializer_trees, statement_trees, all_trees}
use Rattle.walk_rules.specs.Context.{Context, non_scoped_literal_only, context_of}
use Rattle.walk_rules.specs.Substitute.{Answer, replaced, stopped, passed, substitute_in_expression}
use Rattle.walk_rules.specs.Looks.{looks_in_expression}
use Rattle.walk_rules.proofs.Sizes.{Sized, sized}
use Rattle.statements_rules.specs.Trace.{Traced, pure, ◌>>=◌, looked, folded}
use Rattle.statements_rules.specs.Declarators.{is_unsearched, is_using, ends_search, Searched, ended, FromDeclarators, after_answer, from_declarator, substitute_from_declarators, within_declarator, within_declarators, substitute_within_declaration}
use Rattle.statements_rules.specs.Statements.{Kept, statement_of, in_file_order, FromStatements, after_declarators, from_statement, from_statements, substitute_in_statement, in_initializer, in_first_declarator, fold_statement, fold_statements}
use Rattle.statements_rules.specs.Fold.{fold_file, folded_file, with_statements}

-- a sum over a list, in either order
unfoldable pub total : {A : Type 0} → (A → ℕ) → List A → ℕ
total f [] = 0
total f (x ∷ xs) = f x + total f xs

total_onto : {A : Type 0} (f : A → ℕ) (xs ys : List A) → total f (reverse_aux xs ys) ≡ total f xs + total f ys
unfolding total
total_onto f [] ys = omega arith
total_onto f (x ∷ xs) ys = total_onto f xs (x ∷ ys) ∙ omega arith

pub total_reverse : {A : Type 0} (f : A → ℕ) (xs : List A) → total f (reverse xs) ≡ total f xs
unfolding total
total_reverse f xs = total_onto f xs [] ∙ omega arith

length_onto : {A : Type 0} (xs ys : List A) → length (reverse_aux xs ys) ≡ length xs + length ys
length_onto [] ys = omega arith
length_onto (x ∷ xs) ys = length_onto xs (x ∷ ys) ∙ omega arith

unfoldable pub initializer_size : Initializer → ℕ
initializer_size bare = 0
initializer_size (given t) = size t

unfoldable pub declarator_size : Declarator → ℕ
declarator_size d = initializer_size d.initializer

-- the nodes and declarators of a statement
unfoldable pub weight : Statement → ℕ
weight (declaration kind ds) = total declarator_size ds + length ds
weight (expression t) = size t
weight other = 0

-- what a search leaves of a tree and of declarators weighs no more, and each fold takes one declarator
pub record Shrunk (nodes declarators : ℕ) (w : FromDeclarators) : Type 0 where
  pub lighter : size w.result.target + total declarator_size w.result.left + length w.result.left ≤ nodes + declarators
  pub fewer : length w.result.left + length w.trace ≡ declarators

module _ (ctx : Context) (before : List Statement) (kind : DeclarationKind) where
  after-answer : (d : Declarator) (initializer : Tree) (earlier : List Declarator) (target : Tree) (a : Answer Tree) (onward : Tree → FromDeclarators)
      → d.initializer ≡ given initializer → Sized initializer target a
      → ((t : Tree) → Shrunk (size t + total declarator_size earlier) (length earlier) (onward t))
      → Shrunk (size target + total declarator_size (d ∷ earlier)) (length (d ∷ earlier)) (after_answer ctx before kind d initializer earlier target a onward)
  unfolding after_answer total declarator_size initializer_size folded pure
  after-answer d initializer earlier target (replaced t) onward e s h =
      let k : initializer_size d.initializer ≡ size initializer = ap initializer_size e in
      let l = (h t).lighter in
      let m = (h t).fewer in
      record { lighter = omega arith; fewer = omega arith }
  after-answer d initializer earlier target (stopped t) onward e s h = record { lighter = omega arith; fewer = omega arith }
  after-answer d initializer earlier target passed onward e s h = record { lighter = omega arith; fewer = omega arith }

  ends : (d : Declarator) (earlier : List Declarator) (target : Tree)
      → Shrunk (size target + total declarator_size (d ∷ earlier)) (length (d ∷ earlier)) (ended target (d ∷ earlier))
  unfolding pure
  ends d earlier target = record { lighter = omega arith; fewer = omega arith }

  looked_shrunk : (nodes declarators : ℕ) (target : Tree) (looks : ℕ) (w : FromDeclarators) → Shrunk nodes declarators w → Shrunk nodes declarators (looked target looks w)
  unfolding looked
  looked_shrunk nodes declarators target looks w s = record { lighter = s.lighter; fewer = s.fewer }

  tested : (b : Bool) (d : Declarator) (earlier : List Declarator) (target : Tree) (w : FromDeclarators)
      → Shrunk (size target + total declarator_size (d ∷ earlier)) (length (d ∷ earlier)) w
      → Shrunk (size target + total declarator_size (d ∷ earlier)) (length (d ∷ earlier)) (cond b (ended target (d ∷ earlier)) w)
  tested true d earlier target w s = ends d earlier target
  tested false d earlier target w s = s

  from-declarator : (literal_only : Bool) (d : Declarator) (i : Initializer) (earlier : List Declarator) (target : Tree) (onward : Tree → FromDeclarators)
      → d.initializer ≡ i
      → ((t : Tree) → Shrunk (size t + total declarator_size earlier) (length earlier) (onward t))
      → Shrunk (size target + total declarator_size (d ∷ earlier)) (length (d ∷ earlier)) (from_declarator ctx before kind literal_only d i earlier target onward)
  unfolding from_declarator
  from-declarator literal_only d bare earlier target onward e h = ends d earlier target
  from-declarator literal_only d (given t) earlier target onward e h =
      tested (ends_search ctx literal_only d.name t) d earlier target _
      (looked_shrunk _ _ target (looks_in_expression ctx d.name t target) _
      (after-answer d t earlier target (substitute_in_expression ctx d.name t target) onward e (sized ctx d.name t target) h))

  pub from-declarators : (literal_only : Bool) (ds : List Declarator) (target : Tree)
      → Shrunk (size target + total declarator_size ds) (length ds) (substitute_from_declarators ctx before kind literal_only ds target)
  unfolding substitute_from_declarators
  from-declarators literal_only [] target = unfold pure total in (record { lighter = omega arith; fewer = omega arith })
  from-declarators literal_only (d ∷ earlier) target =
      from-declarator literal_only d d.initializer earlier target _ refl (λ t. from-declarators literal_only earlier t)

  -- what is left of a list of declarators
  pub record Within (nodes declarators : ℕ) (w : Traced (List Declarator)) : Type 0 where
    pub lighter : total declarator_size w.result + length w.result ≤ nodes + declarators
    pub fewer : length w.result + length w.trace ≡ declarators

  pub within-declarator : (earlier : List Declarator) (d : Declarator) (i : Initializer) → d.initializer ≡ i
      → Within (total declarator_size earlier + declarator_size d) (length earlier + 1) (within_declarator ctx before kind earlier d i)
  unfolding within_declarator pure ◌>>=◌ total declarator_size initializer_size
  within-declarator earlier d bare e = record { lighter = omega arith; fewer = omega arith }
  within-declarator earlier d (given t) e =
      let k : initializer_size d.initializer ≡ size t = ap initializer_size e in
      let s = from-declarators false earlier t in
      let w = substitute_from_declarators ctx before kind false earlier t in
      record {
        lighter = omega (arith, s.lighter, k);
        fewer = omega (arith, s.fewer, length-append w.trace []);
      }

  within-declarators : (earlier ds : List Declarator)
      → Within (total declarator_size earlier + total declarator_size ds) (length earlier + length ds) (within_declarators ctx before kind earlier ds)
  unfolding within_declarators pure ◌>>=◌ total
  within-declarators earlier [] =
      record {
        lighter = omega (arith, total_onto declarator_size earlier [], length_onto earlier []);
        fewer = omega (arith, length_onto earlier []);
      }
  within-declarators earlier (d ∷ ds) =
      let s = within-declarator earlier d d.initializer refl in
      let w = within_declarator ctx before kind earlier d d.initializer in
      let v = within_declarators ctx before kind w.result ds in
      let r = within-declarators w.result ds in
      record {
        lighter = omega (arith, s.lighter, r.lighter);
        fewer = omega (arith, s.fewer, r.fewer, length-append w.trace v.trace);
      }

  unless : (b : Bool) (ds : List Declarator) (w : Traced (List Declarator)) → Within (total declarator_size ds) (length ds) w
      → Within (total declarator_size ds) (length ds) (cond b (pure ds) w)
  unfolding pure
  unless true ds w s = record { lighter = omega arith; fewer = omega arith }
  unless false ds w s = s

  within-declaration : (ds : List Declarator) → Within (total declarator_size ds) (length ds) (substitute_within_declaration ctx before kind ds)
  unfolding substitute_within_declaration total
  within-declaration ds =
      let s = within-declarators [] ds in
      unless (is_unsearched ctx || is_using kind) ds (within_declarators ctx before kind [] ds)
      (record { lighter = omega (arith, s.lighter); fewer = omega (arith, s.fewer) })

-- the weight and the declarators of statements that are kept
unfoldable pub kept_weight : Kept → ℕ
kept_weight k = weight k.statement

unfoldable pub kept_declarators : Kept → ℕ
kept_declarators k = length (declarators_in k.statement)

-- what a search leaves of a tree and of statements
pub record Left (weights declarators statements : ℕ) (w : FromStatements) : Type 0 where
  pub lighter : size w.result.target + total kept_weight w.result.left ≤ weights
  pub fewer : total kept_declarators w.result.left + length w.trace ≡ declarators
  pub shorter : length w.result.left ≤ statements

module _ (ctx : Context) where
  stays : (ks : List Kept) (target : Tree) → Left (size target + total kept_weight ks) (total kept_declarators ks) (length ks) (ended target ks)
  unfolding pure
  stays ks target = record { lighter = omega arith; fewer = omega arith; shorter = omega arith }

  -- after the search of a declaration's declarators
  after-declarators : (k : Kept) (kind : DeclarationKind) (ds : List Declarator) (earlier : List Kept) (target : Tree)
      (w : FromDeclarators) (left : List Declarator) (onward : Tree → FromStatements)
      → k.statement ≡ declaration kind ds → w.result.left ≡ left
      → Shrunk (size target + total declarator_size ds) (length ds) w
      → ((t : Tree) → Left (size t + total kept_weight earlier) (total kept_declarators earlier) (length earlier) (onward t))
      → Left (size target + total kept_weight (k ∷ earlier)) (total kept_declarators (k ∷ earlier)) (length (k ∷ earlier))
      (w >>= λ v. after_declarators ctx k kind earlier v.target left onward)
  unfolding after_declarators ◌>>=◌ pure total kept_weight kept_declarators weight declarators_in
  after-declarators k kind ds earlier target w [] onward e l s h =
      let a : weight k.statement ≡ total declarator_size ds + length ds = ap weight e in
      let b : length (declarators_in k.statement) ≡ length ds = ap (λ x. length (declarators_in x)) e in
      let c : length w.result.left ≡ 0 = ap length l in
      let r = h w.result.target in
      record {
        lighter = omega (arith, a, s.lighter, r.lighter);
        fewer = omega (arith, b, c, s.fewer, r.fewer, length-append w.trace (onward w.result.target).trace);
        shorter = omega (arith, r.shorter);
      }
  after-declarators k kind ds earlier target w (d ∷ ds') onward e l s h =
      let a : weight k.statement ≡ total declarator_size ds + length ds = ap weight e in
      let b : length (declarators_in k.statement) ≡ length ds = ap (λ x. length (declarators_in x)) e in
      let c : length w.result.left ≡ length (d ∷ ds') = ap length l in
      let f : total declarator_size w.result.left ≡ total declarator_size (d ∷ ds') = ap (total declarator_size) l in
      record {
        lighter = omega (arith, a, c, f, s.lighter, total_reverse declarator_size (d ∷ ds'), length_onto (d ∷ ds') []);
        fewer = omega (arith, b, c, s.fewer, length_onto (d ∷ ds') [], length-append w.trace []);
        shorter = omega arith;
      }

  -- the declarators of a declaration, searched from the last
  searched : (before : List Statement) (kind : DeclarationKind) (ds : List Declarator) (target : Tree)
      → Shrunk (size target + total declarator_size ds) (length ds)
      (substitute_from_declarators ctx before kind (non_scoped_literal_only ctx) (reverse ds) target)
  searched before kind ds target =
      let s = from-declarators ctx before kind (non_scoped_literal_only ctx) (reverse ds) target in
      let m = total_reverse declarator_size ds in
      let l = length_onto ds [] in
      record { lighter = omega (arith, s.lighter, m, l); fewer = omega (arith, s.fewer, l) }

  or_stays : (b : Bool) (ks : List Kept) (target : Tree) (w : FromStatements)
      → Left (size target + total kept_weight ks) (total kept_declarators ks) (length ks) w
      → Left (size target + total kept_weight ks) (total kept_declarators ks) (length ks) (cond b (ended target ks) w)
  or_stays true ks target w l = stays ks target
  or_stays false ks target w l = l

  from-statement : (k : Kept) (s : Statement) (earlier : List Kept) (target : Tree) (onward : Tree → FromStatements) → k.statement ≡ s
      → ((t : Tree) → Left (size t + total kept_weight earlier) (total kept_declarators earlier) (length earlier) (onward t))
      → Left (size target + total kept_weight (k ∷ earlier)) (total kept_declarators (k ∷ earlier)) (length (k ∷ earlier))
      (from_statement ctx k s earlier target onward)
  unfolding from_statement ◌>>=◌
  from-statement k (declaration kind ds) earlier target onward e h =
      let w = substitute_from_declarators ctx (in_file_order earlier) kind (non_scoped_literal_only ctx) (reverse ds) target in
      or_stays (is_using kind) (k ∷ earlier) target _
      (after-declarators k kind ds earlier target w w.result.left onward e refl (searched (in_file_order earlier) kind ds target) h)
  from-statement k (expression t) earlier target onward e h = stays (k ∷ earlier) target
  from-statement k other earlier target onward e h = stays (k ∷ earlier) target

  from-statements : (ks : List Kept) (target : Tree)
      → Left (size target + total kept_weight ks) (total kept_declarators ks) (length ks) (from_statements ctx ks target)
  unfolding from_statements
  from-statements [] target = stays [] target
  from-statements (k ∷ earlier) target = from-statement k k.statement earlier target _ refl (λ t. from-statements earlier t)

  pub in_statement : (ks : List Kept) (target : Tree)
      → Left (size target + total kept_weight ks) (total kept_declarators ks) (length ks) (substitute_in_statement ctx ks target)
  unfolding substitute_in_statement
  in_statement ks target = or_stays (is_unsearched ctx) ks target _ (from-statements ks target)

  -- the same where a declaration's first declarator is searched
  pub record First (weights declarators statements : ℕ) (w : Traced (Searched (List Declarator) Kept)) : Type 0 where
    pub lighter : total declarator_size w.result.target + length w.result.target + total kept_weight w.result.left ≤ weights
    pub fewer : length w.result.target + total kept_declarators w.result.left + length w.trace ≡ declarators
    pub shorter : length w.result.left ≤ statements

  in_initializer_lem : (ks : List Kept) (d : Declarator) (ds : List Declarator) (i : Initializer) → d.initializer ≡ i
      → First (total declarator_size (d ∷ ds) + length (d ∷ ds) + total kept_weight ks) (length (d ∷ ds) + total kept_declarators ks) (length ks)
      (in_initializer ctx ks d ds i)
  unfolding in_initializer pure ◌>>=◌ total declarator_size initializer_size
  in_initializer_lem ks d ds bare e = record { lighter = omega arith; fewer = omega arith; shorter = omega arith }
  in_initializer_lem ks d ds (given t) e =
      let a : initializer_size d.initializer ≡ size t = ap initializer_size e in
      let l = in_statement ks t in
      record {
        lighter = omega (arith, a, l.lighter);
        fewer = omega (arith, l.fewer, length-append (substitute_in_statement ctx ks t).trace []);
        shorter = l.shorter;
      }

  pub in_first : (ks : List Kept) (ds : List Declarator)
      → First (total declarator_size ds + length ds + total kept_weight ks) (length ds + total kept_declarators ks) (length ks) (in_first_declarator ctx ks ds)
  unfolding in_first_declarator
  in_first ks [] = unfold pure in (record { lighter = omega arith; fewer = omega arith; shorter = omega arith })
  in_first ks (d ∷ ds) = in_initializer_lem ks d ds d.initializer refl

  -- the statements that are kept
  pub record Kepts (weights declarators statements : ℕ) (w : Traced (List Kept)) : Type 0 where
    pub lighter : total kept_weight w.result ≤ weights
    pub fewer : total kept_declarators w.result + length w.trace ≡ declarators
    pub shorter : length w.result ≤ statements

  pub fold-statement : (number : ℕ) (ks : List Kept) (s : Statement)
      → Kepts (weight s + total kept_weight ks) (length (declarators_in s) + total kept_declarators ks) (1 + length ks) (fold_statement ctx number ks s)
  unfolding fold_statement pure ◌>>=◌ total kept_weight kept_declarators weight declarators_in
  fold-statement number ks (declaration kind ds) =
      let w = in_first_declarator ctx ks ds in
      let f = in_first ks ds in
      let v = substitute_within_declaration ctx (in_file_order w.result.left) kind w.result.target in
      let n = within-declaration ctx (in_file_order w.result.left) kind w.result.target in
      record {
        lighter = omega (arith, f.lighter, n.lighter);
        fewer = omega (arith, f.fewer, n.fewer, length-append w.trace (v.trace ++ []), length-append v.trace []);
        shorter = omega (arith, f.shorter);
      }
  fold-statement number ks (expression t) =
      let l = in_statement ks t in
      record {
        lighter = omega (arith, l.lighter);
        fewer = omega (arith, l.fewer, length-append (substitute_in_statement ctx ks t).trace []);
        shorter = omega (arith, l.shorter);
      }
  fold-statement number ks other = record { lighter = omega arith; fewer = omega arith; shorter = omega arith }

  fold-statements : (number : ℕ) (ks : List Kept) (ss : List Statement)
      → Kepts (total weight ss + total kept_weight ks) (total (λ s. length (declarators_in s)) ss + total kept_declarators ks) (length ss + length ks)
      (fold_statements ctx number ks ss)
  unfolding fold_statements pure ◌>>=◌ total
  fold-statements number ks [] =
      record {
        lighter = omega (arith, total_reverse kept_weight ks);
        fewer = omega (arith, total_reverse kept_declarators ks);
        shorter = omega (arith, length_onto ks []);
      }
  fold-statements number ks (s ∷ ss) =
      let w = fold_statement ctx number ks s in
      let f = fold-statement number ks s in
      let v = fold_statements ctx (number + 1) w.result ss in
      let r = fold-statements (number + 1) w.result ss in
      record {
        lighter = omega (arith, f.lighter, r.lighter);
        fewer = omega (arith, f.fewer, r.fewer, length-append w.trace v.trace);
        shorter = omega (arith, f.shorter, r.shorter);
      }

-- the trees of statements
initializer-tree : (i : Initializer) (rest : Trees) → sizes (initializer_tree i rest) ≡ initializer_size i + sizes rest
unfolding initializer_tree initializer_size size
initializer-tree bare rest = omega arith
initializer-tree (given t) rest = refl

initializer-trees : (ds : List Declarator) (rest : Trees) → sizes (initializer_trees ds rest) ≡ total declarator_size ds + sizes rest
unfolding initializer_trees total declarator_size
initializer-trees [] rest = omega arith
initializer-trees (d ∷ ds) rest = initializer-tree d.initializer (initializer_trees ds rest) ∙ omega (arith, initializer-trees ds rest)

statement-trees : (s : Statement) (rest : Trees) → sizes (statement_trees s rest) + length (declarators_in s) ≡ weight s + sizes rest
unfolding statement_trees weight declarators_in size
statement-trees (declaration kind ds) rest = omega (arith, initializer-trees ds rest)
statement-trees (expression t) rest = omega arith
statement-trees other rest = omega arith

-- the nodes and declarators of statements
pub weights : (ss : List Statement) → sizes (all_trees ss) + length (all_declarators ss) ≡ total weight ss
unfolding all_trees all_declarators total size
weights [] = refl
weights (s ∷ ss) =
    omega (arith, statement-trees s (all_trees ss), weights ss, length-append (declarators_in s) (all_declarators ss))

pub declarators : (ss : List Statement) → length (all_declarators ss) ≡ total (λ s. length (declarators_in s)) ss
unfolding all_declarators total
declarators [] = refl
declarators (s ∷ ss) = omega (arith, declarators ss, length-append (declarators_in s) (all_declarators ss))

total-map : {A B : Type 0} (f : B → ℕ) (g : A → B) (xs : List A) → total f (map g xs) ≡ total (λ x. f (g x)) xs
unfolding total
total-map f g [] = refl
total-map f g (x ∷ xs) = omega (arith, total-map f g xs)

length-map : {A B : Type 0} (g : A → B) (xs : List A) → length (map g xs) ≡ length xs
length-map g [] = refl
length-map g (x ∷ xs) = omega (arith, length-map g xs)

module _ (f : File) where
  -- the result's statements
  abbrev result : List Statement
  result = (fold_file f).file.statements

  folded_kepts : Kepts (context_of f) (total weight f.statements) (total (λ s. length (declarators_in s)) f.statements) (length f.statements)
      (fold_statements (context_of f) 0 [] f.statements)
  unfolding total
  folded_kepts =
      let k = fold-statements (context_of f) 0 [] f.statements in
      record { lighter = omega (arith, k.lighter); fewer = omega (arith, k.fewer); shorter = omega (arith, k.shorter) }

  -- Nodes and declarators together never grow: M' + D' ≤ M + D.
  pub nodes_and_declarators : sizes (all_trees result) + length (all_declarators result) ≤ sizes (all_trees f.statements) + length (all_declarators f.statements)
  unfolding fold_file folded_file with_statements kept_weight
  nodes_and_declarators =
      let w = fold_statements (context_of f) 0 [] f.statements in
      omega (arith, weights result, weights f.statements, total-map weight statement_of w.result, folded_kepts.lighter)

  -- Every fold takes one declarator: D' + folds = D.
  pub declarators-folded : length (all_declarators result) + length (fold_file f).trace ≡ length (all_declarators f.statements)
  unfolding fold_file folded_file with_statements kept_declarators
  declarators-folded =
      let w = fold_statements (context_of f) 0 [] f.statements in
      omega (arith, declarators result, declarators f.statements, total-map (λ s. length (declarators_in s)) statement_of w.result, folded_kepts.fewer)

  -- T' ≤ T
  pub statements-kept : length result ≤ length f.statements
  unfolding fold_file folded_file with_statements
  statements-kept = omega (arith, length-map statement_of (fold_statements (context_of f) 0 [] f.statements).result, folded_kepts.shorter)

  -- "Facts, scopes, frames and options are copied to the result."
  pub context_kept : context_of (fold_file f).file ≡ context_of f
  unfolding context_of fold_file folded_file with_statements
  context_kept = refl
