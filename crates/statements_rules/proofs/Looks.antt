-- The searches of a fold, and their looks, for lists of every length. A tree is searched at most once, and at most once more after
-- each fold into it; nodes and declarators together never grow, so a searched tree has at most M + D nodes; a search has no more
-- looks than its tree has nodes. Assumes nothing.
use Prim.Native.Nat.{ℕ, ◌+◌, ◌*◌, ◌≤◌}
use native.Mathlib.Nat.{suc-mul, mul-le-mul_right}
use native.Mathlib.Omega.{arith}
use mathlib.Core.Bool.{Bool, true, false, cond, ◌||◌}
use mathlib.Core.List.{List, [], ◌∷◌, ◌++◌, reverse}
use mathlib.Core.Path.{◌≡◌, refl, ap}
use lib.ListN.{length, length-append, length-reverse}
use Rattle.records.specs.Tree.{Tree, size}
use Rattle.records.specs.File.{DeclarationKind, Initializer, bare, given, Declarator, Statement, declaration, expression, other, File, declarators_in}
use Rattle.walk_rules.specs.Context.{Context, non_scoped_literal_only, context_of}
use Rattle.walk_rules.specs.Substitute.{Answer, replaced, stopped, passed, substitute_in_expression}
use Rattle.walk_rules.specs.Looks.{looks_in_expression}
use Rattle.walk_rules.proofs.Looks.{looks-most}
use Rattle.walk_rules.proofs.Sizes.{Sized, sized}
use Rattle.statements_rules.specs.Trace.{Traced, pure, ◌>>=◌, looked, folded}
use Rattle.statements_rules.specs.Declarators.{is_unsearched, is_using, ends_search, FromDeclarators, after_answer, from_declarator, substitute_from_declarators, within_declarator, within_declarators, substitute_within_declaration}
use Rattle.statements_rules.specs.Statements.{Kept, in_file_order, FromStatements, after_declarators, from_statement, from_statements, substitute_in_statement, in_initializer, in_first_declarator, fold_statement, fold_statements}
use Rattle.statements_rules.specs.Fold.{fold_file, folded_file}
use Rattle.statements_rules.specs.Searches.{searched_in, AtMost, sum, T, D, M, SearchLaws}
use Rattle.statements_rules.proofs.Totals.{total, total_reverse, initializer_size, declarator_size, weight, kept_weight, kept_declarators, from-declarators, within-declarator, in_first, fold-statement, weights, declarators, declarators-folded}

module _ (most : ℕ) where
  at_most_append : (ms ns : List ℕ) → AtMost most ms → AtMost most ns → AtMost most (ms ++ ns)
  unfolding AtMost
  at_most_append [] ns h k = k
  at_most_append (m ∷ ms) ns (l, h) k = (l, at_most_append ms ns h k)

  pub sum-most : (ns : List ℕ) → AtMost most ns → sum ns ≤ length ns * most
  unfolding AtMost sum
  sum-most [] h = omega arith
  sum-most (n ∷ ns) (l, h) = omega (arith, l, sum-most ns h, suc-mul (length ns) most)

sum-append : (ms ns : List ℕ) → sum (ms ++ ns) ≡ sum ms + sum ns
unfolding sum
sum-append [] ns = omega arith
sum-append (m ∷ ms) ns = omega (arith, sum-append ms ns)

-- There are at most as many searches as trees and folds; each searched tree has at most `most` nodes; the looks are at most the sum
-- of these nodes.
pub record Sought (trees most : ℕ) {A : Type 0} (w : Traced A) : Type 0 where
  pub searches : length w.searched_nodes ≤ trees + length w.trace
  pub nodes : AtMost most w.searched_nodes
  pub looks : w.looks ≤ sum w.searched_nodes

-- the same from so many declarators, each of which is tried at most once
pub record Tried (trees declarators most : ℕ) {A : Type 0} (w : Traced A) : Type 0 where
  pub sought : Sought trees most w
  pub once : length w.searched_nodes ≤ declarators

-- 1 if declarators are left, at the last of which a search ended; 0 if each was folded
unfoldable pub ends : {A : Type 0} → List A → ℕ
ends [] = 0
ends (x ∷ xs) = 1

ends-most : {A : Type 0} (xs : List A) → ends xs ≤ 1
unfolding ends
ends-most [] = omega arith
ends-most (x ∷ xs) = omega arith

module _ (most : ℕ) where
  none-sought : {A : Type 0} (trees : ℕ) (a : A) → Sought trees most (pure a)
  unfolding pure AtMost
  none-sought trees a = record { searches = omega arith; nodes = tt; looks = omega arith }

  none_tried : {A : Type 0} (trees declarators : ℕ) (a : A) → Tried trees declarators most (pure a)
  none_tried trees declarators a = record { sought = none-sought trees a; once = unfold pure in omega arith }

  or_none : {A : Type 0} {trees : ℕ} (b : Bool) (a : A) (w : Traced A) → Sought trees most w → Sought trees most (cond b (pure a) w)
  or_none {trees = trees} true a w s = none-sought trees a
  or_none false a w s = s

  or_none_tried : {A : Type 0} {trees declarators : ℕ} (b : Bool) (a : A) (w : Traced A) → Tried trees declarators most w → Tried trees declarators most (cond b (pure a) w)
  or_none_tried {trees = trees} {declarators} true a w s = none_tried trees declarators a
  or_none_tried false a w s = s

  -- one part, and then another
  then-sought : {A B : Type 0} {trees more : ℕ} (w : Traced A) (f : A → Traced B) → Sought trees most w → Sought more most (f w.result) → Sought (trees + more) most (w >>= f)
  unfolding ◌>>=◌
  then-sought w f s t =
      let v = f w.result in
      record {
        searches = omega (arith, s.searches, t.searches, length-append w.trace v.trace, length-append w.searched_nodes v.searched_nodes);
        nodes = at_most_append most w.searched_nodes v.searched_nodes s.nodes t.nodes;
        looks = omega (arith, s.looks, t.looks, sum-append w.searched_nodes v.searched_nodes);
      }

  then_tried : {A B : Type 0} {trees more declarators others : ℕ} (w : Traced A) (f : A → Traced B) → Tried trees declarators most w → Tried more others most (f w.result)
      → Tried (trees + more) (declarators + others) most (w >>= f)
  then_tried w f s t =
      record { sought = then-sought w f s.sought t.sought; once = unfold ◌>>=◌ in omega (arith, s.once, t.once, length-append w.searched_nodes (f w.result).searched_nodes) }

  more-sought : {A : Type 0} {trees : ℕ} (others : ℕ) (w : Traced A) → trees ≤ others → Sought trees most w → Sought others most w
  more-sought others w l s = record { searches = omega (arith, l, s.searches); nodes = s.nodes; looks = s.looks }

-- From declarators.
module _ (ctx : Context) (before : List Statement) (kind : DeclarationKind) (most : ℕ) where
  -- a search that was made, by its answer: it goes on behind a fold
  answer_tried : (d : Declarator) (initializer : Tree) (earlier : List Declarator) (target : Tree) (a : Answer Tree) (onward : Tree → FromDeclarators) (looks : ℕ) → Sized initializer target a → looks ≤ size target → size target ≤ most
      → ((t : Tree) → size t ≤ size initializer + size target + 1 → Tried (ends (onward t).result.left) (length earlier) most (onward t))
      → let w = looked target looks (after_answer ctx before kind d initializer earlier target a onward) in
      Tried (ends w.result.left) (length (d ∷ earlier)) most w
  unfolding ends looked after_answer folded pure AtMost sum
  answer_tried d initializer earlier target (replaced t) onward looks s k l h =
      let x = h t (omega (arith, s)) in
      record {
        sought = record { searches = omega (arith, x.sought.searches); nodes = (l, x.sought.nodes); looks = omega (arith, k, x.sought.looks) };
        once = omega (arith, x.once);
      }
  answer_tried d initializer earlier target (stopped t) onward looks s k l h =
      record { sought = record { searches = omega arith; nodes = (l, tt); looks = omega (arith, k) }; once = omega arith }
  answer_tried d initializer earlier target passed onward looks s k l h =
      record { sought = record { searches = omega arith; nodes = (l, tt); looks = omega (arith, k) }; once = omega arith }

  tested : (b : Bool) (d : Declarator) (earlier : List Declarator) (target : Tree) (w : FromDeclarators) → Tried (ends w.result.left) (length (d ∷ earlier)) most w
      → let v = cond b (pure (record { target = target; left = d ∷ earlier })) w in Tried (ends v.result.left) (length (d ∷ earlier)) most v
  unfolding ends
  tested true d earlier target w s = unfold pure in none_tried most 1 (length (d ∷ earlier)) (record { target = target; left = d ∷ earlier })
  tested false d earlier target w s = s

  declarator_tried : (literal_only : Bool) (d : Declarator) (i : Initializer) (earlier : List Declarator) (target : Tree) (onward : Tree → FromDeclarators) → d.initializer ≡ i
      → size target + total declarator_size (d ∷ earlier) + length (d ∷ earlier) ≤ most
      → ((t : Tree) → size t + total declarator_size earlier + length earlier ≤ most → Tried (ends (onward t).result.left) (length earlier) most (onward t))
      → let w = from_declarator ctx before kind literal_only d i earlier target onward in Tried (ends w.result.left) (length (d ∷ earlier)) most w
  unfolding ends from_declarator total declarator_size initializer_size
  declarator_tried literal_only d bare earlier target onward e l h = unfold pure in none_tried most 1 (length (d ∷ earlier)) (record { target = target; left = d ∷ earlier })
  declarator_tried literal_only d (given i) earlier target onward e l h =
      let k : initializer_size d.initializer ≡ size i = ap initializer_size e in
      let a = substitute_in_expression ctx d.name i target in
      tested (ends_search ctx literal_only d.name i) d earlier target _
      (answer_tried d i earlier target a onward (looks_in_expression ctx d.name i target) (sized ctx d.name i target) (looks-most ctx d.name i target) (omega (arith, l)) (λ t s. h t (omega (arith, k, l, s))))

  pub declarators_tried : (literal_only : Bool) (ds : List Declarator) (target : Tree) → size target + total declarator_size ds + length ds ≤ most
      → let w = substitute_from_declarators ctx before kind literal_only ds target in Tried (ends w.result.left) (length ds) most w
  unfolding ends substitute_from_declarators
  declarators_tried literal_only [] target l = unfold pure in none_tried most 0 0 (record { target = target; left = [] })
  declarators_tried literal_only (d ∷ ds) target l = declarator_tried literal_only d d.initializer ds target _ refl l (λ t m. declarators_tried literal_only ds t m)

  -- each declarator behind others is searched from them
  within-sought : (earlier : List Declarator) (d : Declarator) (i : Initializer) → d.initializer ≡ i → total declarator_size earlier + length earlier + declarator_size d ≤ most
      → Sought 1 most (within_declarator ctx before kind earlier d i)
  unfolding within_declarator declarator_size initializer_size
  within-sought earlier d bare e l = none-sought most 1 (d ∷ earlier)
  within-sought earlier d (given t) e l =
      let k : initializer_size d.initializer ≡ size t = ap initializer_size e in
      let w = substitute_from_declarators ctx before kind false earlier t in
      then-sought most w _ (more-sought most 1 w (ends-most w.result.left) (declarators_tried false earlier t (omega (arith, k, l))).sought) (none-sought most 0 _)

  withins_sought : (earlier ds : List Declarator) → total declarator_size earlier + length earlier + total declarator_size ds + length ds ≤ most
      → Sought (length ds) most (within_declarators ctx before kind earlier ds)
  unfolding within_declarators total
  withins_sought earlier [] l = none-sought most 0 (reverse earlier)
  withins_sought earlier (d ∷ ds) l =
      let w = within_declarator ctx before kind earlier d d.initializer in
      let s = (within-declarator ctx before kind earlier d d.initializer refl).lighter in
      more-sought most _ _ (omega arith)
      (then-sought most w (λ x. within_declarators ctx before kind x ds) (within-sought earlier d d.initializer refl (omega (arith, l))) (withins_sought w.result ds (omega (arith, s, l))))

  within_declaration-sought : (ds : List Declarator) → total declarator_size ds + length ds ≤ most → Sought (length ds) most (substitute_within_declaration ctx before kind ds)
  unfolding substitute_within_declaration
  within_declaration-sought ds l =
      or_none most (is_unsearched ctx || is_using kind) ds (within_declarators ctx before kind [] ds) (withins_sought [] ds (unfold total in omega (arith, l)))

-- From statements.
module _ (ctx : Context) (most : ℕ) where
  -- a declaration of which nothing is left is gone, and the search goes on: each of its declarators was folded
  after_tried : (k : Kept) (kind : DeclarationKind) (earlier : List Kept) (w : FromDeclarators) (left : List Declarator) (onward : Tree → FromStatements) (declarators others : ℕ)
      → Tried (ends left) declarators most w → Tried 1 others most (onward w.result.target) → Tried 1 (declarators + others) most (w >>= λ v. after_declarators ctx k kind earlier v.target left onward)
  unfolding ends after_declarators
  after_tried k kind earlier w [] onward declarators others s t = then_tried most w (λ v. onward v.target) s t
  after_tried k kind earlier w (d ∷ ds) onward declarators others s t = then_tried most w _ s (none_tried most 0 others _)

  statement_tried : (k : Kept) (s : Statement) (earlier : List Kept) (target : Tree) (onward : Tree → FromStatements) → k.statement ≡ s
      → size target + total kept_weight (k ∷ earlier) ≤ most
      → ((t : Tree) → size t + total kept_weight earlier ≤ most → Tried 1 (total kept_declarators earlier) most (onward t))
      → Tried 1 (total kept_declarators (k ∷ earlier)) most (from_statement ctx k s earlier target onward)
  unfolding from_statement ◌>>=◌ total kept_weight kept_declarators weight declarators_in
  statement_tried k (declaration kind ds) earlier target onward e l h =
      let w = substitute_from_declarators ctx (in_file_order earlier) kind (non_scoped_literal_only ctx) (reverse ds) target in
      let a : weight k.statement ≡ total declarator_size ds + length ds = ap weight e in
      let b : length (declarators_in k.statement) ≡ length ds = ap (λ x. length (declarators_in x)) e in
      let c = length-reverse ds in
      let f = total_reverse declarator_size ds in
      let m = declarators_tried ctx (in_file_order earlier) kind most (non_scoped_literal_only ctx) (reverse ds) target (omega (arith, a, c, f, l)) in
      let g = (from-declarators ctx (in_file_order earlier) kind (non_scoped_literal_only ctx) (reverse ds) target).lighter in
      let t = after_tried k kind earlier w w.result.left onward _ _ m (h w.result.target (omega (arith, a, c, f, l, g))) in
      or_none_tried most (is_using kind) _ _ (record { sought = t.sought; once = omega (arith, b, c, t.once) })
  statement_tried k (expression t) earlier target onward e l h = none_tried most 1 _ _
  statement_tried k other earlier target onward e l h = none_tried most 1 _ _

  statements_tried : (ks : List Kept) (target : Tree) → size target + total kept_weight ks ≤ most → Tried 1 (total kept_declarators ks) most (from_statements ctx ks target)
  unfolding from_statements
  statements_tried [] target l = none_tried most 1 _ _
  statements_tried (k ∷ ks) target l = statement_tried k k.statement ks target _ refl l (λ t m. statements_tried ks t m)

  pub in_statement_tried : (ks : List Kept) (target : Tree) → size target + total kept_weight ks ≤ most → Tried 1 (total kept_declarators ks) most (substitute_in_statement ctx ks target)
  unfolding substitute_in_statement
  in_statement_tried ks target l = or_none_tried most (is_unsearched ctx) _ _ (statements_tried ks target l)

  -- a declaration's first declarator
  first-sought : (ks : List Kept) (ds : List Declarator) → total declarator_size ds + total kept_weight ks ≤ most → Sought 1 most (in_first_declarator ctx ks ds)
  unfolding in_first_declarator in_initializer total declarator_size initializer_size
  first-sought ks [] l = none-sought most 1 _
  first-sought ks (d ∷ ds) l = by d.initializer refl
    where
      by : (i : Initializer) → d.initializer ≡ i → Sought 1 most (in_initializer ctx ks d ds i)
      by bare e = none-sought most 1 _
      by (given t) e =
          let a : initializer_size d.initializer ≡ size t = ap initializer_size e in
          then-sought most (substitute_in_statement ctx ks t) _ (in_statement_tried ks t (omega (arith, a, l))).sought (none-sought most 0 _)

  first-length : (ks : List Kept) (ds : List Declarator) → length (in_first_declarator ctx ks ds).result.target ≡ length ds
  unfolding in_first_declarator in_initializer ◌>>=◌ pure
  first-length ks [] = refl
  first-length ks (d ∷ ds) = by d.initializer
    where
      by : (i : Initializer) → length (in_initializer ctx ks d ds i).result.target ≡ length (d ∷ ds)
      by bare = refl
      by (given t) = refl

  statement-sought : (number : ℕ) (ks : List Kept) (s : Statement) → weight s + total kept_weight ks ≤ most → Sought (1 + length (declarators_in s)) most (fold_statement ctx number ks s)
  unfolding fold_statement weight declarators_in
  statement-sought number ks (declaration kind ds) l =
      let w = in_first_declarator ctx ks ds in
      let f = (in_first ctx ks ds).lighter in
      let n = first-length ks ds in
      more-sought most _ _ (omega (arith, n))
      (then-sought most w _ (first-sought ks ds (omega (arith, l)))
      (then-sought most (substitute_within_declaration ctx (in_file_order w.result.left) kind w.result.target) _
      (within_declaration-sought ctx (in_file_order w.result.left) kind most w.result.target (omega (arith, f, l))) (none-sought most 0 _)))
  statement-sought number ks (expression t) l = then-sought most (substitute_in_statement ctx ks t) _ (in_statement_tried ks t l).sought (none-sought most 0 _)
  statement-sought number ks other l = none-sought most 1 _

  -- the statements of a file, behind those that are kept
  pub statements-sought : (number : ℕ) (ks : List Kept) (ss : List Statement) → total weight ss + total kept_weight ks ≤ most
      → Sought (length ss + total (λ s. length (declarators_in s)) ss) most (fold_statements ctx number ks ss)
  unfolding fold_statements total
  statements-sought number ks [] l = none-sought most 0 (reverse ks)
  statements-sought number ks (s ∷ ss) l =
      let w = fold_statement ctx number ks s in
      let f = (fold-statement ctx number ks s).lighter in
      more-sought most _ _ (omega arith)
      (then-sought most w (λ x. fold_statements ctx (number + 1) x ss) (statement-sought number ks s (omega (arith, l))) (statements-sought (number + 1) w.result ss (omega (arith, f, l))))

-- Of a file.
module _ (f : File) where
  file-sought : Sought (T f + D f) (M f + D f) (fold_statements (context_of f) 0 [] f.statements)
  unfolding total
  file-sought =
      more-sought (M f + D f) _ _ (let d = declarators f.statements in omega (arith, d))
      (statements-sought (context_of f) (M f + D f) 0 [] f.statements (omega (arith, weights f.statements)))

  pub search-laws : SearchLaws f
  unfolding fold_file folded_file
  search-laws = record { searches = file-sought.searches; nodes = file-sought.nodes; looks = file-sought.looks }

  -- so there are at most (T + 2D) × (M + D) looks
  pub file-looks : (fold_file f).looks ≤ (T f + 2 * D f) * (M f + D f)
  file-looks =
      let s = search-laws in
      let few : length (searched_in f) ≤ T f + 2 * D f = omega (arith, s.searches, declarators-folded f) in
      omega (arith, s.looks, sum-most (M f + D f) (searched_in f) s.nodes, mul-le-mul_right (M f + D f) few)
