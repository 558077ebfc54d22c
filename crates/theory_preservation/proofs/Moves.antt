-- What the fold of a file does to its statements, move by move: a declarator goes into the tree behind it, a stopped search
-- clears shorthands, an empty declaration is dropped.
use Prim.Native.Nat.{ℕ, ◌+◌}
use mathlib.Core.Bool.{Bool, true, false, cond, ◌||◌}
use mathlib.Core.List.{List, [], ◌∷◌, ◌++◌, map, reverse, reverse-cons, reverse-reverse, append_assoc, append-nil, map-append}
use mathlib.Core.Path.{◌≡◌, refl, sym, ap, ◌∙◌, subst}
use Rattle.records.specs.Tree.{Tree}
use Rattle.records.specs.File.{DeclarationKind, Initializer, bare, given, Declarator, Statement, declaration, expression, other, File}
use Rattle.records.proofs.Tests.{neither}
use Rattle.walk_rules.specs.Context.{Context, context_of, non_scoped_literal_only}
use Rattle.walk_rules.specs.Substitute.{Answer, replaced, stopped, passed, substitute_in_expression}
use Rattle.walk_rules.specs.Looks.{looks_in_expression}
use Rattle.statements_rules.specs.Trace.{Fold, Traced, pure, ◌>>=◌, looked, folded}
use Rattle.statements_rules.specs.Declarators.{is_unsearched, is_using, ends_search, Searched, with_tree, fold_of, after_answer, from_declarator, substitute_from_declarators, within_declarator, within_declarators, substitute_within_declaration}
use Rattle.statements_rules.specs.Fold.{folded_file, with_statements, fold_file}
use Rattle.statements_rules.specs.Statements.{Kept, statement_of, in_file_order, after_declarators, from_statement, from_statements, substitute_in_statement, in_initializer, in_first_declarator, fold_statement, fold_statements}
use Rattle.theory_preservation.proofs.Places.{Place, declarator, statement, initializer, declarators_at, statements_at}

-- a program with a tree in a place
abbrev pub program : List Statement → DeclarationKind → List Declarator → Place → Tree → List Statement → List Statement
program before k ds p t after = before ++ (declaration k (ds ++ declarators_at p t) ∷ statements_at p t after)

module _ (ctx : Context) where
  -- a fold
  pub record FoldAt (P Q : List Statement) (φ : Fold) : Type 0 where
    pub before : List Statement
    pub kind : DeclarationKind
    pub earlier : List Declarator
    pub place : Place
    pub after : List Statement
    pub literal_only : Bool
    pub tree : Tree
    pub from : P ≡ before ++ (declaration kind (earlier ++ (record { name = φ.name; initializer = given φ.initializer } ∷ declarators_at place φ.into)) ∷ statements_at place φ.into after)
    pub into : Q ≡ program before kind earlier place tree after
    pub stood : φ.before ≡ before ++ (declaration kind earlier ∷ [])
    pub plain : is_using kind ≡ false
    pub searched : ends_search ctx literal_only φ.name φ.initializer ≡ false
    pub placed : substitute_in_expression ctx φ.name φ.initializer φ.into ≡ replaced tree

  -- a search that stopped
  pub record StopAt (P Q : List Statement) : Type 0 where
    pub before : List Statement
    pub kind : DeclarationKind
    pub earlier : List Declarator
    pub place : Place
    pub after : List Statement
    pub name : ℕ
    pub initial : Tree
    pub old : Tree
    pub new : Tree
    pub from : P ≡ program before kind earlier place old after
    pub into : Q ≡ program before kind earlier place new after
    pub ended : substitute_in_expression ctx name initial old ≡ stopped new

  -- an empty declaration
  pub record DropAt (P Q : List Statement) : Type 0 where
    pub before : List Statement
    pub kind : DeclarationKind
    pub after : List Statement
    pub from : P ≡ before ++ (declaration kind [] ∷ after)
    pub into : Q ≡ before ++ after

  pub data Moves : List Statement → List Statement → List Fold → Type 0 where
    done : {P Q : List Statement} {φs : List Fold} → Q ≡ P → φs ≡ [] → Moves P Q φs
    fold : {P Q : List Statement} {φs : List Fold} (M : List Statement) (φ : Fold) (ψs : List Fold) → FoldAt P M φ → φs ≡ φ ∷ ψs → Moves M Q ψs → Moves P Q φs
    stop : {P Q : List Statement} {φs : List Fold} (M : List Statement) → StopAt P M → Moves M Q φs → Moves P Q φs
    drop : {P Q : List Statement} {φs : List Fold} (M : List Statement) → DropAt P M → Moves M Q φs → Moves P Q φs

  pub then-moves : {P M Q : List Statement} {φs ψs : List Fold} → Moves P M φs → Moves M Q ψs → Moves P Q (φs ++ ψs)
  then-moves {Q = Q} {ψs = ψs} (done e g) n = rw g (subst (λ P. Moves P Q ψs) e n)
  then-moves {ψs = ψs} (fold M φ χs f e k) n = fold M φ (χs ++ ψs) f (ap (λ x. x ++ ψs) e) (then-moves k n)
  then-moves (stop M f k) n = stop M f (then-moves k n)
  then-moves (drop M f k) n = drop M f (then-moves k n)

  -- programs and folds that are the same
  pub same-moves : {P P' Q Q' : List Statement} {φs ψs : List Fold} → P' ≡ P → Q' ≡ Q → ψs ≡ φs → Moves P Q φs → Moves P' Q' ψs
  same-moves e g h k = rw (e, g, h) k

  last-first : {A : Type 0} (d : A) (ds es : List A) → reverse (d ∷ ds) ++ es ≡ reverse ds ++ (d ∷ es)
  last-first d ds es = ap (λ x. x ++ es) (reverse-cons d ds) ∙ append_assoc (reverse ds) (d ∷ []) es

  -- From declarators, the last first.
  abbrev search_from : List Statement → DeclarationKind → Bool → List Declarator → Tree → Traced (Searched Tree Declarator)
  search_from before k lit ds t = substitute_from_declarators ctx before k lit ds t

  abbrev Found : List Statement → DeclarationKind → Place → List Statement → List Declarator → Tree → Traced (Searched Tree Declarator) → Type 0
  Found before k p after ds t w = Moves (program before k (reverse ds) p t after) (program before k (reverse w.result.left) p w.result.target after) w.trace

  as_given : (d : Declarator) (r : Tree) → d.initializer ≡ given r → d ≡ record { name = d.name; initializer = given r }
  as_given d r e = λ i. record { name = d.name; initializer = e i }

  answer-moves : (before : List Statement) (k : DeclarationKind) (p : Place) (after : List Statement) (lit : Bool) (d : Declarator) (r : Tree) (earlier : List Declarator) (t : Tree) (a : Answer Tree) (onward : Tree → Traced (Searched Tree Declarator)) → is_using k ≡ false → d.initializer ≡ given r → ends_search ctx lit d.name r ≡ false
      → substitute_in_expression ctx d.name r t ≡ a → ((t' : Tree) → Found before k p after earlier t' (onward t')) → Found before k p after (d ∷ earlier) t (after_answer ctx before k d r earlier t a onward)
  unfolding after_answer folded fold_of pure
  answer-moves before k p after lit d r earlier t (replaced t') onward u e g h n =
      fold (program before k (reverse earlier) p t' after) (record { name = d.name; initializer = r; into = t; before = before ++ (declaration k (reverse earlier) ∷ []) }) (onward t').trace
      (record {
        before = before;
        kind = k;
        earlier = reverse earlier;
        place = p;
        after = after;
        literal_only = lit;
        tree = t';
        from = ap (λ ds. before ++ (declaration k ds ∷ statements_at p t after)) (last-first d earlier (declarators_at p t) ∙ ap (λ d. reverse earlier ++ (d ∷ declarators_at p t)) (as_given d r e));
        into = refl;
        stood = refl;
        plain = u;
        searched = g;
        placed = h;
      }) refl (n t')
  answer-moves before k p after lit d r earlier t (stopped t') onward u e g h n =
      stop (program before k (reverse (d ∷ earlier)) p t' after)
      (record { before = before; kind = k; earlier = reverse (d ∷ earlier); place = p; after = after; name = d.name; initial = r; old = t; new = t'; from = refl; into = refl; ended = h }) (done refl refl)
  answer-moves before k p after lit d r earlier t passed onward u e g h n = done refl refl

  declarator-moves : (before : List Statement) (k : DeclarationKind) (p : Place) (after : List Statement) (lit : Bool) (d : Declarator) (i : Initializer) (earlier : List Declarator) (t : Tree) (onward : Tree → Traced (Searched Tree Declarator)) (b : Bool) → is_using k ≡ false → d.initializer ≡ i
      → ((t' : Tree) → Found before k p after earlier t' (onward t')) → Found before k p after (d ∷ earlier) t (from_declarator ctx before k lit d i earlier t onward)
  unfolding from_declarator pure
  declarator-moves before k p after lit d bare earlier t onward b u e n = done refl refl
  declarator-moves before k p after lit d (given r) earlier t onward b u e n = by (ends_search ctx lit d.name r) refl
    where
      by : (b : Bool) → ends_search ctx lit d.name r ≡ b → Found before k p after (d ∷ earlier) t (cond b (record { result = record { target = t; left = d ∷ earlier }; trace = []; searched_nodes = []; looks = 0 }) (looked t (looks_in_expression ctx d.name r t) (after_answer ctx before k d r earlier t (substitute_in_expression ctx d.name r t) onward)))
      by true g = done refl refl
      by false g = unfold looked in answer-moves before k p after lit d r earlier t (substitute_in_expression ctx d.name r t) onward u e g refl n

  pub declarators-moves : (before : List Statement) (k : DeclarationKind) (p : Place) (after : List Statement) (lit : Bool) (ds : List Declarator) (t : Tree) → is_using k ≡ false → Found before k p after ds t (search_from before k lit ds t)
  unfolding substitute_from_declarators pure
  declarators-moves before k p after lit [] t u = done refl refl
  declarators-moves before k p after lit (d ∷ ds) t u = declarator-moves before k p after lit d d.initializer ds t (λ t'. substitute_from_declarators ctx before k lit ds t') true u refl (λ t'. declarators-moves before k p after lit ds t' u)

  -- Within a declaration.
  abbrev declared : List Statement → DeclarationKind → List Declarator → List Statement → List Statement
  declared before k ds after = before ++ (declaration k ds ∷ after)

  within-one : (before : List Statement) (k : DeclarationKind) (after : List Statement) (earlier : List Declarator) (d : Declarator) (i : Initializer) (ds : List Declarator) → is_using k ≡ false → d.initializer ≡ i
      → Moves (declared before k (reverse earlier ++ (d ∷ ds)) after) (declared before k (reverse (within_declarator ctx before k earlier d i).result ++ ds) after) (within_declarator ctx before k earlier d i).trace
  unfolding within_declarator pure ◌>>=◌
  within-one before k after earlier d bare ds u e = done (ap (λ es. declared before k es after) (last-first d earlier ds)) refl
  within-one before k after earlier d (given t) ds u e =
      same-moves (ap (λ d. declared before k (reverse earlier ++ (d ∷ ds)) after) (as_given d t e)) (ap (λ es. declared before k es after) (last-first (with_tree d (search_from before k false earlier t).result.target) (search_from before k false earlier t).result.left ds)) (append-nil (search_from before k false earlier t).trace)
      (unfold declarators_at statements_at in declarators-moves before k (declarator d ds) after false earlier t u)

  within_all : (before : List Statement) (k : DeclarationKind) (after : List Statement) (earlier ds : List Declarator) → is_using k ≡ false
      → Moves (declared before k (reverse earlier ++ ds) after) (declared before k (within_declarators ctx before k earlier ds).result after) (within_declarators ctx before k earlier ds).trace
  unfolding within_declarators pure ◌>>=◌
  within_all before k after earlier [] u = done (ap (λ es. declared before k es after) (sym (append-nil (reverse earlier)))) refl
  within_all before k after earlier (d ∷ ds) u = then-moves (within-one before k after earlier d d.initializer ds u refl) (within_all before k after (within_declarator ctx before k earlier d d.initializer).result ds u)

  within_by : (before : List Statement) (k : DeclarationKind) (after : List Statement) (ds : List Declarator) (b : Bool) → (is_unsearched ctx || is_using k) ≡ b
      → Moves (declared before k ds after) (declared before k (cond b (pure ds) (within_declarators ctx before k [] ds)).result after) (cond b (pure ds) (within_declarators ctx before k [] ds)).trace
  within_by before k after ds true e = unfold pure in done refl refl
  within_by before k after ds false e = within_all before k after [] ds (neither (is_unsearched ctx) (is_using k) e).1

  within-moves : (before : List Statement) (k : DeclarationKind) (after : List Statement) (ds : List Declarator) → Moves (declared before k ds after) (declared before k (substitute_within_declaration ctx before k ds).result after) (substitute_within_declaration ctx before k ds).trace
  unfolding substitute_within_declaration
  within-moves before k after ds = within_by before k after ds (is_unsearched ctx || is_using k) refl

  -- From statements, the last first.
  in_order_lem : (k : Kept) (earlier : List Kept) (xs : List Statement) → in_file_order (k ∷ earlier) ++ xs ≡ in_file_order earlier ++ (k.statement ∷ xs)
  in_order_lem k earlier xs =
      ap (λ l. map statement_of l ++ xs) (reverse-cons k earlier)
      ∙ ap (λ l. l ++ xs) (map-append statement_of (reverse earlier) (k ∷ []))
      ∙ append_assoc (map statement_of (reverse earlier)) (k.statement ∷ []) xs

  module _ (p : Place) (after : List Statement) (bare-place : (t : Tree) → declarators_at p t ≡ []) where
    abbrev Before : List Kept → Tree → Traced (Searched Tree Kept) → Type 0
    Before earlier t w = Moves (in_file_order earlier ++ statements_at p t after) (in_file_order w.result.left ++ statements_at p w.result.target after) w.trace

    left-moves : (k : Kept) (kind : DeclarationKind) (earlier : List Kept) (t : Tree) (ds : List Declarator) (onward : Tree → Traced (Searched Tree Kept)) → ((t' : Tree) → Before earlier t' (onward t'))
        → Moves (program (in_file_order earlier) kind (reverse ds) p t after) (in_file_order (after_declarators ctx k kind earlier t ds onward).result.left ++ statements_at p (after_declarators ctx k kind earlier t ds onward).result.target after) (after_declarators ctx k kind earlier t ds onward).trace
    unfolding after_declarators pure
    left-moves k kind earlier t [] onward n =
        drop (in_file_order earlier ++ statements_at p t after) (record { before = in_file_order earlier; kind = kind; after = statements_at p t after; from = ap (λ ds. in_file_order earlier ++ (declaration kind ds ∷ statements_at p t after)) (bare-place t); into = refl }) (n t)
    left-moves k kind earlier t (d ∷ ds) onward n =
        done (in_order_lem (record { number = k.number; statement = declaration kind (reverse (d ∷ ds)) }) earlier (statements_at p t after)
        ∙ ap (λ ds. in_file_order earlier ++ (declaration kind ds ∷ statements_at p t after)) (sym (ap (λ es. reverse (d ∷ ds) ++ es) (bare-place t) ∙ append-nil (reverse (d ∷ ds))))) refl

    statement-moves : (k : Kept) (s : Statement) (earlier : List Kept) (t : Tree) (onward : Tree → Traced (Searched Tree Kept)) → k.statement ≡ s → ((t' : Tree) → Before earlier t' (onward t')) → Before (k ∷ earlier) t (from_statement ctx k s earlier t onward)
    unfolding from_statement pure
    statement-moves k (declaration kind ds) earlier t onward e n = by (is_using kind) refl
      where
        w : Traced (Searched Tree Declarator)
        w = search_from (in_file_order earlier) kind (non_scoped_literal_only ctx) (reverse ds) t

        as_before : in_file_order (k ∷ earlier) ++ statements_at p t after ≡ program (in_file_order earlier) kind (reverse (reverse ds)) p t after
        as_before =
            in_order_lem k earlier (statements_at p t after)
            ∙ ap (λ s. in_file_order earlier ++ (s ∷ statements_at p t after)) e
            ∙ ap (λ ds. in_file_order earlier ++ (declaration kind ds ∷ statements_at p t after)) (sym (ap (λ es. reverse (reverse ds) ++ es) (bare-place t) ∙ append-nil (reverse (reverse ds)) ∙ reverse-reverse ds))

        by : (b : Bool) → is_using kind ≡ b → Before (k ∷ earlier) t (cond b (record { result = record { target = t; left = k ∷ earlier }; trace = []; searched_nodes = []; looks = 0 }) (w >>= λ w. after_declarators ctx k kind earlier w.target w.left onward))
        by true u = done refl refl
        by false u = unfold ◌>>=◌ in same-moves as_before refl refl (then-moves (declarators-moves (in_file_order earlier) kind p after (non_scoped_literal_only ctx) (reverse ds) t u) (left-moves k kind earlier w.result.target w.result.left onward n))
    statement-moves k (expression x) earlier t onward e n = done refl refl
    statement-moves k other earlier t onward e n = done refl refl

    statements-moves : (earlier : List Kept) (t : Tree) → Before earlier t (from_statements ctx earlier t)
    unfolding from_statements pure
    statements-moves [] t = done refl refl
    statements-moves (k ∷ earlier) t = statement-moves k k.statement earlier t (λ t'. from_statements ctx earlier t') refl (λ t'. statements-moves earlier t')

    unsearched-by : (earlier : List Kept) (t : Tree) (b : Bool) → Before earlier t (cond b (record { result = record { target = t; left = earlier }; trace = []; searched_nodes = []; looks = 0 }) (from_statements ctx earlier t))
    unsearched-by earlier t true = done refl refl
    unsearched-by earlier t false = statements-moves earlier t

    in_statement : (earlier : List Kept) (t : Tree) → Before earlier t (substitute_in_statement ctx earlier t)
    unfolding substitute_in_statement pure
    in_statement earlier t = unsearched-by earlier t (is_unsearched ctx)

  -- A statement, and all of them.
  bare-statement : (t : Tree) → declarators_at statement t ≡ []
  unfolding declarators_at
  bare-statement t = refl

  bare-initializer : (k : DeclarationKind) (d : Declarator) (ds : List Declarator) (t : Tree) → declarators_at (initializer k d ds) t ≡ []
  unfolding declarators_at
  bare-initializer k d ds t = refl

  abbrev First : DeclarationKind → List Statement → List Kept → List Declarator → Traced (Searched (List Declarator) Kept) → Type 0
  First k after earlier ds w = Moves (in_file_order earlier ++ (declaration k ds ∷ after)) (in_file_order w.result.left ++ (declaration k w.result.target ∷ after)) w.trace

  initializer-moves : (k : DeclarationKind) (after : List Statement) (earlier : List Kept) (d : Declarator) (ds : List Declarator) (i : Initializer) → d.initializer ≡ i → First k after earlier (d ∷ ds) (in_initializer ctx earlier d ds i)
  unfolding in_initializer pure ◌>>=◌
  initializer-moves k after earlier d ds bare e = done refl refl
  initializer-moves k after earlier d ds (given t) e =
      same-moves (ap (λ d. in_file_order earlier ++ (declaration k (d ∷ ds) ∷ after)) (as_given d t e)) refl (append-nil (substitute_in_statement ctx earlier t).trace)
      (unfold statements_at in in_statement (initializer k d ds) after (bare-initializer k d ds) earlier t)

  first-moves : (k : DeclarationKind) (after : List Statement) (earlier : List Kept) (ds : List Declarator) → First k after earlier ds (in_first_declarator ctx earlier ds)
  unfolding in_first_declarator pure
  first-moves k after earlier [] = done refl refl
  first-moves k after earlier (d ∷ ds) = initializer-moves k after earlier d ds d.initializer refl

  abbrev One : ℕ → List Kept → Statement → List Statement → Type 0
  One number earlier s after = Moves (in_file_order earlier ++ (s ∷ after)) (in_file_order (fold_statement ctx number earlier s).result ++ after) (fold_statement ctx number earlier s).trace

  one-moves : (number : ℕ) (earlier : List Kept) (s : Statement) (after : List Statement) → One number earlier s after
  unfolding fold_statement pure ◌>>=◌
  one-moves number earlier (declaration k ds) after =
      let w : Traced (Searched (List Declarator) Kept) = in_first_declarator ctx earlier ds in
      let x : Traced (List Declarator) = substitute_within_declaration ctx (in_file_order w.result.left) k w.result.target in
      same-moves refl (in_order_lem (record { number = number; statement = declaration k x.result }) w.result.left after) (ap (λ l. w.trace ++ l) (append-nil x.trace))
      (then-moves (first-moves k after earlier ds) (within-moves (in_file_order w.result.left) k after w.result.target))
  one-moves number earlier (expression t) after =
      let w : Traced (Searched Tree Kept) = substitute_in_statement ctx earlier t in
      same-moves refl (in_order_lem (record { number = number; statement = expression w.result.target }) w.result.left after) (append-nil w.trace)
      (unfold statements_at in in_statement statement after bare-statement earlier t)
  one-moves number earlier other after = done (in_order_lem (record { number = number; statement = other }) earlier after) refl

  -- statements in order, behind those that are done
  pub all-moves : (number : ℕ) (earlier : List Kept) (ss : List Statement) → Moves (in_file_order earlier ++ ss) (map statement_of (fold_statements ctx number earlier ss).result) (fold_statements ctx number earlier ss).trace
  unfolding fold_statements pure ◌>>=◌
  all-moves number earlier [] = done (sym (append-nil (in_file_order earlier))) refl
  all-moves number earlier (s ∷ ss) = then-moves (one-moves number earlier s ss) (all-moves (number + 1) (fold_statement ctx number earlier s).result ss)

-- the fold of a file, move by move
pub file-moves : (f : File) → Moves (context_of f) f.statements (fold_file f).file.statements (fold_file f).trace
unfolding fold_file folded_file with_statements
file-moves f = all-moves (context_of f) 0 [] f.statements
