-- What the rules say of a statement, in terms of its declarators taken one after the other. Assumes nothing.
use mathlib.Core.Bool.{Bool, true, false, cond, ◌||◌, not}
use mathlib.Core.Path.{◌≡◌, refl, sym, ap, ◌∙◌}
use mathlib.Core.List.{List, [], ◌∷◌, ◌++◌, append-nil, reverse, reverse_aux, reverse-reverse}
use Prim.Native.Nat.{ℕ, ◌+◌}
use native.Mathlib.Omega.{arith}
use Rattle.records.specs.Tree.{Tree}
use Rattle.records.specs.File.{DeclarationKind, Initializer, bare, given, Declarator, Statement, declaration, expression, other}
use Rattle.walk_rules.specs.Context.{Context}
use Rattle.statements_rules.specs.Trace.{Fold, Traced, pure, ◌>>=◌}
use Rattle.statements_rules.specs.Declarators.{is_unsearched, is_using, Searched, with_tree, substitute_from_declarators, within_declarator, within_declarators, substitute_within_declaration}
use Rattle.statements_rules.specs.Statements.{Kept, in_file_order, substitute_in_statement, in_initializer, in_first_declarator, fold_statement}
use Rattle.statements.specs.Declarators.{later_tree, later_declarator, later_declarators}

-- the same folds and looks; none
pub record Same {A B : Type 0} (v : Traced A) (w : Traced B) : Type 0 where
  pub traces : v.trace ≡ w.trace
  pub looks : v.looks ≡ w.looks

pub record None {A : Type 0} (w : Traced A) : Type 0 where
  pub traces : w.trace ≡ []
  pub looks : w.looks ≡ 0

-- a declarator with its own tree
with_own : (d : Declarator) (t : Tree) → d.initializer ≡ given t → d ≡ with_tree d t
with_own d t e = λ i. record { name = d.name; initializer = e i }

-- A later declarator.
module _ (ctx : Context) (above : List Statement) (kind : DeclarationKind) where
  pub later-given : (searched : Bool) (done : List Declarator) (d : Declarator) (t : Tree) → d.initializer ≡ given t
      → ((later_declarator ctx above kind searched done d).result ≡ with_tree d (later_tree ctx above kind searched done t).result.target ∷ (later_tree ctx above kind searched done t).result.left)
      × Same (later_declarator ctx above kind searched done d) (later_tree ctx above kind searched done t)
  unfolding later_declarator later_tree within_declarator pure ◌>>=◌
  later-given true done d t e = (rw e, record { traces = rw (e, append-nil); looks = rw e (omega arith) })
  later-given false done d t e = (ap (λ (x : Declarator). x ∷ done) (with_own d t e), record { traces = refl; looks = refl })

  pub later-bare : (searched : Bool) (done : List Declarator) (d : Declarator) → d.initializer ≡ bare
      → ((later_declarator ctx above kind searched done d).result ≡ d ∷ done) × None (later_declarator ctx above kind searched done d)
  unfolding later_declarator within_declarator pure
  later-bare true done d e = (rw e, record { traces = rw e; looks = rw e })
  later-bare false done d e = (refl, record { traces = refl; looks = refl })

  -- all of them, searched
  within-later : (done ds : List Declarator)
      → ((within_declarators ctx above kind done ds).result ≡ reverse (later_declarators ctx above kind true done ds).result)
      × Same (within_declarators ctx above kind done ds) (later_declarators ctx above kind true done ds)
  unfolding within_declarators later_declarators later_declarator pure ◌>>=◌
  within-later done [] = (refl, record { traces = refl; looks = refl })
  within-later done (d ∷ ds) =
      let w = within_declarator ctx above kind done d d.initializer in
      let (x, y) = within-later w.result ds in
      (x, record { traces = ap (λ (l : List Fold). w.trace ++ l) y.traces; looks = ap (λ (n : ℕ). w.looks + n) y.looks })

  -- not searched
  unsearched-later : (done ds : List Declarator)
      → ((later_declarators ctx above kind false done ds).result ≡ reverse_aux ds done) × None (later_declarators ctx above kind false done ds)
  unfolding later_declarators later_declarator pure ◌>>=◌
  unsearched-later done [] = (refl, record { traces = refl; looks = refl })
  unsearched-later done (d ∷ ds) =
      let (x, y) = unsearched-later (d ∷ done) ds in
      (x, record { traces = y.traces; looks = omega (arith, y.looks) })

  -- the first declarator stays as it is
  first-within : (d : Declarator) (i : Initializer) → d.initializer ≡ i
      → ((within_declarator ctx above kind [] d i).result ≡ d ∷ []) × None (within_declarator ctx above kind [] d i)
  unfolding within_declarator substitute_from_declarators pure ◌>>=◌
  first-within d bare e = (refl, record { traces = refl; looks = refl })
  first-within d (given t) e = (ap (λ (x : Declarator). x ∷ []) (sym (with_own d t e)), record { traces = refl; looks = refl })

  by-search : (b : Bool) (d : Declarator) (ds : List Declarator)
      → ((cond b (pure (d ∷ ds)) (within_declarators ctx above kind [] (d ∷ ds))).result ≡ reverse (later_declarators ctx above kind (not b) (d ∷ []) ds).result)
      × Same (cond b (pure (d ∷ ds)) (within_declarators ctx above kind [] (d ∷ ds))) (later_declarators ctx above kind (not b) (d ∷ []) ds)
  unfolding within_declarators pure ◌>>=◌
  by-search true d ds =
      let (x, y) = unsearched-later (d ∷ []) ds in
      (sym (ap reverse x ∙ reverse-reverse (d ∷ ds)), record { traces = sym y.traces; looks = sym y.looks })
  by-search false d ds =
      let w = within_declarator ctx above kind [] d d.initializer in
      let (x, y) = first-within d d.initializer refl in
      let (u, v) = within-later (d ∷ []) ds in (
        ap (λ (l : List Declarator). (within_declarators ctx above kind l ds).result) x ∙ u,
        record {
          traces = ap (λ (l : List Fold). l ++ (within_declarators ctx above kind w.result ds).trace) y.traces ∙ ap (λ (l : List Declarator). (within_declarators ctx above kind l ds).trace) x ∙ v.traces;
          looks = omega (arith, y.looks, ap (λ (l : List Declarator). (within_declarators ctx above kind l ds).looks) x, v.looks);
        },
      )

  pub within-declaration : (d : Declarator) (ds : List Declarator)
      → ((substitute_within_declaration ctx above kind (d ∷ ds)).result ≡ reverse (later_declarators ctx above kind (not (is_unsearched ctx || is_using kind)) (d ∷ []) ds).result)
      × Same (substitute_within_declaration ctx above kind (d ∷ ds)) (later_declarators ctx above kind (not (is_unsearched ctx || is_using kind)) (d ∷ []) ds)
  unfolding substitute_within_declaration
  within-declaration d ds = by-search (is_unsearched ctx || is_using kind) d ds

-- The first declarator.
module _ (ctx : Context) (ks : List Kept) where
  pub first-given : (d : Declarator) (t : Tree) → d.initializer ≡ given t
      → ((in_first_declarator ctx ks (d ∷ [])).result.target ≡ with_tree d (substitute_in_statement ctx ks t).result.target ∷ [])
      × ((in_first_declarator ctx ks (d ∷ [])).result.left ≡ (substitute_in_statement ctx ks t).result.left)
      × Same (in_first_declarator ctx ks (d ∷ [])) (substitute_in_statement ctx ks t)
  unfolding in_first_declarator in_initializer pure ◌>>=◌
  first-given d t e = (rw e, rw e, record { traces = rw (e, append-nil); looks = rw e (omega arith) })

  pub first-bare : (d : Declarator) → d.initializer ≡ bare
      → ((in_first_declarator ctx ks (d ∷ [])).result.target ≡ d ∷ []) × ((in_first_declarator ctx ks (d ∷ [])).result.left ≡ ks) × None (in_first_declarator ctx ks (d ∷ []))
  unfolding in_first_declarator in_initializer pure
  first-bare d e = (rw e, rw e, record { traces = rw e; looks = rw e })

  -- it is searched alike before others
  record Alike (v w : Traced (Searched (List Declarator) Kept)) (ds : List Declarator) (d' : Declarator) : Type 0 where
    alone : w.result.target ≡ d' ∷ []
    before : v.result.target ≡ d' ∷ ds
    left_is : v.result.left ≡ w.result.left
    trace-is : v.trace ≡ w.trace
    looks_are : v.looks ≡ w.looks

  first_alike : (d : Declarator) (ds : List Declarator) (i : Initializer) → d.initializer ≡ i
      → (d' : Declarator) × Alike (in_initializer ctx ks d ds i) (in_initializer ctx ks d [] i) ds d'
  unfolding in_initializer pure ◌>>=◌
  first_alike d ds bare e = (d, record { alone = refl; before = refl; left_is = refl; trace-is = refl; looks_are = refl })
  first_alike d ds (given t) e = (with_tree d (substitute_in_statement ctx ks t).result.target, record { alone = refl; before = refl; left_is = refl; trace-is = refl; looks_are = refl })

  -- A declaration with declarators: the first is taken, then the later ones.
  pub handle_variable_declaration : (number : ℕ) (kind : DeclarationKind) (d : Declarator) (ds : List Declarator) (searched : Bool) → searched ≡ not (is_unsearched ctx || is_using kind)
      → let w = in_first_declarator ctx ks (d ∷ []) in
      let v = later_declarators ctx (in_file_order w.result.left) kind searched w.result.target ds in
      ((fold_statement ctx number ks (declaration kind (d ∷ ds))).result ≡ record { number = number; statement = declaration kind (reverse v.result) } ∷ w.result.left)
      × ((fold_statement ctx number ks (declaration kind (d ∷ ds))).trace ≡ w.trace ++ v.trace)
      × ((fold_statement ctx number ks (declaration kind (d ∷ ds))).looks ≡ w.looks + v.looks)
  unfolding fold_statement in_first_declarator pure ◌>>=◌
  handle_variable_declaration number kind d ds searched es =
      let (d', a) = first_alike d ds d.initializer refl in
      let v = in_initializer ctx ks d ds d.initializer in
      let w = in_initializer ctx ks d [] d.initializer in
      let (x, y) = within-declaration ctx (in_file_order w.result.left) kind d' ds in
      rw (a.before, a.left_is, a.trace-is, a.looks_are, a.alone, es) (
        ap (λ (l : List Declarator). record { number = number; statement = declaration kind l } ∷ w.result.left) x,
        ap (λ (l : List Fold). w.trace ++ l) (append-nil (substitute_within_declaration ctx (in_file_order w.result.left) kind (d' ∷ ds)).trace ∙ y.traces),
        omega (arith, y.looks),
      )

  -- without any
  pub fold-empty : (number : ℕ) (kind : DeclarationKind)
      → ((fold_statement ctx number ks (declaration kind [])).result ≡ record { number = number; statement = declaration kind (reverse []) } ∷ ks)
      × None (fold_statement ctx number ks (declaration kind []))
  unfolding fold_statement in_first_declarator substitute_within_declaration within_declarators pure ◌>>=◌
  fold-empty number kind = by (is_unsearched ctx || is_using kind)
    where
      by : (b : Bool) → let w = cond b (pure []) (pure (reverse [])) in
          (record { number = number; statement = declaration kind w.result } ∷ ks ≡ record { number = number; statement = declaration kind (reverse []) } ∷ ks)
          × None (record { result = record { number = number; statement = declaration kind w.result } ∷ ks; trace = w.trace ++ []; searched_nodes = w.searched_nodes ++ []; looks = 0 + (w.looks + 0) })
      by true = (refl, record { traces = refl; looks = refl })
      by false = (refl, record { traces = refl; looks = refl })

  pub handle_expression_statement : (number : ℕ) (t : Tree)
      → ((fold_statement ctx number ks (expression t)).result ≡ record { number = number; statement = expression (substitute_in_statement ctx ks t).result.target } ∷ (substitute_in_statement ctx ks t).result.left)
      × Same (fold_statement ctx number ks (expression t)) (substitute_in_statement ctx ks t)
  unfolding fold_statement pure ◌>>=◌
  handle_expression_statement number t = (refl, record { traces = rw append-nil; looks = omega arith })

  pub fold-other : (number : ℕ)
      → ((fold_statement ctx number ks other).result ≡ record { number = number; statement = other } ∷ ks) × None (fold_statement ctx number ks other)
  unfolding fold_statement pure
  fold-other number = (refl, record { traces = refl; looks = refl })
