-- A run that makes no fold is followed by one that changes nothing. Assumes nothing.
use Prim.Native.Nat.{ℕ, ◌+◌}
use native.Mathlib.Omega.{arith}
use mathlib.Core.Bool.{Bool, true, false, cond}
use mathlib.Core.List.{List, [], ◌∷◌, ◌++◌, map, reverse, reverse_aux, reverse-reverse}
use mathlib.Core.Path.{◌≡◌, refl, sym, ap, ◌∙◌, subst}
use Rattle.records.specs.Tree.{Tree}
use Rattle.records.specs.File.{DeclarationKind, Initializer, bare, given, Declarator, Statement, declaration, expression, other, File}
use Rattle.walk_rules.specs.Context.{Context, context_of, non_scoped_literal_only}
use Rattle.statements_rules.specs.Trace.{Traced, pure, ◌>>=◌}
use Rattle.statements_rules.specs.Declarators.{is_unsearched, is_using, Searched, ended, FromDeclarators, substitute_from_declarators, substitute_within_declaration}
use Rattle.statements_rules.specs.Statements.{Kept, statement_of, in_file_order, FromStatements, after_declarators, from_statement, from_statements, substitute_in_statement, in_initializer, in_first_declarator, fold_statement, fold_statements}
use Rattle.statements_rules.specs.Fold.{with_statements, folded_file, fold_file}
use Rattle.theory_steady.proofs.StillWithin.{just, both-empty, first-empty, declarators-still, SameFirst, declaration-still}

-- the statements of those that are kept, the last first
abbrev statements : List Kept → List Statement
statements ks = map statement_of ks

map_onto : {A B : Type 0} (f : A → B) (xs ys : List A) → map f (reverse_aux xs ys) ≡ reverse_aux (map f xs) (map f ys)
map_onto f [] ys = refl
map_onto f (x ∷ xs) ys = map_onto f xs (x ∷ ys)

map_reverse : {A B : Type 0} (f : A → B) (xs : List A) → map f (reverse xs) ≡ reverse (map f xs)
map_reverse f xs = map_onto f xs []

module _ (ctx : Context) where
  -- Statements, the last first, each of which stays as it is, and those before it, where it is taken behind them, whatever
  -- their numbers.
  abbrev pub SteadyStatements : List Statement → Type 0
  SteadyStatements [] = Unit {0}
  SteadyStatements (s ∷ ss) = SteadyStatements ss × ((number : ℕ) (ks : List Kept) → statements ks ≡ ss → (fold_statement ctx number ks s).result ≡ record { number = number; statement = s } ∷ ks)

  steady-behind : (ss earlier : List Statement) → SteadyStatements (reverse_aux ss earlier) → SteadyStatements earlier
  steady-behind [] earlier h = h
  steady-behind (s ∷ ss) earlier h = (steady-behind ss (s ∷ earlier) h).0

  -- such statements are kept by a run
  steady-same : (number : ℕ) (ks : List Kept) (ss : List Statement) → SteadyStatements (reverse_aux ss (statements ks)) → statements (fold_statements ctx number ks ss).result ≡ reverse (reverse_aux ss (statements ks))
  unfolding fold_statements pure ◌>>=◌
  steady-same number ks [] h = map_reverse statement_of ks
  steady-same number ks (s ∷ ss) h =
      let e = (steady-behind ss (s ∷ statements ks) h).1 number ks refl in
      ap (λ x. statements (fold_statements ctx (number + 1) x ss).result) e ∙ steady-same (number + 1) (record { number = number; statement = s } ∷ ks) ss h

  -- A tree whose search from statements, whatever their numbers, leaves all as it is.
  abbrev StillFrom : List Statement → Tree → Type 0
  StillFrom ss t = (ks : List Kept) → statements ks ≡ ss → (from_statements ctx ks t).result ≡ just t ks

  abbrev StillIn : List Statement → Tree → Type 0
  StillIn ss t = (ks : List Kept) → statements ks ≡ ss → (substitute_in_statement ctx ks t).result ≡ just t ks

  -- by what stands at the head
  from_head : (s : Statement) (ss : List Statement) (t : Tree) → ((k : Kept) (ks : List Kept) → statements ks ≡ ss → k.statement ≡ s → (from_statement ctx k s ks t (λ u. from_statements ctx ks u)).result ≡ just t (k ∷ ks)) → StillFrom (s ∷ ss) t
  unfolding from_statements
  from_head s ss t h [] e = absurd (let z : ◌≡◌ {A = ℕ} 0 1 = cc in omega arith)
  from_head s ss t h (k ∷ ks) e =
      let g : k.statement ≡ s = cc in
      let i : statements ks ≡ ss = cc in
      ap (λ x. (from_statement ctx k x ks t (λ u. from_statements ctx ks u)).result) g ∙ h k ks i g

  -- what a search without a fold leaves
  abbrev Left : (List Statement → Tree → Type 0) → FromStatements → Type 0
  Left still w = SteadyStatements (statements w.result.left) × still (statements w.result.left) w.result.target

  as_kept : (k : Kept) (s : Statement) → k.statement ≡ s → record { number = k.number; statement = s } ≡ k
  as_kept k s e = λ j. record { number = k.number; statement = sym e j }

  -- the search of a declaration that leaves all its declarators, of which there are some
  declaration-again : (kind : DeclarationKind) (ds : List Declarator) (d : Declarator) (es : List Declarator) (t : Tree) (k : Kept) (ks : List Kept) → is_using kind ≡ false → d ∷ es ≡ reverse ds
      → ((before : List Statement) → (substitute_from_declarators ctx before kind (non_scoped_literal_only ctx) (reverse ds) t).result ≡ just t (reverse ds))
      → k.statement ≡ declaration kind ds → (from_statement ctx k (declaration kind ds) ks t (λ u. from_statements ctx ks u)).result ≡ just t (k ∷ ks)
  unfolding from_statement ◌>>=◌ after_declarators pure
  declaration-again kind ds d es t k ks u l again g =
      rw (u, again (in_file_order ks), ← l) (ap (λ x. just t (x ∷ ks)) (ap (λ x. record { number = k.number; statement = declaration kind x }) (ap reverse l ∙ reverse-reverse ds) ∙ as_kept k (declaration kind ds) g))

  -- after a declaration's declarators, all of which are left
  left-still : (k : Kept) (kind : DeclarationKind) (ds : List Declarator) (earlier : List Kept) (t : Tree) (left : List Declarator) (onward : Tree → FromStatements) → is_using kind ≡ false → left ≡ reverse ds
      → ((before : List Statement) → (substitute_from_declarators ctx before kind (non_scoped_literal_only ctx) (reverse ds) t).result ≡ just t (reverse ds))
      → SteadyStatements (declaration kind ds ∷ statements earlier) → ((onward t).trace ≡ [] → Left StillFrom (onward t))
      → (after_declarators ctx k kind earlier t left onward).trace ≡ [] → Left StillFrom (after_declarators ctx k kind earlier t left onward)
  unfolding after_declarators pure
  left-still k kind ds earlier t [] onward u l again (h, g) n z = n z
  left-still k kind ds earlier t (d ∷ es) onward u l again h n z =
      let e : reverse (d ∷ es) ≡ ds = ap reverse l ∙ reverse-reverse ds in (
        subst (λ x. SteadyStatements (declaration kind x ∷ statements earlier)) (sym e) h,
        subst (λ x. StillFrom (declaration kind x ∷ statements earlier) t) (sym e) (from_head (declaration kind ds) (statements earlier) t (λ k ks i g.
            declaration-again kind ds d es t k ks u l again g)),
      )

  stays : (s : Statement) (ss : List Statement) (t : Tree) → SteadyStatements (s ∷ ss) → ((k : Kept) (ks : List Kept) → (from_statement ctx k s ks t (λ u. from_statements ctx ks u)).result ≡ just t (k ∷ ks)) → SteadyStatements (s ∷ ss) × StillFrom (s ∷ ss) t
  stays s ss t h g = (h, from_head s ss t (λ k ks e i. g k ks))

  statement-still : (k : Kept) (s : Statement) (earlier : List Kept) (t : Tree) (onward : Tree → FromStatements) → SteadyStatements (s ∷ statements earlier) → k.statement ≡ s
      → ((u : Tree) → (onward u).trace ≡ [] → Left StillFrom (onward u))
      → (from_statement ctx k s earlier t onward).trace ≡ [] → Left StillFrom (from_statement ctx k s earlier t onward)
  unfolding from_statement pure ◌>>=◌
  statement-still k (declaration kind ds) earlier t onward h e n z = by (is_using kind) refl z
    where
      w : FromDeclarators
      w = substitute_from_declarators ctx (in_file_order earlier) kind (non_scoped_literal_only ctx) (reverse ds) t

      searched : FromStatements
      searched = w >>= λ v. after_declarators ctx k kind earlier v.target v.left onward

      by : (b : Bool) → is_using kind ≡ b → (cond b (ended t (k ∷ earlier)) searched).trace ≡ [] → Left StillFrom (cond b (ended t (k ∷ earlier)) searched)
      by true u z = rw e (stays (declaration kind ds) (statements earlier) t h (λ k ks. rw u))
      by false u z =
          let (a, b) = both-empty w.trace (after_declarators ctx k kind earlier w.result.target w.result.left onward).trace z in
          let s = declarators-still ctx kind (in_file_order earlier) (non_scoped_literal_only ctx) (reverse ds) t a in
          left-still k kind ds earlier w.result.target w.result.left onward u s.left s.again h (n w.result.target) b
  statement-still k (expression x) earlier t onward h e n z = rw e (stays (expression x) (statements earlier) t h (λ k ks. refl))
  statement-still k other earlier t onward h e n z = rw e (stays other (statements earlier) t h (λ k ks. refl))

  none_kept : (ks : List Kept) → statements ks ≡ [] → ks ≡ []
  none_kept [] e = refl
  none_kept (k ∷ ks) e = absurd (let z : ◌≡◌ {A = ℕ} 0 1 = cc in omega arith)

  statements-still : (ks : List Kept) (t : Tree) → SteadyStatements (statements ks) → (from_statements ctx ks t).trace ≡ [] → Left StillFrom (from_statements ctx ks t)
  unfolding from_statements pure
  statements-still [] t h z = (tt, (λ ks e. rw (none_kept ks e)))
  statements-still (k ∷ ks) t h z = statement-still k k.statement ks t (λ u. from_statements ctx ks u) h refl (λ u y. statements-still ks u h.0 y) z

  in_still : (ks : List Kept) (t : Tree) → SteadyStatements (statements ks) → (substitute_in_statement ctx ks t).trace ≡ [] → Left StillIn (substitute_in_statement ctx ks t)
  unfolding substitute_in_statement pure
  in_still ks t h z = by (is_unsearched ctx) refl z
    where
      by : (b : Bool) → is_unsearched ctx ≡ b → (cond b (ended t ks) (from_statements ctx ks t)).trace ≡ [] → Left StillIn (cond b (ended t ks) (from_statements ctx ks t))
      by true e z = (h, (λ ks g. rw e))
      by false e z = let (a, b) = statements-still ks t h z in (a, (λ ks g. rw e (b ks g)))

  -- The first declarator of a declaration: it stays as it is, whatever stands behind it.
  abbrev StillFirst : List Statement → List Declarator → Type 0
  StillFirst ss [] = Unit {0}
  StillFirst ss (d ∷ ds) = (ks : List Kept) → statements ks ≡ ss → (es : List Declarator) → (in_first_declarator ctx ks (d ∷ es)).result ≡ just (d ∷ es) ks

  abbrev FirstLeft : Traced (Searched (List Declarator) Kept) → Type 0
  FirstLeft w = SteadyStatements (statements w.result.left) × StillFirst (statements w.result.left) w.result.target

  initializer-still : (ks : List Kept) (d : Declarator) (ds : List Declarator) (i : Initializer) → d.initializer ≡ i → SteadyStatements (statements ks) → (in_initializer ctx ks d ds i).trace ≡ [] → FirstLeft (in_initializer ctx ks d ds i)
  unfolding in_initializer in_first_declarator pure ◌>>=◌
  initializer-still ks d ds bare e h z = (h, (λ ks g es. rw e))
  initializer-still ks d ds (given t) e h z =
      let (a, b) = in_still ks t h (first-empty (substitute_in_statement ctx ks t).trace [] z) in
      (a, (λ ks g es. rw (b ks g)))

  first-still : (ks : List Kept) (ds : List Declarator) → SteadyStatements (statements ks) → (in_first_declarator ctx ks ds).trace ≡ [] → FirstLeft (in_first_declarator ctx ks ds)
  unfolding in_first_declarator pure
  first-still ks [] h z = (h, tt)
  first-still ks (d ∷ ds) h z = initializer-still ks d ds d.initializer refl h z

  first-again : (kind : DeclarationKind) (ss : List Statement) (ds es : List Declarator) → StillFirst ss ds → SameFirst ctx kind ds es → (ks : List Kept) → statements ks ≡ ss → (in_first_declarator ctx ks es).result ≡ just es ks
  unfolding in_first_declarator pure
  first-again kind ss [] es h e ks g = rw e
  first-again kind ss (d ∷ ds) es h (fs, e) ks g = rw e (h ks g fs)

  -- A statement that was taken without a fold.
  fold-still : (number : ℕ) (ks : List Kept) (s : Statement) → SteadyStatements (statements ks) → (fold_statement ctx number ks s).trace ≡ [] → SteadyStatements (statements (fold_statement ctx number ks s).result)
  unfolding fold_statement pure ◌>>=◌
  fold-still number ks (declaration kind ds) h z =
      let w = in_first_declarator ctx ks ds in
      let v = substitute_within_declaration ctx (in_file_order w.result.left) kind w.result.target in
      let (y, x) = both-empty w.trace (v.trace ++ []) z in
      let (a, b) = first-still ks ds h y in
      let s = declaration-still ctx kind (in_file_order w.result.left) w.result.target (first-empty v.trace [] x) in
      (a, (λ number ks e. rw (first-again kind (statements w.result.left) w.result.target v.result b s.first ks e, s.again (in_file_order ks))))
  fold-still number ks (expression t) h z =
      let (a, b) = in_still ks t h (first-empty (substitute_in_statement ctx ks t).trace [] z) in
      (a, (λ number ks e. rw (b ks e)))
  fold-still number ks other h z = (h, (λ number ks e. refl))

  -- All statements.
  folds-still : (number : ℕ) (ks : List Kept) (ss : List Statement) → SteadyStatements (statements ks) → (fold_statements ctx number ks ss).trace ≡ [] → SteadyStatements (reverse (statements (fold_statements ctx number ks ss).result))
  unfolding fold_statements pure ◌>>=◌
  folds-still number ks [] h z = subst SteadyStatements (sym (ap reverse (map_reverse statement_of ks) ∙ reverse-reverse (statements ks))) h
  folds-still number ks (s ∷ ss) h z =
      let w = fold_statement ctx number ks s in
      let (a, b) = both-empty w.trace (fold_statements ctx (number + 1) w.result ss).trace z in
      folds-still (number + 1) w.result ss (fold-still number ks s h a) b

-- A run with no fold is followed by one that leaves the file as it is.
pub still-run : (f : File) → (fold_file f).trace ≡ [] → (fold_file (fold_file f).file).file ≡ (fold_file f).file
unfolding fold_file folded_file with_statements context_of
still-run f z =
    let ss = statements (fold_statements (context_of f) 0 [] f.statements).result in
    ap (with_statements f) (steady-same (context_of f) 0 [] ss (folds-still (context_of f) 0 [] f.statements tt z) ∙ reverse-reverse ss)
