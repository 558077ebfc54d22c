-- A search from declarators, and one within a declaration, that makes no fold: made once more it changes nothing. Assumes
-- nothing.
use Prim.Native.Nat.{ℕ}
use native.Mathlib.Omega.{arith}
use mathlib.Core.Bool.{Bool, true, false, cond, ◌||◌}
use mathlib.Core.List.{List, [], ◌∷◌, ◌++◌, reverse, reverse_aux, reverse-reverse}
use mathlib.Core.Path.{◌≡◌, refl, sym, ap, ◌∙◌}
use Rattle.records.specs.Tree.{Tree}
use Rattle.records.specs.File.{DeclarationKind, Initializer, bare, given, Declarator, Statement}
use Rattle.walk_rules.specs.Context.{Context}
use Rattle.walk_rules.specs.Substitute.{Answer, replaced, stopped, passed, substitute_in_expression}
use Rattle.walk_rules.specs.Looks.{looks_in_expression}
use Rattle.statements_rules.specs.Trace.{pure, ◌>>=◌, looked, folded}
use Rattle.statements_rules.specs.Declarators.{is_unsearched, is_using, ends_search, Searched, ended, with_tree, FromDeclarators, after_answer, from_declarator, substitute_from_declarators, within_declarator, within_declarators, substitute_within_declaration}
use Rattle.theory_steady.proofs.Again.{stopped-again}

-- what is left where nothing is folded
abbrev pub just : {T A : Type 0} → T → List A → Searched T A
just t left = record { target = t; left = left }

-- of two traces one after the other
pub both-empty : {A : Type 0} (xs ys : List A) → xs ++ ys ≡ [] → (xs ≡ []) × (ys ≡ [])
both-empty [] ys e = (refl, e)
both-empty (x ∷ xs) ys e = absurd (let z : ◌≡◌ {A = ℕ} 0 1 = cc in omega arith)

pub first-empty : {A : Type 0} (xs ys : List A) → xs ++ ys ≡ [] → xs ≡ []
first-empty xs ys e = (both-empty xs ys e).0

module _ (ctx : Context) (kind : DeclarationKind) where
  -- A search without a fold leaves all declarators, and a tree whose search leaves all as it is.
  pub record Still (lit : Bool) (ds : List Declarator) (w : FromDeclarators) : Type 0 where
    pub left : w.result.left ≡ ds
    pub again : (before : List Statement) → (substitute_from_declarators ctx before kind lit ds w.result.target).result ≡ just w.result.target ds

  answer-still : (before : List Statement) (lit : Bool) (d : Declarator) (r : Tree) (earlier : List Declarator) (t : Tree) (a : Answer Tree) (onward : Tree → FromDeclarators) → d.initializer ≡ given r → ends_search ctx lit d.name r ≡ false
      → substitute_in_expression ctx d.name r t ≡ a → (after_answer ctx before kind d r earlier t a onward).trace ≡ [] → Still lit (d ∷ earlier) (after_answer ctx before kind d r earlier t a onward)
  unfolding after_answer folded pure substitute_from_declarators from_declarator looked
  answer-still before lit d r earlier t (replaced t') onward i g e z = absurd (let y : ◌≡◌ {A = ℕ} 0 1 = cc in omega arith)
  answer-still before lit d r earlier t (stopped t') onward i g e z = record { left = refl; again = λ before. rw (i, g, stopped-again ctx d.name r t t' e) }
  answer-still before lit d r earlier t passed onward i g e z = record { left = refl; again = λ before. rw (i, g, e) }

  looked-still : (lit : Bool) (ds : List Declarator) (t : Tree) (looks : ℕ) (w : FromDeclarators) → (w.trace ≡ [] → Still lit ds w) → (looked t looks w).trace ≡ [] → Still lit ds (looked t looks w)
  unfolding looked
  looked-still lit ds t looks w h z = let s = h z in record { left = s.left; again = s.again }

  declarator-still : (before : List Statement) (lit : Bool) (d : Declarator) (i : Initializer) (earlier : List Declarator) (t : Tree) (onward : Tree → FromDeclarators) → d.initializer ≡ i
      → (from_declarator ctx before kind lit d i earlier t onward).trace ≡ [] → Still lit (d ∷ earlier) (from_declarator ctx before kind lit d i earlier t onward)
  unfolding from_declarator pure
  declarator-still before lit d bare earlier t onward e z = record { left = refl; again = λ before. (unfold substitute_from_declarators in rw e) }
  declarator-still before lit d (given r) earlier t onward e z = by (ends_search ctx lit d.name r) refl z
    where
      searched : FromDeclarators
      searched = looked t (looks_in_expression ctx d.name r t) (after_answer ctx before kind d r earlier t (substitute_in_expression ctx d.name r t) onward)

      by : (b : Bool) → ends_search ctx lit d.name r ≡ b → (cond b (ended t (d ∷ earlier)) searched).trace ≡ [] → Still lit (d ∷ earlier) (cond b (ended t (d ∷ earlier)) searched)
      by true g z = record { left = refl; again = λ before. (unfold substitute_from_declarators in rw (e, g)) }
      by false g z = looked-still lit (d ∷ earlier) t (looks_in_expression ctx d.name r t) _ (λ z. answer-still before lit d r earlier t (substitute_in_expression ctx d.name r t) onward e g refl z) z

  pub declarators-still : (before : List Statement) (lit : Bool) (ds : List Declarator) (t : Tree) → (substitute_from_declarators ctx before kind lit ds t).trace ≡ [] → Still lit ds (substitute_from_declarators ctx before kind lit ds t)
  unfolding substitute_from_declarators pure
  declarators-still before lit [] t z = record { left = refl; again = λ before. refl }
  declarators-still before lit (d ∷ ds) t z = declarator-still before lit d d.initializer ds t (λ t. substitute_from_declarators ctx before kind lit ds t) refl z

  -- Declarators, the last first, each of which stays as it is where it is searched behind those before it.
  abbrev pub SteadyDeclarators : List Declarator → Type 0
  SteadyDeclarators [] = Unit {0}
  SteadyDeclarators (d ∷ ds) = SteadyDeclarators ds × ((before : List Statement) → (within_declarator ctx before kind ds d d.initializer).result ≡ d ∷ ds)

  steady-behind : (ds earlier : List Declarator) → SteadyDeclarators (reverse_aux ds earlier) → SteadyDeclarators earlier
  steady-behind [] earlier h = h
  steady-behind (d ∷ ds) earlier h = (steady-behind ds (d ∷ earlier) h).0

  -- so do they all
  steady-same : (before : List Statement) (earlier ds : List Declarator) → SteadyDeclarators (reverse_aux ds earlier) → (within_declarators ctx before kind earlier ds).result ≡ reverse (reverse_aux ds earlier)
  unfolding within_declarators pure ◌>>=◌
  steady-same before earlier [] h = refl
  steady-same before earlier (d ∷ ds) h = rw ((steady-behind ds (d ∷ earlier) h).1 before) (steady-same before (d ∷ earlier) ds h)

  from-none : (before : List Statement) (lit : Bool) (ds : List Declarator) (t : Tree) → ds ≡ [] → (substitute_from_declarators ctx before kind lit ds t).result.target ≡ t
  unfolding substitute_from_declarators pure
  from-none before lit ds t e = rw e

  same-tree : (d : Declarator) (t t' : Tree) → d.initializer ≡ given t → t' ≡ t → with_tree d t' ≡ d
  same-tree d t t' e g = λ j. record { name = d.name; initializer = (ap given g ∙ sym e) j }

  -- a declarator behind such ones; the first of all stays as it is
  one-still : (before : List Statement) (earlier : List Declarator) (d : Declarator) (i : Initializer) → d.initializer ≡ i → (within_declarator ctx before kind earlier d i).trace ≡ [] → SteadyDeclarators earlier
      → (d' : Declarator) × ((within_declarator ctx before kind earlier d i).result ≡ d' ∷ earlier) × SteadyDeclarators (d' ∷ earlier) × (earlier ≡ [] → d' ≡ d)
  unfolding within_declarator pure ◌>>=◌
  one-still before earlier d bare e z h = (d, refl, (h, (λ before. rw e)), (λ n. refl))
  one-still before earlier d (given t) e z h =
      let w = substitute_from_declarators ctx before kind false earlier t in
      let s = declarators-still before false earlier t (first-empty w.trace [] z) in
      (with_tree d w.result.target, rw s.left, (h, (λ before. rw (s.again before))), (λ n. same-tree d t w.result.target e (from-none before false earlier t n)))

  -- all of them
  all-still : (before : List Statement) (earlier ds : List Declarator) → (within_declarators ctx before kind earlier ds).trace ≡ [] → SteadyDeclarators earlier
      → (es : List Declarator) × ((within_declarators ctx before kind earlier ds).result ≡ reverse (reverse_aux es earlier)) × SteadyDeclarators (reverse_aux es earlier)
  unfolding within_declarators pure ◌>>=◌
  all-still before earlier [] z h = ([], refl, h)
  all-still before earlier (d ∷ ds) z h =
      let w = within_declarator ctx before kind earlier d d.initializer in
      let (a, b) = both-empty w.trace (within_declarators ctx before kind w.result ds).trace z in
      let (d', e, s, n) = one-still before earlier d d.initializer refl a h in
      let (es, g, k) = all-still before (d' ∷ earlier) ds (rw e at b) s in
      (d' ∷ es, ap (λ x. (within_declarators ctx before kind x ds).result) e ∙ g, k)

  -- The declarators of a declaration that was searched without a fold: they stay as they are, and the first is the same.
  abbrev pub SameFirst : List Declarator → List Declarator → Type 0
  SameFirst [] es = es ≡ []
  SameFirst (d ∷ ds) es = (fs : List Declarator) × (es ≡ d ∷ fs)

  pub record StillWithin (ds es : List Declarator) : Type 0 where
    pub first : SameFirst ds es
    pub again : (before : List Statement) → (substitute_within_declaration ctx before kind es).result ≡ es

  same_first : (ds : List Declarator) → SameFirst ds ds
  same_first [] = refl
  same_first (d ∷ ds) = (ds, refl)

  within_first : (before : List Statement) (ds : List Declarator) → (within_declarators ctx before kind [] ds).trace ≡ [] → SameFirst ds (within_declarators ctx before kind [] ds).result
  unfolding within_declarators pure ◌>>=◌
  within_first before [] z = refl
  within_first before (d ∷ ds) z =
      let w = within_declarator ctx before kind [] d d.initializer in
      let (a, b) = both-empty w.trace (within_declarators ctx before kind w.result ds).trace z in
      let (d', e, s, n) = one-still before [] d d.initializer refl a tt in
      let (es, g, k) = all-still before (d' ∷ []) ds (rw e at b) s in
      (es, ap (λ x. (within_declarators ctx before kind x ds).result) e ∙ g ∙ reverse-reverse (d' ∷ es) ∙ ap (λ x. x ∷ es) (n refl))

  within-again : (before : List Statement) (ds es : List Declarator) → (within_declarators ctx before kind [] ds).trace ≡ [] → (within_declarators ctx before kind [] ds).result ≡ es
      → (before' : List Statement) → (within_declarators ctx before' kind [] es).result ≡ es
  within-again before ds es z e before' =
      let (fs, g, k) = all-still before [] ds z tt in
      let h : fs ≡ es = sym (reverse-reverse fs) ∙ sym g ∙ e in
      rw (← h) (steady-same before' [] fs k ∙ reverse-reverse fs)

  pub declaration-still : (before : List Statement) (ds : List Declarator) → (substitute_within_declaration ctx before kind ds).trace ≡ [] → StillWithin ds (substitute_within_declaration ctx before kind ds).result
  unfolding substitute_within_declaration
  declaration-still before ds z = by (is_unsearched ctx || is_using kind) refl z
    where
      by : (b : Bool) → (is_unsearched ctx || is_using kind) ≡ b → (cond b (pure ds) (within_declarators ctx before kind [] ds)).trace ≡ [] → StillWithin ds (cond b (pure ds) (within_declarators ctx before kind [] ds)).result
      by true e z = unfold pure substitute_within_declaration in (record { first = same_first ds; again = λ before. rw e })
      by false e z = record {
        first = within_first before ds z;
        again = λ before'. (unfold substitute_within_declaration in rw e (within-again before ds (within_declarators ctx before kind [] ds).result z refl before'));
      }
