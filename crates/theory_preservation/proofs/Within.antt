-- Trees and programs each of whose steps and choices the file can make.
use Prim.Native.Nat.{ℕ}
use mathlib.Core.Bool.{Bool, true, false}
use mathlib.Core.List.{List, [], ◌∷◌, ◌++◌}
use mathlib.Core.Path.{◌≡◌, refl}
use borrow.Author.Tests.{eq-eqb}
use Rattle.records.specs.Tree.{Node, Tree, Trees, node, more}
use Rattle.records.specs.File.{DeclarationKind, Initializer, given, Declarator, Statement, File, kind_number}
use Rattle.records.specs.declared.layout.NameFacts.{NameFacts}
use Rattle.statements_rules.specs.Trace.{Fold}
use Rattle.theory_runs.specs.Hand.{Hand}
use Rattle.theory_runs.specs.Step.{Role, value, Origin, of_node, of_declarator, of_other, Step}
use Rattle.theory_runs.specs.Form.{cleared, form, choice_of, first_role, origin_of}
use Rattle.theory_runs.specs.InHand.{may_have}
use Rattle.theory_runs.specs.Makes.{Asked, some_turn, some, asks, role_number, same_origin, makes_here, makes_in, makes_in_forest, makes_declarator, makes_statement, makes}
use Rattle.records.proofs.Tests.{clash}
use Rattle.theory_preservation.proofs.Tests.{or_left, or_right, by_or}
use Rattle.theory_preservation.proofs.Ends.{step_of}

pub same-origin : (o : Origin) → same_origin o o ≡ true
unfolding same_origin
same-origin (of_node kind label flags role) = rw (eq-eqb kind kind refl, eq-eqb label label refl, eq-eqb flags flags refl, eq-eqb (role_number role) (role_number role) refl)
same-origin (of_declarator k a) = rw (eq-eqb (kind_number k) (kind_number k) refl, eq-eqb a a refl)
same-origin of_other = refl

module _ (Value : Type 0) (f : File) where
  abbrev names : List NameFacts
  names = f.names

  -- such steps and choices
  abbrev Makes : (Asked → Step Value → Bool) → Type 0
  Makes made = (d : Asked) (x : Step Value) → made d x ≡ true → makes d f x ≡ true

  abbrev pub Within : Role → Tree → Type 0
  Within role t = Makes (λ d x. makes_in names d x t role)

  abbrev pub WithinForest : Role → Trees → Type 0
  WithinForest role ts = Makes (λ d x. makes_in_forest names d x ts role)

  abbrev pub WithinDeclarator : DeclarationKind → ℕ → Initializer → Type 0
  WithinDeclarator k a i = Makes (λ d x. makes_declarator names d x k a i)

  abbrev pub declarator-made : DeclarationKind → Asked → Step Value → Declarator → Bool
  declarator-made k d x e = makes_declarator names d x k e.name e.initializer

  abbrev pub WithinDeclarators : DeclarationKind → List Declarator → Type 0
  WithinDeclarators k ds = Makes (λ d x. some (declarator-made k d x) ds)

  abbrev pub WithinProgram : List Statement → Type 0
  WithinProgram ss = Makes (λ d x. some (makes_statement names d x) ss)

  -- what a fold speaks of
  abbrev pub WithinFold : Fold → Type 0
  WithinFold φ = WithinProgram φ.before × Within value φ.initializer × Within value φ.into

  -- A node: its own steps, and those of its children.
  pub node-steps : (n : Node) (ts : Trees) (role : Role) → Within role (node n ts) → (d : Asked) (hs : Hand Value) → asks d names (form (cleared n)) (cleared n) role ≡ true → some_turn d (choice_of (form (cleared n))) (λ w. may_have names (cleared n) w ts hs) ≡ true → makes d f (step_of (cleared n) role hs) ≡ true
  unfolding makes_in makes_here
  node-steps n ts role h d hs e g = h d (step_of (cleared n) role hs) (or_left (makes_here names d (step_of (cleared n) role hs) (cleared n) role ts) _ (rw (g, e, same-origin (origin_of (cleared n) role))))

  pub node-children : (n : Node) (ts : Trees) (role : Role) → Within role (node n ts) → WithinForest (first_role (form (cleared n)) (cleared n) role) ts
  unfolding makes_in
  node-children n ts role h d x e = h d x (or_right (makes_here names d x (cleared n) role ts) _ e)

  pub row_first : (t : Tree) (ts : Trees) (role : Role) → WithinForest role (more t ts) → Within role t
  unfolding makes_in
  row_first t ts role h d x e = h d x (or_left (makes_in names d x t role) (makes_in_forest names d x ts value) e)

  pub row-others : (t : Tree) (ts : Trees) (role : Role) → WithinForest role (more t ts) → WithinForest value ts
  unfolding makes_in
  row-others t ts role h d x e = h d x (or_right (makes_in names d x t role) (makes_in_forest names d x ts value) e)

  pub row-join : (t : Tree) (ts : Trees) (role : Role) → Within role t → WithinForest value ts → WithinForest role (more t ts)
  unfolding makes_in
  row-join t ts role h g d x e = by_or (makes_in names d x t role) (makes_in_forest names d x ts value) (λ q. h d x q) (λ q. g d x q) e

  pub initializer-within : (k : DeclarationKind) (a : ℕ) (t : Tree) → WithinDeclarator k a (given t) → Within value t
  unfolding makes_declarator
  initializer-within k a t h d x e = h d x (or_left _ _ e)

  -- A row of declarators or of statements, and its parts.
  module _ {A : Type 0} (made : Asked → Step Value → A → Bool) where
    pub first_part : (a : A) (xs : List A) → Makes (λ d x. some (made d x) (a ∷ xs)) → Makes (λ d x. made d x a)
    unfolding some
    first_part a xs h d x e = h d x (or_left (made d x a) (some (made d x) xs) e)

    pub other-parts : (a : A) (xs : List A) → Makes (λ d x. some (made d x) (a ∷ xs)) → Makes (λ d x. some (made d x) xs)
    unfolding some
    other-parts a xs h d x e = h d x (or_right (made d x a) (some (made d x) xs) e)

    pub join_first : (a : A) (xs : List A) → Makes (λ d x. made d x a) → Makes (λ d x. some (made d x) xs) → Makes (λ d x. some (made d x) (a ∷ xs))
    unfolding some
    join_first a xs h g d x e = by_or (made d x a) (some (made d x) xs) (λ q. h d x q) (λ q. g d x q) e

    pub none_made : Makes (λ d x. some (made d x) [])
    unfolding some
    none_made d x e = clash false refl e

    pub parts : (xs ys : List A) → Makes (λ d x. some (made d x) (xs ++ ys)) → Makes (λ d x. some (made d x) xs) × Makes (λ d x. some (made d x) ys)
    parts [] ys h = (none_made, h)
    parts (a ∷ xs) ys h = let (g, k) = parts xs ys (other-parts a (xs ++ ys) h) in (join_first a xs (first_part a (xs ++ ys) h) g, k)

    pub join : (xs ys : List A) → Makes (λ d x. some (made d x) xs) → Makes (λ d x. some (made d x) ys) → Makes (λ d x. some (made d x) (xs ++ ys))
    join [] ys h g = g
    join (a ∷ xs) ys h g = join_first a (xs ++ ys) (first_part a xs h) (join xs ys (other-parts a xs h) g)
