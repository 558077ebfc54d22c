-- The file can make every step and choice of the programs on the way to its result, and so of the result.
use Prim.Native.Nat.{ℕ}
use mathlib.Core.Bool.{Bool, true, ◌&&◌, ◌||◌}
use mathlib.Core.List.{List, [], ◌∷◌, ◌++◌}
use mathlib.Core.Path.{◌≡◌, refl, sym, subst}
use Rattle.records.specs.Tree.{Tree, none, more}
use Rattle.records.specs.File.{DeclarationKind, given, Declarator, Statement, declaration, expression, File}
use Rattle.records.specs.declared.layout.NameFacts.{NameFacts}
use Rattle.walk_rules.specs.Context.{context_of}
use Rattle.statements_rules.specs.Trace.{Fold}
use Rattle.statements_rules.specs.Declarators.{is_using, with_tree}
use Rattle.theory_runs.specs.Hand.{Hand}
use Rattle.theory_runs.specs.Step.{value, of_declarator, Step}
use Rattle.theory_runs.specs.Run.{all}
use Rattle.theory_runs.specs.Script.{is_pattern}
use Rattle.theory_runs.specs.Facts.{Each}
use Rattle.theory_runs.specs.InHand.{are_values}
use Rattle.theory_runs.specs.Makes.{Asked, is_marked_step, same_origin, makes_in, makes_marked, makes_declarator, makes_statement, makes}
use Rattle.theory_preservation.proofs.Tests.{or_right, by_or}
use Rattle.theory_preservation.proofs.Places.{Place, declarator, statement, initializer, declarators_at, statements_at}
use Rattle.theory_preservation.proofs.Moves.{Moves, FoldAt, StopAt, DropAt, done, fold, stop, drop}
use Rattle.theory_preservation.proofs.Fine.{Accepted, Fine}
use Rattle.theory_preservation.proofs.Fit.{fit_parts}
use Rattle.theory_preservation.proofs.FineKept.{fit-here, stop_fine, drop_fine}
use Rattle.theory_preservation.proofs.FoldKept.{known-name, fits-here, eval_here, fold_fine}
use Rattle.theory_preservation.proofs.Within.{Within, WithinDeclarator, declarator-made, WithinDeclarators, WithinProgram, WithinFold, initializer-within, first_part, other-parts, join_first, none_made, parts, join}
use Rattle.theory_preservation.proofs.SearchWithin.{replaced-within, stopped-within}
use Rattle.theory_preservation.proofs.Placeable.{Placeable}

module _ (Value : Type 0) (f : File) where
  abbrev names : List NameFacts
  names = f.names

  -- the file itself
  pub file-within : WithinProgram Value f f.statements
  unfolding makes
  file-within d x e = e

  -- A declarator with another initializer.
  same-values : (t u : Tree) (hs : Hand Value) → are_values all (more u none) hs ≡ are_values all (more t none) hs
  unfolding are_values
  same-values t u [] = refl
  same-values t u (h ∷ hs) = refl

  other-initializer : (k : DeclarationKind) (a : ℕ) (t u : Tree) → WithinDeclarator Value f k a (given t) → Within Value f value u → WithinDeclarator Value f k a (given u)
  unfolding makes_declarator makes_marked
  other-initializer k a t u h g d x e =
      by_or (makes_in names d x u value) _ (λ q. g d x q)
      (λ q. h d x (or_right (makes_in names d x t value) _ (subst (λ b. ((is_using k || is_pattern a) && (b && is_marked_step d && same_origin (of_declarator k a) x.origin)) ≡ true) (same-values t u x.hand) q))) e

  -- the statements of a program: a declaration, an expression
  abbrev statement-made : Asked → Step Value → Statement → Bool
  statement-made d x s = makes_statement names d x s

  first-declaration : (k : DeclarationKind) (ds : List Declarator) (after : List Statement) → WithinProgram Value f (declaration k ds ∷ after) → WithinDeclarators Value f k ds × WithinProgram Value f after
  unfolding makes_statement
  first-declaration k ds after h = (first_part Value f statement-made (declaration k ds) after h, other-parts Value f statement-made (declaration k ds) after h)

  join-declaration : (k : DeclarationKind) (ds : List Declarator) (after : List Statement) → WithinDeclarators Value f k ds → WithinProgram Value f after → WithinProgram Value f (declaration k ds ∷ after)
  unfolding makes_statement
  join-declaration k ds after h g = join_first Value f statement-made (declaration k ds) after h g

  first-expression : (t : Tree) (after : List Statement) → WithinProgram Value f (expression t ∷ after) → Within Value f value t × WithinProgram Value f after
  unfolding makes_statement
  first-expression t after h = (first_part Value f statement-made (expression t) after h, other-parts Value f statement-made (expression t) after h)

  join-expression : (t : Tree) (after : List Statement) → Within Value f value t → WithinProgram Value f after → WithinProgram Value f (expression t ∷ after)
  unfolding makes_statement
  join-expression t after h g = join_first Value f statement-made (expression t) after h g

  -- The tree in a place, and another there.
  first-tree : (k : DeclarationKind) (d : Declarator) (ds : List Declarator) (t : Tree) → WithinDeclarators Value f k (with_tree d t ∷ ds) → Within Value f value t
  first-tree k d ds t h = initializer-within Value f k d.name t (first_part Value f (declarator-made Value f k) (with_tree d t) ds h)

  other-tree : (k : DeclarationKind) (d : Declarator) (ds : List Declarator) (t u : Tree) → WithinDeclarators Value f k (with_tree d t ∷ ds) → Within Value f value u → WithinDeclarators Value f k (with_tree d u ∷ ds)
  other-tree k d ds t u h g =
      join_first Value f (declarator-made Value f k) (with_tree d u) ds (other-initializer k d.name t u (first_part Value f (declarator-made Value f k) (with_tree d t) ds h) g) (other-parts Value f (declarator-made Value f k) (with_tree d t) ds h)

  abbrev AtPlace : DeclarationKind → Place → Tree → List Statement → Type 0
  AtPlace k p t after = WithinDeclarators Value f k (declarators_at p t) × WithinProgram Value f (statements_at p t after)

  place-tree : (k : DeclarationKind) (p : Place) (t : Tree) (after : List Statement) → AtPlace k p t after → Within Value f value t
  unfolding declarators_at statements_at
  place-tree k (declarator d ds) t after (h, g) = first-tree k d ds t h
  place-tree k statement t after (h, g) = (first-expression t after g).0
  place-tree k (initializer k' d ds) t after (h, g) = first-tree k' d ds t (first-declaration k' (with_tree d t ∷ ds) after g).0

  place_other : (k : DeclarationKind) (p : Place) (t u : Tree) (after : List Statement) → AtPlace k p t after → Within Value f value u → AtPlace k p u after
  unfolding declarators_at statements_at
  place_other k (declarator d ds) t u after (h, g) w = (other-tree k d ds t u h w, g)
  place_other k statement t u after (h, g) w = (h, join-expression u after w (first-expression t after g).1)
  place_other k (initializer k' d ds) t u after (h, g) w =
      let (a, b) = first-declaration k' (with_tree d t ∷ ds) after g in
      (h, join-declaration k' (with_tree d u ∷ ds) after (other-tree k' d ds t u a w) b)

  -- A program with such a place: its parts, and from its parts.
  site_parts : (before : List Statement) (k : DeclarationKind) (ds es : List Declarator) (after : List Statement) → WithinProgram Value f (before ++ (declaration k (ds ++ es) ∷ after)) → WithinProgram Value f before × WithinDeclarators Value f k ds × WithinDeclarators Value f k es × WithinProgram Value f after
  site_parts before k ds es after h =
      let (a, b) = parts Value f statement-made before (declaration k (ds ++ es) ∷ after) h in
      let (c, d) = first-declaration k (ds ++ es) after b in
      let (x, y) = parts Value f (declarator-made Value f k) ds es c in
      (a, x, y, d)

  site_join : (before : List Statement) (k : DeclarationKind) (ds es : List Declarator) (after : List Statement) → WithinProgram Value f before → WithinDeclarators Value f k ds → WithinDeclarators Value f k es → WithinProgram Value f after → WithinProgram Value f (before ++ (declaration k (ds ++ es) ∷ after))
  site_join before k ds es after a b c d = join Value f statement-made before (declaration k (ds ++ es) ∷ after) a (join-declaration k (ds ++ es) after (join Value f (declarator-made Value f k) ds es b c) d)

  stop-within : (P Q : List Statement) → StopAt (context_of f) P Q → Fine f P → WithinProgram Value f P → WithinProgram Value f Q
  stop-within P Q move fine h =
      let p : Place = move.place in
      let (a, b, c, d) = site_parts move.before move.kind move.earlier (declarators_at p move.old) (statements_at p move.old move.after) (subst (λ X. WithinProgram Value f X) move.from h) in
      let t = stopped-within Value f move.name move.initial (context_of f) move.old move.new (fit_parts names move.old (fit-here f P Q move fine)).0 move.ended (place-tree move.kind p move.old move.after (c, d)) in
      let (x, y) = place_other move.kind p move.old move.new move.after (c, d) t in
      subst (λ X. WithinProgram Value f X) (sym move.into) (site_join move.before move.kind move.earlier (declarators_at p move.new) (statements_at p move.new move.after) a b x y)

  drop-within : (P Q : List Statement) → DropAt (context_of f) P Q → WithinProgram Value f P → WithinProgram Value f Q
  drop-within P Q move h =
      let (a, b) = parts Value f statement-made move.before (declaration move.kind [] ∷ move.after) (subst (λ X. WithinProgram Value f X) move.from h) in
      subst (λ X. WithinProgram Value f X) (sym move.into) (join Value f statement-made move.before move.after a (first-declaration move.kind [] move.after b).1)

  fold-within : (P Q : List Statement) (φ : Fold) → FoldAt (context_of f) P Q φ → Accepted f → Fine f P → WithinProgram Value f P → WithinFold Value f φ × WithinProgram Value f Q
  fold-within P Q φ move accepted fine h =
      let p : Place = move.place in
      let d₀ : Declarator = record { name = φ.name; initializer = given φ.initializer } in
      let (a, b, e, d) = site_parts move.before move.kind move.earlier (d₀ ∷ declarators_at p φ.into) (statements_at p φ.into move.after) (subst (λ X. WithinProgram Value f X) move.from h) in
      let r : Within Value f value φ.initializer = initializer-within Value f move.kind φ.name φ.initializer (first_part Value f (declarator-made Value f move.kind) d₀ (declarators_at p φ.into) e) in
      let c : WithinDeclarators Value f move.kind (declarators_at p φ.into) = other-parts Value f (declarator-made Value f move.kind) d₀ (declarators_at p φ.into) e in
      let old : Within Value f value φ.into = place-tree move.kind p φ.into move.after (c, d) in
      let fits = fits-here f P Q φ move accepted fine in
      let placeable : Placeable Value f φ.name φ.initializer = record { steps = r; expression = (fit_parts names φ.initializer fits.1).2; standing = (fit_parts names φ.initializer fits.1).0; no_eval = eval_here f P Q φ move accepted fine; plain = (known-name f P Q φ move accepted fine).1 } in
      let new = replaced-within Value f φ.name φ.initializer (context_of f) φ.into move.tree (fit_parts names φ.into fits.0).0 move.placed placeable old in
      let (x, y) = place_other move.kind p φ.into move.tree move.after (c, d) new in (
        (subst (λ X. WithinProgram Value f X) (sym move.stood) (join Value f statement-made move.before (declaration move.kind move.earlier ∷ []) a (join-declaration move.kind move.earlier [] b (none_made Value f statement-made))), r, old),
        subst (λ X. WithinProgram Value f X) (sym move.into) (site_join move.before move.kind move.earlier (declarators_at p move.tree) (statements_at p move.tree move.after) a b x y),
      )

  -- the folds that are made, and the program that is left
  pub moves-within : {P Q : List Statement} {φs : List Fold} → Moves (context_of f) P Q φs → Accepted f → Fine f P → WithinProgram Value f P → Each (WithinFold Value f) φs × WithinProgram Value f Q
  moves-within (done e g) accepted fine h = (rw g tt, rw e h)
  moves-within {P = P} (fold M φ ψs m e k) accepted fine h =
      let (x, y) = fold-within P M φ m accepted fine h in
      let (z, w) = moves-within k accepted (fold_fine f P M φ m accepted fine) y in
      (rw e (x, z), w)
  moves-within {P = P} (stop M m k) accepted fine h = moves-within k accepted (stop_fine f P M m fine) (stop-within P M m fine h)
  moves-within {P = P} (drop M m k) accepted fine h = moves-within k accepted (drop_fine f P M m fine) (drop-within P M m h)
