-- The sums of a program before a move and behind it.
use Prim.Native.Nat.{ℕ, ◌+◌, ◌≤◌}
use native.Mathlib.Omega.{arith}
use mathlib.Core.List.{List}
use mathlib.Core.Path.{◌≡◌, refl, sym, ap, ◌∙◌}
use Rattle.records.specs.Tree.{Tree}
use Rattle.records.specs.File.{given, Declarator, Statement}
use Rattle.walk_rules.specs.Context.{Context}
use Rattle.statements_rules.specs.Trace.{Fold}
use Rattle.theory_preservation.proofs.Places.{Place}
use Rattle.theory_preservation.proofs.Moves.{FoldAt, StopAt, DropAt}
use Rattle.theory_preservation.proofs.Totals.{weighed, of_initializer, total_of, total, there, around, site_total, fold-total, drop-total, there-tree, there-declared, trees, declaring, declarations}

-- the sum of a program but for what a fold or a search touches
abbrev pub elsewhere : (Declarator → ℕ) → (Tree → ℕ) → List Statement → List Declarator → Place → List Statement → ℕ
elsewhere wd we before ds p after = total wd we before + total_of wd we ds + around wd we p after

-- a fold: the declarator goes, and the tree in the place is another
module _ {ctx : Context} {P Q : List Statement} {φ : Fold} (move : FoldAt ctx P Q φ) where
  abbrev pub fold-rest : (Declarator → ℕ) → (Tree → ℕ) → ℕ
  fold-rest wd we = elsewhere wd we move.before move.earlier move.place move.after

  abbrev folding : Declarator
  folding = record { name = φ.name; initializer = given φ.initializer }

  pub fold-before : (wd : Declarator → ℕ) (we : Tree → ℕ) → total wd we P ≡ fold-rest wd we + there wd we move.place φ.into + wd folding
  fold-before wd we = ap (total wd we) move.from ∙ fold-total wd we move.before move.kind move.earlier folding move.place φ.into move.after

  pub fold-behind : (wd : Declarator → ℕ) (we : Tree → ℕ) → total wd we Q ≡ fold-rest wd we + there wd we move.place move.tree
  fold-behind wd we = ap (total wd we) move.into ∙ site_total wd we move.before move.kind move.earlier move.place move.tree move.after

  given-weight : (w : Tree → ℕ) → weighed w (given φ.initializer) ≡ w φ.initializer
  unfolding weighed
  given-weight w = refl

  pub fold-trees_before : (w : Tree → ℕ) → trees w P ≡ fold-rest (of_initializer w) w + w φ.into + w φ.initializer
  fold-trees_before w = let a = fold-before (of_initializer w) w in let b = there-tree w move.place φ.into in let c = given-weight w in omega (arith, a, b, c)

  pub fold_trees_behind : (w : Tree → ℕ) → trees w Q ≡ fold-rest (of_initializer w) w + w move.tree
  fold_trees_behind w = let a = fold-behind (of_initializer w) w in let b = there-tree w move.place move.tree in omega (arith, a, b)

  pub fold-declared : (a : ℕ) → declarations a Q ≤ declarations a P
  fold-declared a = let x = fold-before (declaring a) (λ t. 0) in let y = fold-behind (declaring a) (λ t. 0) in let z = there-declared a move.place φ.into move.tree in omega (arith, x, y, z)

-- a search that stopped: the tree in the place is another
module _ {ctx : Context} {P Q : List Statement} (move : StopAt ctx P Q) where
  abbrev pub stop-rest : (Declarator → ℕ) → (Tree → ℕ) → ℕ
  stop-rest wd we = elsewhere wd we move.before move.earlier move.place move.after

  pub stop-before : (wd : Declarator → ℕ) (we : Tree → ℕ) → total wd we P ≡ stop-rest wd we + there wd we move.place move.old
  stop-before wd we = ap (total wd we) move.from ∙ site_total wd we move.before move.kind move.earlier move.place move.old move.after

  pub stop-behind : (wd : Declarator → ℕ) (we : Tree → ℕ) → total wd we Q ≡ stop-rest wd we + there wd we move.place move.new
  stop-behind wd we = ap (total wd we) move.into ∙ site_total wd we move.before move.kind move.earlier move.place move.new move.after

  pub stop-trees_before : (w : Tree → ℕ) → trees w P ≡ stop-rest (of_initializer w) w + w move.old
  stop-trees_before w = let a = stop-before (of_initializer w) w in let b = there-tree w move.place move.old in omega (arith, a, b)

  pub stop_trees_behind : (w : Tree → ℕ) → trees w Q ≡ stop-rest (of_initializer w) w + w move.new
  stop_trees_behind w = let a = stop-behind (of_initializer w) w in let b = there-tree w move.place move.new in omega (arith, a, b)

  pub stop-declared : (a : ℕ) → declarations a Q ≤ declarations a P
  stop-declared a = let x = stop-before (declaring a) (λ t. 0) in let y = stop-behind (declaring a) (λ t. 0) in let z = there-declared a move.place move.old move.new in omega (arith, x, y, z)

-- an empty declaration that was dropped: every sum is the same
module _ {ctx : Context} {P Q : List Statement} (move : DropAt ctx P Q) where
  pub drop-sum : (wd : Declarator → ℕ) (we : Tree → ℕ) → total wd we Q ≡ total wd we P
  drop-sum wd we = ap (total wd we) move.into ∙ sym (ap (total wd we) move.from ∙ drop-total wd we move.before move.kind move.after)
