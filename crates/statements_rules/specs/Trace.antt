-- What is kept of the folds beside the file that they leave.
use Rattle.std.specs.Prelude.{ℕ, ◌+◌, List, [], ◌∷◌, ◌++◌}
use Rattle.records.specs.Tree.{Tree, size}
use Rattle.records.specs.File.{Statement}

-- A fold: the declarator's name and initializer; the tree that the initializer was placed in, as it was before; and the
-- statements before the initializer at that moment, the last of them its own declaration, as far as it stands before it.
pub record Fold : Type 0 where
  pub name : ℕ
  pub initializer : Tree
  pub into : Tree
  pub before : List Statement

-- what a part of the work gives, with the folds that it made, in order; for each search of a tree for a name, in order, how many nodes
-- the tree had (read by the laws on looks alone, Searches.antt); and the looks of all searches
pub record Traced (A : Type 0) : Type 0 where
  pub result : A
  pub trace : List Fold
  pub searched_nodes : List ℕ
  pub looks : ℕ

unfoldable pub pure : {A : Type 0} → A → Traced A
pure a = record { result = a; trace = []; searched_nodes = []; looks = 0 }

-- one part, and then another
infixl 20 ◌>>=◌
unfoldable pub ◌>>=◌ : {A B : Type 0} → Traced A → (A → Traced B) → Traced B
w >>= f =
    let v = f w.result in
    record { result = v.result; trace = w.trace ++ v.trace; searched_nodes = w.searched_nodes ++ v.searched_nodes; looks = w.looks + v.looks }

-- a part behind a search of this tree, with so many looks
unfoldable pub looked : {A : Type 0} → Tree → ℕ → Traced A → Traced A
looked target looks w = record { result = w.result; trace = w.trace; searched_nodes = size target ∷ w.searched_nodes; looks = looks + w.looks }

-- a part behind a fold
unfoldable pub folded : {A : Type 0} → Fold → Traced A → Traced A
folded fold w = record { result = w.result; trace = fold ∷ w.trace; searched_nodes = w.searched_nodes; looks = w.looks }
