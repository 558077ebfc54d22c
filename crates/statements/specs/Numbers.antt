-- The numbers that the statements had in the file, in a list.
use Rattle.std.specs.Prelude.{ℕ, List, [], ◌∷◌, ◌≡◌, length, get_or}
use Rattle.statements_rules.specs.Statements.{Kept}

-- those of statements that are kept, the last first
unfoldable pub Numbered : List ℕ → List Kept → Type 0
Numbered kept [] = Unit {0}
Numbered kept (k ∷ ks) = (get_or kept (length ks) 0 ≡ k.number) × Numbered kept ks
