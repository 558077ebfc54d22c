-- The names of declarators that are kept, as a list.
use Rattle.std.specs.Prelude.{ℕ, zero, suc, ◌+◌, ◌*◌, List, [], ◌∷◌}
use Rattle.records.specs.Record.{declarator_at}

-- the names of so many declarators from number `low` on, the last first
unfoldable pub names_from : List ℕ → ℕ → ℕ → List ℕ
names_from records low zero = []
names_from records low (suc n) = (declarator_at records (4 * (low + n))).name ∷ names_from records low n
