-- The names that records name, and arrays that hold a number for each name.
use Rattle.std.specs.Prelude.{ℕ, ◌+◌, ◌<◌, ◌≡◌, Bool, cond, ◌&&◌, ◌||◌, List, [], ◌∷◌, length, get_or, eqb, ltb}
use Rattle.records.specs.Limits.{max_names, no_number}
use Rattle.records.specs.Flags.{compound}
use Rattle.records.specs.File.{one}
use Rattle.records.specs.Tree.{node_of}
use Rattle.records.specs.Count.{target_name}
use Rattle.records.specs.declared.layout.NodeRecord.{NodeRecord}
use Rattle.records.specs.declared.layout.DeclaratorRecord.{DeclaratorRecord}

-- the name that the first of some records has as a target, else 65535
unfoldable pub head_target : List NodeRecord → ℕ
head_target [] = no_number
head_target (r ∷ rs) = target_name (node_of r)

-- the name that a record reads, where the target of the next record is known
unfoldable pub record_read : NodeRecord → ℕ → ℕ
record_read r next =
    cond (eqb r.kind 4) r.label
    (cond (eqb r.kind 20 && compound r.flags) (cond (eqb r.children 0) no_number next) no_number)

-- an array that holds f k for each k
abbrev pub Tally : (ℕ → ℕ) → List ℕ → Type 0
Tally f xs = (k : ℕ) → k < length xs → get_or xs k 0 ≡ f k

-- an array after one use more of a name, if the name has a place in it
abbrev pub AddsUse : ℕ → List ℕ → List ℕ → Type 0
AddsUse name xs xs' = Tally (λ k. one (eqb name k) + get_or xs k 0) xs'

-- a declarator of no name, or of one that an array of names has a place for
unfoldable pub fits : DeclaratorRecord → Bool
fits d = eqb d.name no_number || ltb d.name max_names
