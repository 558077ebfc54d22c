-- Declarators that are kept, the last first: their trees in the work table, one after the other, and their records.
use Rattle.std.specs.Prelude.{ℕ, ◌+◌, ◌*◌, Bool, true, ◌&&◌, List, [], ◌∷◌, map, ◌≡◌, length, get_or}
use Rattle.records.specs.Record.{declarator_at}
use Rattle.records.specs.Tree.{size}
use Rattle.records.specs.File.{Initializer, bare, given, is_given, Declarator}
use Rattle.records_table.specs.Laid.{laid}
use Rattle.walk_arms.specs.Search.{bare_names}
use Rattle.statements_rules.specs.Trace.{Fold}

-- the tree of an initializer, before other bytes; its nodes; whether no name in it has children
unfoldable pub laid_initializer : Initializer → List ℕ → List ℕ
laid_initializer bare rest = rest
laid_initializer (given t) rest = laid t rest

unfoldable pub node_count : Initializer → ℕ
node_count bare = 0
node_count (given t) = size t

unfoldable pub bare_initializer : Initializer → Bool
bare_initializer bare = true
bare_initializer (given t) = bare_names t

-- the same of declarators
unfoldable pub laid_declarators : List Declarator → List ℕ → List ℕ
laid_declarators [] rest = rest
laid_declarators (d ∷ ds) rest = laid_declarators ds (laid_initializer d.initializer rest)

unfoldable pub nodes_in : List Declarator → ℕ
nodes_in [] = 0
nodes_in (d ∷ ds) = nodes_in ds + node_count d.initializer

unfoldable pub bare_declarators : List Declarator → Bool
bare_declarators [] = true
bare_declarators (d ∷ ds) = bare_initializer d.initializer && bare_declarators ds

-- The records of the declarators, the first of which is number `low`, and the node numbers at which their trees begin, where
-- the first tree begins at `at`.
unfoldable pub Held : List ℕ → List ℕ → ℕ → ℕ → List Declarator → Type 0
Held records starts low at [] = Unit {0}
Held records starts low at (d ∷ ds) =
    (declarator_at records (4 * (low + length ds)) ≡ record { name = d.name; present = is_given d.initializer })
    × (get_or starts (low + length ds) 0 ≡ at + nodes_in ds)
    × Held records starts low at ds

-- the names that folds took
abbrev pub folded_names : List Fold → List ℕ
folded_names trace = map (λ f. f.name) trace

-- No accepted file comes to so many nodes and declarators: it bounds the looks of a search.
abbrev pub most_in_use : ℕ
most_in_use = 65536
