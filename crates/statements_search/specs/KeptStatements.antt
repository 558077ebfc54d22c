-- Statements that are kept, the last first: their trees in the work table, one after the other, and their records.
use Rattle.std.specs.Prelude.{ℕ, ◌+◌, ◌*◌, Bool, true, ◌&&◌, List, [], ◌∷◌, reverse, ◌≡◌, length}
use Rattle.records.specs.Record.{statement_at}
use Rattle.records.specs.Tree.{Tree, size}
use Rattle.records.specs.File.{Statement, declaration, expression, other, declarators_in, statement_record}
use Rattle.records_table.specs.Laid.{laid}
use Rattle.walk_arms.specs.Search.{bare_names}
use Rattle.statements_rules.specs.Statements.{Kept}
use Rattle.statements_search.specs.Kept.{laid_declarators, nodes_in, bare_declarators, Held}

-- The tables that are lent: the nodes; the declarators and the places where their trees begin; the statements.
pub record Tables : Type 0 where
  pub nodes : List ℕ
  pub declarators : List ℕ
  pub starts : List ℕ
  pub statements : List ℕ

abbrev pub tables : List ℕ → List ℕ → List ℕ → List ℕ → Tables
tables nodes declarators starts statements =
    record { nodes = nodes; declarators = declarators; starts = starts; statements = statements }

-- the trees of a statement, before other bytes; its nodes; whether no name in it has children
unfoldable pub laid_statement : Statement → List ℕ → List ℕ
laid_statement (declaration kind ds) rest = laid_declarators (reverse ds) rest
laid_statement (expression t) rest = laid t rest
laid_statement other rest = rest

unfoldable pub nodes_of_statement : Statement → ℕ
nodes_of_statement (declaration kind ds) = nodes_in (reverse ds)
nodes_of_statement (expression t) = size t
nodes_of_statement other = 0

unfoldable pub bare_statement : Statement → Bool
bare_statement (declaration kind ds) = bare_declarators (reverse ds)
bare_statement (expression t) = bare_names t
bare_statement other = true

-- the same of statements
unfoldable pub laid_kept : List Kept → List ℕ → List ℕ
laid_kept [] rest = rest
laid_kept (k ∷ ks) rest = laid_kept ks (laid_statement k.statement rest)

unfoldable pub nodes_kept : List Kept → ℕ
nodes_kept [] = 0
nodes_kept (k ∷ ks) = nodes_kept ks + nodes_of_statement k.statement

unfoldable pub declarators_kept : List Kept → ℕ
declarators_kept [] = 0
declarators_kept (k ∷ ks) = declarators_kept ks + length (declarators_in k.statement)

unfoldable pub bare_kept : List Kept → Bool
bare_kept [] = true
bare_kept (k ∷ ks) = bare_statement k.statement && bare_kept ks

-- The records of the statements and of their declarators, and the node numbers at which the declarators' trees begin.
unfoldable pub HeldKept : List ℕ → List ℕ → List ℕ → List Kept → Type 0
HeldKept records starts statements [] = Unit {0}
HeldKept records starts statements (k ∷ ks) =
    (statement_at statements (4 * length ks) ≡ statement_record k.statement)
    × Held records starts (declarators_kept ks) (nodes_kept ks) (reverse (declarators_in k.statement))
    × HeldKept records starts statements ks

-- the counts of what is kept
pub record Counted (count many used : ℕ) (ks : List Kept) : Type 0 where
  pub statements : count ≡ length ks
  pub declarators : many ≡ declarators_kept ks
  pub nodes : used ≡ nodes_kept ks

-- The statements stand in the work table, before other bytes.
pub record Keeps (t : Tables) (count many used : ℕ) (ks : List Kept) (rest : List ℕ) : Type 0 where
  pub is : t.nodes ≡ laid_kept ks rest
  pub counted : Counted count many used ks
  pub held : HeldKept t.declarators t.starts t.statements ks
  pub names : bare_kept ks ≡ true

-- behind them stands a tree that is searched
pub record KeepsBefore (t : Tables) (count many start used : ℕ) (ks : List Kept) (target : Tree) (rest : List ℕ) : Type 0 where
  pub kept : Keeps t count many start ks (laid target rest)
  pub ends : used ≡ start + size target
  pub target-names : bare_names target ≡ true
