-- What the tables hold while the statements of a file are taken, and what is still to come.
use Rattle.std.specs.Prelude.{ℕ, ◌+◌, ◌*◌, ◌≤◌, true, List, [], ◌≡◌, length}
use Rattle.records.specs.Record.{declarator_at}
use Rattle.records.specs.Records.{records_from}
use Rattle.records.specs.Tree.{Trees, sizes}
use Rattle.records.specs.File.{Initializer, Declarator, nodes_start, declarators_start}
use Rattle.records.specs.declared.layout.Header.{Header}
use Rattle.records.specs.declared.layout.NodeRecord.{NodeRecord}
use Rattle.records.specs.declared.layout.DeclaratorRecord.{DeclaratorRecord}
use Rattle.walk_arms.specs.Search.{all_bare_names}
use Rattle.statements_rules.specs.Statements.{Kept}
use Rattle.statements_search.specs.Kept.{laid_initializer, node_count, bare_initializer, laid_declarators, nodes_in, bare_declarators, Held, most_in_use}
use Rattle.statements_search.specs.KeptStatements.{Tables, tables, laid_kept, nodes_kept, declarators_kept, bare_kept, HeldKept}
use Rattle.records_table.specs.Loads.{FileForest}
use Rattle.statements_progress.specs.declared.progress.Progress.{Progress}
use Rattle.statements.specs.declared.tables.Tables.{Tables as LentTables}

-- what the lent tables hold
abbrev pub tables_of : LentTables → Tables
tables_of t = tables t.nodes.now t.declarators.now t.starts.now t.statements.now

-- the same slices are lent still, and are as long as they were
pub record SameSlices (t t' : LentTables) : Type 0 where
  pub nodes : t'.nodes.ghost_name ≡ t.nodes.ghost_name
  pub declarators : t'.declarators.ghost_name ≡ t.declarators.ghost_name
  pub starts : t'.starts.ghost_name ≡ t.starts.ghost_name
  pub statements : t'.statements.ghost_name ≡ t.statements.ghost_name
  pub nodes-length : length t'.nodes.now ≡ length t.nodes.now
  pub declarators-length : length t'.declarators.now ≡ length t.declarators.now
  pub starts-length : length t'.starts.now ≡ length t.starts.now
  pub statements-length : length t'.statements.now ≡ length t.statements.now

-- the tables that the search within a declaration uses; and with the statements beside them
pub record DeclaratorTables : Type 0 where
  pub nodes : List ℕ
  pub declarators : List ℕ
  pub starts : List ℕ

abbrev pub declarator_tables : List ℕ → List ℕ → List ℕ → DeclaratorTables
declarator_tables nodes declarators starts = record { nodes = nodes; declarators = declarators; starts = starts }

abbrev pub declarator_tables_of : LentTables → DeclaratorTables
declarator_tables_of t = declarator_tables t.nodes.now t.declarators.now t.starts.now

abbrev pub with_statement_table : DeclaratorTables → List ℕ → Tables
with_statement_table t statements = tables t.nodes t.declarators t.starts statements

-- the nodes that a fold of the file may need
abbrev pub most_nodes : Header → ℕ
most_nodes h = h.nodes + 2 * h.declarators

-- room for what the file has, in the tables and in the list of folded names
abbrev pub Long : Header → Tables → List ℕ → Type 0
Long h t folded =
    (16 * most_nodes h ≤ length t.nodes) × (4 * h.declarators ≤ length t.declarators)
    × (h.declarators ≤ length t.starts)
    × (4 * h.statements ≤ length t.statements)
    × (h.declarators ≤ length folded)

-- the same of those that a declaration uses
abbrev pub LongWithin : Header → DeclaratorTables → List ℕ → Type 0
LongWithin h t folded =
    (16 * most_nodes h ≤ length t.nodes) × (4 * h.declarators ≤ length t.declarators)
    × (h.declarators ≤ length t.starts)
    × (h.declarators ≤ length folded)

-- What the tables hold: statements that are kept, the last first; behind them the declarators of the declaration under way, the
-- last first, the first of which has number `low`; the tree of one more, if it has one; and other bytes.
pub record Holding : Type 0 where
  pub low : ℕ
  pub kept : List Kept
  pub declarators : List Declarator
  pub initializer : Initializer
  pub rest : List ℕ

abbrev pub holding : ℕ → List Kept → List Declarator → Initializer → List ℕ → Holding
holding low ks ds i rest = record { low = low; kept = ks; declarators = ds; initializer = i; rest = rest }

-- what is still to come: trees, declarators, so many statements; and the nodes of the file before these trees
pub record Following : Type 0 where
  pub trees : Trees
  pub declarators : List DeclaratorRecord
  pub statements : ℕ
  pub before : List NodeRecord

abbrev pub following : Trees → List DeclaratorRecord → ℕ → List NodeRecord → Following
following ts ds left before = record { trees = ts; declarators = ds; statements = left; before = before }

pub record Holds (t : Tables) (p : Progress) (g : Holding) : Type 0 where
  pub is : t.nodes ≡ laid_kept g.kept (laid_declarators g.declarators (laid_initializer g.initializer g.rest))
  pub stated : p.statements_kept ≡ length g.kept
  pub declared : g.low ≡ declarators_kept g.kept
  pub counted : p.declarators_kept ≡ g.low + length g.declarators
  pub starting : p.tree.0 ≡ nodes_kept g.kept + nodes_in g.declarators
  pub ends : p.nodes_used ≡ p.tree.0 + node_count g.initializer
  pub kept : HeldKept t.declarators t.starts t.statements g.kept
  pub held : Held t.declarators t.starts g.low (nodes_kept g.kept) g.declarators
  pub names : bare_kept g.kept ≡ true
  pub own-names : bare_declarators g.declarators ≡ true
  pub tree-names : bare_initializer g.initializer ≡ true

-- Records of four bytes that stand in a file, from number `number` on, where the first of all begins at byte `from`.
pub record StandingRecords {A : Type 0} (readAt : List ℕ → ℕ → A) (file : List ℕ) (from number : ℕ) (xs : List A) : Type 0 where
  pub is : records_from (readAt file) 4 (length xs) (from + 4 * number) ≡ xs
  pub inside : from + 4 * number + 4 * length xs ≤ length file

-- the trees and the declarators of the file that are still to come
pub record Coming (file : List ℕ) (h : Header) (p : Progress) (ts : Trees) (ds : List DeclaratorRecord)
    (before : List NodeRecord) : Type 0 where
  pub trees : FileForest file (nodes_start h) p.nodes_read ts h.nodes before []
  pub records : StandingRecords declarator_at file (declarators_start h) p.declarators_read ds
  pub few : p.declarators_read + length ds ≤ 65535
  pub names : all_bare_names ts ≡ true

-- more looks than one search makes, by the law that there are `most_in_use` at most for each declarator
abbrev pub most_looks : ℕ
most_looks = most_in_use * most_in_use

-- They and what is kept are no more than the file has: a fold takes a declarator and adds at most one node. Each tree that was
-- read is searched once.
pub record Room (h : Header) (p : Progress) (nodes declarators statements : ℕ) : Type 0 where
  pub weight : p.nodes_used + p.declarators_kept + nodes + declarators ≤ most_nodes h
  pub declared : p.folds + p.declarators_kept + declarators ≤ h.declarators
  pub stated : p.statements_kept + statements ≤ h.statements
  pub looked : p.looks + most_looks * nodes ≤ most_looks * h.nodes
  pub few : most_nodes h ≤ most_in_use

-- The state between two trees of the file.
pub record State (file : List ℕ) (h : Header) (t : Tables) (p : Progress) (g : Holding) (n : Following) : Type 0 where
  pub holds : Holds t p g
  pub comes : Coming file h p n.trees n.declarators n.before
  pub room : Room h p (sizes n.trees) (length n.declarators) n.statements
