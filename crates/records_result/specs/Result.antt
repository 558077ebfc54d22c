-- A file laid down at the start of the output: its facts from another file, its statements from tables.
use Rattle.std.specs.Prelude.{ℕ, ◌*◌, ◌≤◌, List, ◌++◌, ◌≡◌, length, drop}
use Rattle.records.specs.Record.{declarator_bytes, statement_bytes}
use Rattle.records.specs.Records.{bytes_of}
use Rattle.records.specs.Tree.{sizes}
use Rattle.records.specs.File.{File, Statement, read, print, all_trees, all_declarators, declarator_records, statement_records}
use Rattle.records_table.specs.Laid.{laids}
use Rattle.records_result.specs.declared.header.Counts.{Counts}

-- The tables have as many records as are counted: 16 bytes to a node, 4 to a declarator or a statement.
abbrev pub Hold : List ℕ → List ℕ → List ℕ → Counts → Type 0
Hold nodes declarators statements counts =
    (16 * counts.nodes ≤ length nodes) × (4 * counts.declarators ≤ length declarators) × (4 * counts.statements ≤ length statements)

-- "Facts, scopes, frames and options are copied to the result."
pub record SameFacts (f g : File) : Type 0 where
  pub options : f.options ≡ g.options
  pub current_scope : f.current_scope ≡ g.current_scope
  pub this_scope : f.this_scope ≡ g.this_scope
  pub names : f.names ≡ g.names
  pub scopes : f.scopes ≡ g.scopes
  pub frames : f.frames ≡ g.frames

-- Statements stand in the tables, each table's records before other bytes.
pub record Stated (ss : List Statement) (nodes declarators statements : List ℕ) (counts : Counts) (rest₁ rest₂ rest₃ : List ℕ) : Type 0 where
  pub trees : nodes ≡ laids (all_trees ss) rest₁
  pub declared : declarators ≡ bytes_of declarator_bytes (declarator_records (all_declarators ss)) ++ rest₂
  pub stated : statements ≡ bytes_of statement_bytes (statement_records ss) ++ rest₃
  pub used : counts.nodes ≡ sizes (all_trees ss)
  pub many : counts.declarators ≡ length (all_declarators ss)
  pub listed : counts.statements ≡ length ss

-- The file of those facts and those statements stands at the start of the output, which is as it was behind it.
abbrev pub PutsResult : List ℕ → List ℕ → List ℕ → List ℕ → Counts → List ℕ → List ℕ → Type 0
PutsResult file nodes declarators statements counts out out' =
    (f : File) (rest₁ rest₂ rest₃ : List ℕ) → SameFacts f (read file) → Stated f.statements nodes declarators statements counts rest₁ rest₂ rest₃
    → out' ≡ print f ++ drop (length (print f)) out
