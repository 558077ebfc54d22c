-- A file, read from its bytes and printed to them.
use Rattle.std.specs.Prelude.{ℕ, ◌+◌, ◌*◌, Bool, cond, List, [], ◌∷◌, ◌++◌, ◌≡◌, length, take, drop, eqb}
use Rattle.records.specs.Limits.{header_length, name_length, scope_length, frame_length, node_length, declarator_length, statement_length}
use Rattle.records.specs.Records.{records_from, bytes_of}
use Rattle.records.specs.Record.{header_of, header_bytes, name_at, name_bytes, scope_at, scope_bytes, frame_at, frame_bytes, node_at, node_bytes, declarator_at, declarator_bytes, statement_at, statement_bytes}
use Rattle.records.specs.Tree.{Tree, Trees, node, none, more, sizes, others, preorders, forest_of}
use Rattle.records.specs.declared.layout.Header.{Header}
use Rattle.records.specs.declared.layout.NameFacts.{NameFacts}
use Rattle.records.specs.declared.layout.Scope.{Scope}
use Rattle.records.specs.declared.layout.Frame.{Frame}
use Rattle.records.specs.declared.layout.NodeRecord.{NodeRecord}
use Rattle.records.specs.declared.layout.DeclaratorRecord.{DeclaratorRecord}
use Rattle.records.specs.declared.layout.StatementRecord.{StatementRecord}

-- Where each part begins: "parts follow in the counts' order".
abbrev pub names_start : Header → ℕ
names_start h = header_length

abbrev pub scopes_start : Header → ℕ
scopes_start h = names_start h + name_length * h.names

abbrev pub frames_start : Header → ℕ
frames_start h = scopes_start h + scope_length * h.scopes

abbrev pub nodes_start : Header → ℕ
nodes_start h = frames_start h + frame_length * h.frames

abbrev pub declarators_start : Header → ℕ
declarators_start h = nodes_start h + node_length * h.nodes

abbrev pub statements_start : Header → ℕ
statements_start h = declarators_start h + declarator_length * h.declarators

abbrev pub file_length : Header → ℕ
file_length h = statements_start h + statement_length * h.statements

-- Bytes that are as long as their header says; and this header is theirs.
abbrev pub IsWhole : List ℕ → Type 0
IsWhole bs = length bs ≡ file_length (header_of bs)

abbrev pub IsHeaderOf : Header → List ℕ → Type 0
IsHeaderOf h bs = (h ≡ header_of bs) × (length bs ≡ file_length h)

-- So many records of some bytes, the first of which begins at `from`.
abbrev pub facts_from : List ℕ → ℕ → ℕ → List NameFacts
facts_from bs from count = records_from (name_at bs) name_length count from

abbrev pub scopes_from : List ℕ → ℕ → ℕ → List Scope
scopes_from bs from count = records_from (scope_at bs) scope_length count from

abbrev pub frames_from : List ℕ → ℕ → ℕ → List Frame
frames_from bs from count = records_from (frame_at bs) frame_length count from

abbrev pub nodes_from : List ℕ → ℕ → ℕ → List NodeRecord
nodes_from bs from count = records_from (node_at bs) node_length count from

abbrev pub declarators_from : List ℕ → ℕ → ℕ → List DeclaratorRecord
declarators_from bs from count = records_from (declarator_at bs) declarator_length count from

abbrev pub statements_from : List ℕ → ℕ → ℕ → List StatementRecord
statements_from bs from count = records_from (statement_at bs) statement_length count from

-- The records of each part of some bytes.
unfoldable pub names_of : List ℕ → List NameFacts
names_of bs = records_from (name_at bs) name_length (header_of bs).names (names_start (header_of bs))

unfoldable pub scopes_of : List ℕ → List Scope
scopes_of bs = records_from (scope_at bs) scope_length (header_of bs).scopes (scopes_start (header_of bs))

unfoldable pub frames_of : List ℕ → List Frame
frames_of bs = records_from (frame_at bs) frame_length (header_of bs).frames (frames_start (header_of bs))

unfoldable pub nodes_of : List ℕ → List NodeRecord
nodes_of bs = records_from (node_at bs) node_length (header_of bs).nodes (nodes_start (header_of bs))

unfoldable pub declarators_of : List ℕ → List DeclaratorRecord
declarators_of bs = records_from (declarator_at bs) declarator_length (header_of bs).declarators (declarators_start (header_of bs))

unfoldable pub statements_of : List ℕ → List StatementRecord
statements_of bs = records_from (statement_at bs) statement_length (header_of bs).statements (statements_start (header_of bs))

-- "0 var, 1 let, 2 const, 3 using, 4 await using"
pub data DeclarationKind : Type 0 where
  Var Let Const Using AwaitUsing : DeclarationKind

pub data Initializer : Type 0 where
  bare : Initializer
  given : Tree → Initializer

-- a declarator: its name (65535 pattern) and its initializer
pub record Declarator : Type 0 where
  pub name : ℕ
  pub initializer : Initializer

-- a statement: a declaration, an expression (5), or any other (6), which has no tree
pub data Statement : Type 0 where
  declaration : DeclarationKind → List Declarator → Statement
  expression : Tree → Statement
  other : Statement

pub record File : Type 0 where
  pub options : ℕ
  pub current_scope : ℕ
  pub this_scope : ℕ
  pub names : List NameFacts
  pub scopes : List Scope
  pub frames : List Frame
  pub statements : List Statement

-- 1 for a test that holds
abbrev pub one : Bool → ℕ
one b = cond b 1 0

-- the first tree of a forest; an empty one has none, and what stands here then is never used
unfoldable pub first_tree : Trees → Tree
first_tree none = node (record { kind = 0; flags = 0; label = 0; position = 0 }) none
first_tree (more t ts) = t

-- how many of the declarators have an initializer
unfoldable pub initializers : List DeclaratorRecord → ℕ
initializers [] = 0
initializers (d ∷ ds) = one (eqb d.present 1) + initializers ds

-- the declarators, with their initializers from a forest
unfoldable pub read_declarators : List DeclaratorRecord → Trees → List Declarator
read_declarators [] forest = []
read_declarators (d ∷ ds) forest =
    record { name = d.name; initializer = cond (eqb d.present 1) (given (first_tree forest)) bare }
    ∷ read_declarators ds (others (one (eqb d.present 1)) forest)

unfoldable pub declaration_kind : ℕ → DeclarationKind
declaration_kind k = cond (eqb k 0) Var (cond (eqb k 1) Let (cond (eqb k 2) Const (cond (eqb k 3) Using AwaitUsing)))

-- a statement, with its declarators and its trees in front
unfoldable pub read_statement : StatementRecord → List DeclaratorRecord → Trees → Statement
read_statement s ds forest =
    cond (eqb s.kind 5) (expression (first_tree forest))
    (cond (eqb s.kind 6) other (declaration (declaration_kind s.kind) (read_declarators (take s.declarators ds) forest)))

-- how many trees a statement has
unfoldable pub trees_of : StatementRecord → List DeclaratorRecord → ℕ
trees_of s ds = one (eqb s.kind 5) + initializers (take s.declarators ds)

-- "each statement's initializers or expression, in order"
unfoldable pub read_statements : List StatementRecord → List DeclaratorRecord → Trees → List Statement
read_statements [] ds forest = []
read_statements (s ∷ ss) ds forest =
    read_statement s ds forest ∷ read_statements ss (drop s.declarators ds) (others (trees_of s ds) forest)

unfoldable pub read : List ℕ → File
read bs = record {
  options = (header_of bs).options;
  current_scope = (header_of bs).current_scope;
  this_scope = (header_of bs).this_scope;
  names = names_of bs;
  scopes = scopes_of bs;
  frames = frames_of bs;
  statements = read_statements (statements_of bs) (declarators_of bs) (forest_of (nodes_of bs));
}

-- The records of statements.
unfoldable pub is_given : Initializer → ℕ
is_given bare = 0
is_given (given t) = 1

unfoldable pub declarator_records : List Declarator → List DeclaratorRecord
declarator_records [] = []
declarator_records (d ∷ ds) = record { name = d.name; present = is_given d.initializer } ∷ declarator_records ds

unfoldable pub kind_number : DeclarationKind → ℕ
kind_number Var = 0
kind_number Let = 1
kind_number Const = 2
kind_number Using = 3
kind_number AwaitUsing = 4

unfoldable pub declarators_in : Statement → List Declarator
declarators_in (declaration k ds) = ds
declarators_in (expression t) = []
declarators_in other = []

unfoldable pub statement_number : Statement → ℕ
statement_number (declaration k ds) = kind_number k
statement_number (expression t) = 5
statement_number other = 6

unfoldable pub statement_record : Statement → StatementRecord
statement_record s = record { kind = statement_number s; zero = 0; declarators = length (declarators_in s) }

unfoldable pub statement_records : List Statement → List StatementRecord
statement_records [] = []
statement_records (s ∷ ss) = statement_record s ∷ statement_records ss

unfoldable pub all_declarators : List Statement → List Declarator
all_declarators [] = []
all_declarators (s ∷ ss) = declarators_in s ++ all_declarators ss

-- the trees of an initializer, of declarators, of a statement, before others
unfoldable pub initializer_tree : Initializer → Trees → Trees
initializer_tree bare rest = rest
initializer_tree (given t) rest = more t rest

unfoldable pub initializer_trees : List Declarator → Trees → Trees
initializer_trees [] rest = rest
initializer_trees (d ∷ ds) rest = initializer_tree d.initializer (initializer_trees ds rest)

unfoldable pub statement_trees : Statement → Trees → Trees
statement_trees (declaration k ds) rest = initializer_trees ds rest
statement_trees (expression t) rest = more t rest
statement_trees other rest = rest

-- the trees of all statements, in order
unfoldable pub all_trees : List Statement → Trees
all_trees [] = none
all_trees (s ∷ ss) = statement_trees s (all_trees ss)

-- the header that says what the file has
unfoldable pub header_for : File → Header
header_for f = record {
  options = f.options;
  version = 1;
  names = length f.names;
  scopes = length f.scopes;
  frames = length f.frames;
  nodes = sizes (all_trees f.statements);
  declarators = length (all_declarators f.statements);
  statements = length f.statements;
  current_scope = f.current_scope;
  this_scope = f.this_scope;
  last = 0;
}

unfoldable pub print : File → List ℕ
print f =
    header_bytes (header_for f)
    ++ (bytes_of name_bytes f.names
    ++ (bytes_of scope_bytes f.scopes
    ++ (bytes_of frame_bytes f.frames
    ++ (bytes_of node_bytes (preorders (all_trees f.statements) [])
    ++ (bytes_of declarator_bytes (declarator_records (all_declarators f.statements))
    ++ bytes_of statement_bytes (statement_records f.statements))))))
