-- The numbers that document 01 fixes, and what follows from them.
use Rattle.std.specs.Prelude.{ℕ, ◌+◌, ◌*◌}

-- N ≤ 256, 1 ≤ S ≤ 256, F ≤ 16, D ≤ 500, 1 ≤ T ≤ 500, M + 2D ≤ 3,000
abbrev pub max_names : ℕ
max_names = 256

abbrev pub min_scopes : ℕ
min_scopes = 1

abbrev pub max_scopes : ℕ
max_scopes = 256

abbrev pub max_frames : ℕ
max_frames = 16

abbrev pub max_declarators : ℕ
max_declarators = 500

abbrev pub min_statements : ℕ
min_statements = 1

abbrev pub max_statements : ℕ
max_statements = 500

abbrev pub max_nodes : ℕ
max_nodes = 3000

-- 65535: no `this` scope, no scope, no parent, a pattern
abbrev pub no_number : ℕ
no_number = 65535

-- 4294967295: `this` never initialised; no node has this position
abbrev pub no_position : ℕ
no_position = 4294967295

-- the lengths of the header and of the records
abbrev pub header_length : ℕ
header_length = 24

abbrev pub name_length : ℕ
name_length = 12

abbrev pub scope_length : ℕ
scope_length = 4

abbrev pub frame_length : ℕ
frame_length = 8

abbrev pub node_length : ℕ
node_length = 12

abbrev pub declarator_length : ℕ
declarator_length = 4

abbrev pub statement_length : ℕ
statement_length = 4

-- 42,248: no accepted file wants more room for its result, and none is longer. Every count is at its limit but the declarators',
-- which is 0 (one takes the place of two nodes).
abbrev pub max_room : ℕ
max_room =
    header_length + name_length * max_names + scope_length * max_scopes + frame_length * max_frames + node_length * max_nodes
    + statement_length * max_statements
