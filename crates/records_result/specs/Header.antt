-- The header of the result.
use Rattle.std.specs.Prelude.{ℕ, ◌+◌, ◌*◌}
use Rattle.records.specs.Limits.{node_length, declarator_length, statement_length}
use Rattle.records.specs.declared.layout.Header.{Header}
use Rattle.records_result.specs.declared.header.Counts.{Counts}

-- the length of the records that are counted
abbrev pub tables_length : Counts → ℕ
tables_length counts = node_length * counts.nodes + declarator_length * counts.declarators + statement_length * counts.statements

-- the file's header with other counts
abbrev pub result_header : Header → Counts → Header
result_header h counts = record {
  options = h.options;
  version = 1;
  names = h.names;
  scopes = h.scopes;
  frames = h.frames;
  nodes = counts.nodes;
  declarators = counts.declarators;
  statements = counts.statements;
  current_scope = h.current_scope;
  this_scope = h.this_scope;
  last = 0;
}
