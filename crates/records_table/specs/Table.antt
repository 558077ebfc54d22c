-- The work table: 16 bytes to a node, its record and an end, which is unknown.
use Rattle.std.specs.Prelude.{ℕ, List, ◌++◌}
use Rattle.records.specs.Bytes.{u32_bytes}
use Rattle.records.specs.Limits.{no_position}
use Rattle.records.specs.Record.{node_bytes}
use Rattle.records.specs.declared.layout.NodeRecord.{NodeRecord}

-- 4294967295: no end is known
abbrev pub unknown_end : ℕ
unknown_end = no_position

-- the length of a record of the table
abbrev pub work_length : ℕ
work_length = 16

-- a record of the table
unfoldable pub work_bytes : NodeRecord → List ℕ
work_bytes n = node_bytes n ++ u32_bytes unknown_end
