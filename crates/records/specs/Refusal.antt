-- The table of document 01's "Returned": a line to a row, tested in this order.
use Rattle.std.specs.Prelude.{ℕ, ◌+◌, ◌*◌, Bool, cond, List, length, ltb}
use Rattle.records.specs.Record.{header_of}
use Rattle.records.specs.Tree.{forest_of}
use Rattle.records.specs.File.{names_of, scopes_of, frames_of, nodes_of, declarators_of, statements_of}
use Rattle.records.specs.Header.{not_a_record_file, other_version, outside_limits, other_length}
use Rattle.records.specs.Facts.{bad_facts}
use Rattle.records.specs.Script.{bad_statements, declared_twice}
use Rattle.records.specs.Node.{bad_nodes}
use Rattle.records.specs.Place.{bad_trees}
use Rattle.records.specs.Count.{bad_counts}

-- 11: "output shorter than length + 8 × D"
unfoldable pub room_wanted : List ℕ → ℕ
room_wanted bs = length bs + 8 * (header_of bs).declarators

-- a row: its number if its test holds, else what the later rows give
abbrev pub row : ℕ → Bool → ℕ → ℕ
row number holds later = cond holds number later

-- The number that a file and a room for its result are refused with; 0 if they are accepted.
unfoldable pub refusal : List ℕ → ℕ → ℕ
refusal bs room =
    row 1 (not_a_record_file bs)
    (row 2 (other_version (header_of bs))
    (row 3 (outside_limits (header_of bs))
    (row 4 (other_length bs (header_of bs))
    (row 5 (bad_facts (names_of bs) (scopes_of bs) (frames_of bs))
    (row 6 (bad_statements (names_of bs) (declarators_of bs) (statements_of bs))
    (row 7 (bad_nodes (names_of bs) (nodes_of bs))
    (row 8 (bad_trees (declarators_of bs) (statements_of bs) (nodes_of bs))
    (row 9 (declared_twice (declarators_of bs))
    (row 10 (bad_counts (names_of bs) (forest_of (nodes_of bs)))
    (row 11 (ltb room (room_wanted bs))
    0))))))))))

-- The number that a file is refused with whatever the room, by rows 1 to 10: its refusal in the room that row 11 asks for.
unfoldable pub file_refusal : List ℕ → ℕ
file_refusal bs = refusal bs (room_wanted bs)
