-- Rows 1 to 4 of the refusal table: letters, version, limits, length.
use Rattle.std.specs.Prelude.{ℕ, ◌+◌, ◌*◌, Bool, ◌&&◌, ◌||◌, not, List, length, get_or, eqb, ltb, leb}
use Rattle.records.specs.Limits.{max_names, min_scopes, max_scopes, max_frames, max_declarators, min_statements, max_statements, max_nodes, no_number, header_length}
use Rattle.records.specs.File.{file_length}
use Rattle.records.specs.declared.layout.Header.{Header}

-- 1: "under 24 bytes, or not `WSF`"
unfoldable pub not_a_record_file : List ℕ → Bool
not_a_record_file bs = ltb (length bs) header_length || not (eqb (get_or bs 0 0) 87 && eqb (get_or bs 1 0) 83 && eqb (get_or bs 2 0) 70)

-- 2: "version not 1"
unfoldable pub other_version : Header → Bool
other_version h = not (eqb h.version 1)

-- 3: every count within its limits
abbrev pub counts_fit : Header → Bool
counts_fit h =
    leb h.names max_names
    && leb min_scopes h.scopes
    && leb h.scopes max_scopes
    && leb h.frames max_frames
    && leb h.declarators max_declarators
    && leb min_statements h.statements
    && leb h.statements max_statements
    && leb (h.nodes + 2 * h.declarators) max_nodes

-- options bits 0 to 3 are named
abbrev pub options_known : Header → Bool
options_known h = ltb h.options 16

-- the current scope is below S, and so is the `this` scope, unless there is none
abbrev pub header_scopes : Header → Bool
header_scopes h = ltb h.current_scope h.scopes && (ltb h.this_scope h.scopes || eqb h.this_scope no_number)

-- 3: "a count outside its limits, an unknown option, a header scope not below S (65535 excepted for `this`), the last
-- u16 not zero"
unfoldable pub outside_limits : Header → Bool
outside_limits h = not (counts_fit h && options_known h && header_scopes h && eqb h.last 0)

-- 4: "length not as the counts say"
unfoldable pub other_length : List ℕ → Header → Bool
other_length bs h = not (eqb (length bs) (file_length h))
