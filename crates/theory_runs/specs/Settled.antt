-- Settled names, and where `this` blocks, as the rules of the search have them.
use Rattle.std.specs.Prelude.{ℕ, Bool, ◌&&◌, not, length, ltb}
use Rattle.records.specs.Flags.{bit}
use Rattle.records.specs.File.{File}
use Rattle.records.specs.declared.layout.NameFacts.{NameFacts}
use Rattle.walk_rules.specs.Context.{context_of, facts_of as factsIn}
use Rattle.walk_rules.specs.Unsettled.{unsettled, read_crosses_function_boundary}
use Rattle.walk_rules.specs.This.{this_blocks as thisBlocksAt}

-- the facts of a name
abbrev pub facts_of : File → ℕ → NameFacts
facts_of f a = factsIn (context_of f) a

-- name flags: bit 3 var
abbrev pub is_var : ℕ → Bool
is_var flags = bit 8 flags

-- "read across a function scope", of a name of this scope
abbrev pub crosses : File → ℕ → Bool
crosses f own = read_crosses_function_boundary f.scopes f.current_scope own

-- a name of the file that isn't unsettled: "A name is unsettled if it is unresolved, an import, of scope 0 in a script,
-- written .., or block scoped and read across a function scope."
unfoldable pub settled : File → ℕ → Bool
settled f a = ltb a (length f.names) && not (unsettled (context_of f) a)

-- whether `this` blocks at a position: "`this` blocks if a `this` scope is given and either no frame has it, or no frame from
-- the last such one onward was initialised at or before the node's position."
abbrev pub this_blocks : File → ℕ → Bool
this_blocks f position = thisBlocksAt f.this_scope f.frames position
