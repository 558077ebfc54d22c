-- Names whose value may change before a read of them that is moved (src/peephole/mod.rs 194-246, 292-305): "A name is unsettled
-- if it is unresolved, an import, of scope 0 in a script, written (writes above 0; without bit 4, bit 6), or block scoped and
-- read across a function scope."
use Rattle.std.specs.Prelude.{ℕ, zero, suc, Bool, false, cond, ◌&&◌, ◌||◌, List, length, get_or, eqb, ltb}
use Rattle.records.specs.Limits.{no_number}
use Rattle.records.specs.Flags.{bit, recorded, mutated, unresolved}
use Rattle.records.specs.declared.layout.NameFacts.{NameFacts}
use Rattle.records.specs.declared.layout.Scope.{Scope}
use Rattle.walk_rules.specs.Context.{Context, is_script, facts_of}

-- name facts: bits 0 block scoped, 1 import
abbrev pub is_block_scoped : ℕ → Bool
is_block_scoped flags = bit 1 flags

abbrev pub is_import : ℕ → Bool
is_import flags = bit 2 flags

-- scope flags: bit 0 function
abbrev pub is_function : ℕ → Bool
is_function flags = bit 1 flags

-- a scope; behind the outermost one, whose parent is 65535, none is a function's
unfoldable pub scope_of : List Scope → ℕ → Scope
scope_of scopes scope = get_or scopes scope (record { parent = no_number; flags = 0 })

-- "The climb starts at the current scope, itself included, and leaves at the first function scope or at the name's scope,
-- which isn't counted." Every scope's parent is below its own number, so there are no more steps than scopes.
unfoldable pub climb : ℕ → List Scope → ℕ → ℕ → Bool
climb zero scopes scope stopScope = false
climb (suc steps) scopes scope stopScope =
    cond (eqb scope stopScope) false
    (is_function (scope_of scopes scope).flags || climb steps scopes (scope_of scopes scope).parent stopScope)

-- `read_crosses_function_boundary`
unfoldable pub read_crosses_function_boundary : List Scope → ℕ → ℕ → Bool
read_crosses_function_boundary scopes readScope stopScope = climb (length scopes) scopes readScope stopScope

-- `is_closed_over_block_scoped_read`: "block scoped and read across a function scope"
unfoldable pub is_closed_over_block_scoped_read : Context → NameFacts → Bool
is_closed_over_block_scoped_read ctx n =
    is_block_scoped n.flags && read_crosses_function_boundary ctx.scopes ctx.current_scope n.scope

-- "written (writes above 0; without bit 4, bit 6)"
unfoldable pub is_written : NameFacts → Bool
is_written n = cond (recorded n.flags) (ltb 0 n.writes) (mutated n.flags)

-- `symbol_value_may_change`: "an import, of scope 0 in a script, written"
unfoldable pub symbol_value_may_change : Context → NameFacts → Bool
symbol_value_may_change ctx n =
    is_import n.flags
    || is_script ctx && eqb n.scope 0
    || is_written n

-- `identifier_read_blocks_reorder`
unfoldable pub unsettled : Context → ℕ → Bool
unsettled ctx name =
    unresolved (facts_of ctx name).flags
    || symbol_value_may_change ctx (facts_of ctx name)
    || is_closed_over_block_scoped_read ctx (facts_of ctx name)
