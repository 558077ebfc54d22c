-- Row 5 of the refusal table: name facts, scopes, frames.
use Rattle.std.specs.Prelude.{ℕ, ◌%◌, Bool, ◌&&◌, ◌||◌, not, List, length, eqb, ltb}
use Rattle.records.specs.Limits.{no_number}
use Rattle.records.specs.Flags.{recorded, unresolved, is_eval}
use Rattle.records.specs.Records.{every, every_from}
use Rattle.records.specs.declared.layout.NameFacts.{NameFacts}
use Rattle.records.specs.declared.layout.Scope.{Scope}
use Rattle.records.specs.declared.layout.Frame.{Frame}

-- no scope: what stands past the last one, with no parent and not a function's
abbrev pub no_scope : Scope
no_scope = record { parent = no_number; flags = 0 }

abbrev pub no_counts : NameFacts → Bool
no_counts n = eqb n.reads 0 && eqb n.writes 0

-- "Unresolved: bits 0 to 6 clear, scope 65535, counts 0."
abbrev pub good_unresolved : NameFacts → Bool
good_unresolved n = eqb (n.flags % 128) 0 && eqb n.scope no_number && no_counts n

-- A resolved name: bit 8 only with 7, scope below S; "Without bit 4, counts are 0."
abbrev pub good_resolved : ℕ → NameFacts → Bool
good_resolved scopes n = not (is_eval n.flags) && ltb n.scope scopes && (recorded n.flags || no_counts n)

-- Name facts: the bits not named are zero, and the rules of a name with bit 7 or without it.
unfoldable pub good_name : ℕ → NameFacts → Bool
good_name scopes n =
    ltb n.flags 512
    && (unresolved n.flags && good_unresolved n || not (unresolved n.flags) && good_resolved scopes n)

-- Scope i: "parent u16 (65535 for scope 0, else below its own number)", flag bits 0 and 1.
unfoldable pub good_scope : ℕ → Scope → Bool
good_scope i s = ltb s.flags 4 && (eqb i 0 && eqb s.parent no_number || not (eqb i 0) && ltb s.parent i)

-- Frame: "scope u16 (below S), zero u16".
unfoldable pub good_frame : ℕ → Frame → Bool
good_frame scopes f = ltb f.scope scopes && eqb f.zero 0

-- 5: "bad name fact, scope or frame"
unfoldable pub bad_facts : List NameFacts → List Scope → List Frame → Bool
bad_facts names scopes frames =
    not (every (good_name (length scopes)) names && every_from good_scope 0 scopes && every (good_frame (length scopes)) frames)
