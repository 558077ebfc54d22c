-- The bits that document 01 names, each as a test of a record's flags.
use Rattle.std.specs.Prelude.{ℕ, ◌/◌, ◌%◌, Bool, eqb}

-- the bit worth w is set
abbrev pub bit : ℕ → ℕ → Bool
bit w flags = eqb (flags / w % 2) 1

-- Name facts: 4 value record present, 6 mutated, 7 unresolved, 8 the name `eval`. The refusal table reads no other; 0 block
-- scoped and 1 import are in `walk_rules`, 2 catch and 5 implicitly observable in `statements_rules`, 3 var in `theory_runs`.
abbrev pub recorded : ℕ → Bool
recorded flags = bit 16 flags

abbrev pub mutated : ℕ → Bool
mutated flags = bit 64 flags

abbrev pub unresolved : ℕ → Bool
unresolved flags = bit 128 flags

abbrev pub is_eval : ℕ → Bool
is_eval flags = bit 256 flags

-- Nodes: 0 effect mark, 1 optional, 2 anonymous, 3 compound, 4 shorthand, 5 computed, 6 key `__proto__`.
abbrev pub marked : ℕ → Bool
marked flags = bit 1 flags

abbrev pub optional : ℕ → Bool
optional flags = bit 2 flags

abbrev pub anonymous : ℕ → Bool
anonymous flags = bit 4 flags

abbrev pub compound : ℕ → Bool
compound flags = bit 8 flags

abbrev pub shorthand : ℕ → Bool
shorthand flags = bit 16 flags

abbrev pub computed : ℕ → Bool
computed flags = bit 32 flags

abbrev pub proto : ℕ → Bool
proto flags = bit 64 flags
