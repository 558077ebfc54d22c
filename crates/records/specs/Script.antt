-- Rows 6 and 9 of the refusal table: declarators and statements by themselves, and names declared twice.
use Rattle.std.specs.Prelude.{ℕ, ◌+◌, Bool, false, ◌&&◌, ◌||◌, not, List, [], ◌∷◌, length, get_or, eqb, ltb, leb}
use Rattle.records.specs.Limits.{no_number}
use Rattle.records.specs.Flags.{unresolved}
use Rattle.records.specs.Records.{every}
use Rattle.records.specs.declared.layout.NameFacts.{NameFacts}
use Rattle.records.specs.declared.layout.DeclaratorRecord.{DeclaratorRecord}
use Rattle.records.specs.declared.layout.StatementRecord.{StatementRecord}

-- the facts of no name
abbrev pub no_name : NameFacts
no_name = record { flags = 0; scope = 0; reads = 0; writes = 0 }

-- the flags of a name; 0 if there is no such name
unfoldable pub flags_of : List NameFacts → ℕ → ℕ
flags_of names name = (get_or names name no_name).flags

-- Declarator: a pattern or a name below N, and none that is unresolved; "initializer present u16 (0, 1)". The flags are
-- those of the name, among so many names.
unfoldable pub good_declarator_of : ℕ → ℕ → DeclaratorRecord → Bool
good_declarator_of names nameFlags d =
    leb d.present 1 && (eqb d.name no_number || ltb d.name names && not (unresolved nameFlags))

unfoldable pub good_declarator : List NameFacts → DeclaratorRecord → Bool
good_declarator names d = good_declarator_of (length names) (flags_of names d.name) d

-- Statement: kind 0 to 6, "zero u8, declarators u16 (0 for 5, 6)".
unfoldable pub good_statement : StatementRecord → Bool
good_statement s = leb s.kind 6 && eqb s.zero 0 && (ltb s.kind 5 || eqb s.declarators 0)

-- the sum of the statements' declarators
unfoldable pub declarator_sum : List StatementRecord → ℕ
declarator_sum [] = 0
declarator_sum (s ∷ ss) = s.declarators + declarator_sum ss

-- 6: "bad declarator or statement, an unresolved declared name, or counts not summing to D"
unfoldable pub bad_statements : List NameFacts → List DeclaratorRecord → List StatementRecord → Bool
bad_statements names ds ss = not (every (good_declarator names) ds && every good_statement ss && eqb (declarator_sum ss) (length ds))

-- whether a name is declared
unfoldable pub declares : ℕ → List DeclaratorRecord → Bool
declares name [] = false
declares name (d ∷ ds) = eqb d.name name || declares name ds

-- 9: "a name declared twice"; a pattern declares no name
unfoldable pub declared_twice : List DeclaratorRecord → Bool
declared_twice [] = false
declared_twice (d ∷ ds) = not (eqb d.name no_number) && declares d.name ds || declared_twice ds
