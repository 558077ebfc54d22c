-- Moves and writes of bytes, by the parts of the list that they leave alone.
use Rattle.std.specs.Prelude.{ℕ, ◌+◌, List, ◌++◌, ◌≡◌, length}
use Rattle.records.specs.declared.layout.NodeRecord.{NodeRecord}
use Rattle.records_table.specs.Table.{work_bytes}

-- The block from a to b and the block from b to c change places.
abbrev pub Exchanges : List ℕ → List ℕ → ℕ → ℕ → ℕ → Type 0
Exchanges bs bs' a b c =
    (p x y s : List ℕ) → bs ≡ p ++ (x ++ (y ++ s)) → length p ≡ a → a + length x ≡ b → b + length y ≡ c
    → bs' ≡ p ++ (y ++ (x ++ s))

-- the records before a tag that is kept indirect: a sequence of two children, and a literal
abbrev pub sequence_record : ℕ → NodeRecord
sequence_record position = record { kind = 28; flags = 0; label = 0; children = 2; zero = 0; position = position }

abbrev pub literal_record : ℕ → NodeRecord
literal_record position = record { kind = 1; flags = 0; label = 65535; children = 0; zero = 0; position = position }

-- The tag stands from a to b, then the record of the name that it replaces, then others up to c, then one that is free: the
-- two records come before the tag, and the name's is gone.
abbrev pub PreservesIndirectAccess : List ℕ → List ℕ → ℕ → ℕ → ℕ → ℕ → Type 0
PreservesIndirectAccess bs bs' a b c position =
    (p tag name after free s : List ℕ) → bs ≡ p ++ (tag ++ (name ++ (after ++ (free ++ s)))) → length p ≡ a → a + length tag ≡ b
    → length name ≡ 16 → b + 16 + length after ≡ c → length free ≡ 16
    → bs' ≡ p ++ (work_bytes (sequence_record position) ++ (work_bytes (literal_record position) ++ (tag ++ (after ++ s))))
