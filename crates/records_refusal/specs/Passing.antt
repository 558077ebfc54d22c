-- Rows 1 to 4, the rows of the header.
use Rattle.std.specs.Prelude.{ℕ, false, List, ◌≡◌}
use Rattle.records.specs.Record.{header_of}
use Rattle.records.specs.Refusal.{row}
use Rattle.records.specs.Header.{not_a_record_file, other_version, outside_limits, other_length}
use Rattle.records.specs.declared.layout.Header.{Header}

-- the number of the first of rows 1 to 4 that refuses a file, 0 if none does
unfoldable pub header_refusal : List ℕ → ℕ
header_refusal bs =
    row 1 (not_a_record_file bs)
    (row 2 (other_version (header_of bs))
    (row 3 (outside_limits (header_of bs))
    (row 4 (other_length bs (header_of bs))
    0)))

-- none refuses a file with this header
pub record HeaderPasses (bs : List ℕ) (h : Header) : Type 0 where
  pub is : h ≡ header_of bs
  pub script : not_a_record_file bs ≡ false
  pub version : other_version h ≡ false
  pub limits : outside_limits h ≡ false
  pub measured : other_length bs h ≡ false
