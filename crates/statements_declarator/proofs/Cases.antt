-- What each case says of the record that it was taken from. Assumes nothing.
use Prim.Native.Nat.{ℕ}
use native.Mathlib.Omega.{arith}
use mathlib.Core.Bool.{true, false}
use mathlib.Core.Path.{◌≡◌}
use lib.Dec.{eqb}
use Rattle.records.specs.Limits.{no_number}
use Rattle.records.specs.Flags.{recorded}
use Rattle.records.specs.declared.layout.NodeId.{NodeId}
use Rattle.records.specs.declared.layout.NameId.{NameId}
use Rattle.records.specs.declared.layout.NameFacts.{NameFacts}
use Rattle.records.specs.declared.layout.DeclaratorRecord.{DeclaratorRecord}
use Rattle.statements_declarator.specs.declared.declarator_parts.Initializer.TheVariants.{Given, Bare}
use Rattle.statements_declarator.specs.declared.declarator_parts.PlainName.TheVariants.{Name, Pattern}
use Rattle.statements_declarator.specs.declared.declarator_parts.ValueRecord.TheVariants.{Recorded, Unrecorded}
use Rattle.statements_declarator.specs.Cases.{initializer_of, plain_name, value_record}

-- an initializer
pub is-given : (d : DeclaratorRecord) (start : NodeId) {at : NodeId} → initializer_of d start ≡ Given at → (eqb d.present 1 ≡ true) × (at ≡ start)
is-given d start e = grind (arith, e)

pub is-bare : (d : DeclaratorRecord) (start : NodeId) → initializer_of d start ≡ Bare → eqb d.present 1 ≡ false
is-bare d start e = grind (arith, e)

-- a name, or a pattern
pub is_name : (d : DeclaratorRecord) {name : NameId} → plain_name d ≡ Name name → (eqb d.name no_number ≡ false) × (name.0 ≡ d.name)
is_name d e = grind (arith, e)

pub is_pattern_lem : (d : DeclaratorRecord) → plain_name d ≡ Pattern → eqb d.name no_number ≡ true
is_pattern_lem d e = grind (arith, e)

-- a value record
pub is-recorded : (n : NameFacts) {reads writes : ℕ} → value_record n ≡ Recorded reads writes → (recorded n.flags ≡ true) × (n.reads ≡ reads) × (n.writes ≡ writes)
is-recorded n e = grind (arith, e)

pub is_unrecorded_lem : (n : NameFacts) → value_record n ≡ Unrecorded → recorded n.flags ≡ false
is_unrecorded_lem n e = grind (arith, e)
