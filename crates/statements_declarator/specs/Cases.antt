-- The cases of what is taken out of a declarator, with document 01's numbers and values for each.
use Rattle.std.specs.Prelude.{cond, eqb}
use Rattle.records.specs.Limits.{no_number}
use Rattle.records.specs.Flags.{recorded}
use Rattle.records.specs.declared.layout.NodeId.{NodeId}
use Rattle.records.specs.declared.layout.NameFacts.{NameFacts}
use Rattle.records.specs.declared.layout.DeclaratorRecord.{DeclaratorRecord}
use Rattle.statements_declarator.specs.declared.declarator_parts.Initializer.{Initializer}
use Rattle.statements_declarator.specs.declared.declarator_parts.Initializer.TheVariants.{Given, Bare}
use Rattle.statements_declarator.specs.declared.declarator_parts.PlainName.{PlainName}
use Rattle.statements_declarator.specs.declared.declarator_parts.PlainName.TheVariants.{Name, Pattern}
use Rattle.statements_declarator.specs.declared.declarator_parts.ValueRecord.{ValueRecord}
use Rattle.statements_declarator.specs.declared.declarator_parts.ValueRecord.TheVariants.{Recorded, Unrecorded}

-- "initializer present u16 (0, 1)": 1 is an initializer, whose tree begins at `start`, and 0 none
abbrev pub initializer_of : DeclaratorRecord → NodeId → Initializer
initializer_of d start = cond (eqb d.present 1) (Given start) Bare

-- 65535 is a pattern, any other number a plain name
abbrev pub plain_name : DeclaratorRecord → PlainName
plain_name d = cond (eqb d.name no_number) Pattern (Name (record { 0 = d.name }))

-- bit 4: a value record, which has the reads and the writes
abbrev pub value_record : NameFacts → ValueRecord
value_record n = cond (recorded n.flags) (Recorded n.reads n.writes) Unrecorded
