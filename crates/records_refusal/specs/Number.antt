-- The number of each outcome of the refusal table.
use Rattle.std.specs.Prelude.{ℕ, Result, Ok, Err}
use Rattle.records_refusal.specs.declared.outcome.Refusal.{Refusal}
use Rattle.records_refusal.specs.declared.outcome.Refusal.TheVariants.{NotARecordFile, OtherVersion, OutsideLimits, OtherLength, BadFacts, BadStatements, BadNodes, BadTrees, DeclaredTwice, BadCounts, NoRoom}

-- the row of document 01's table
abbrev pub row_number : Refusal → ℕ
row_number NotARecordFile = 1
row_number OtherVersion = 2
row_number OutsideLimits = 3
row_number OtherLength = 4
row_number BadFacts = 5
row_number BadStatements = 6
row_number BadNodes = 7
row_number BadTrees = 8
row_number DeclaredTwice = 9
row_number BadCounts = 10
row_number NoRoom = 11

-- 0: accepted; else the row that refuses
abbrev pub number : {A : Type 0} → Result A Refusal → ℕ
number (Ok x) = 0
number (Err r) = row_number r
