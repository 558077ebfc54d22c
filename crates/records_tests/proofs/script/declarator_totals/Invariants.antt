use Prim.Native.Nat.{◌≤◌}
use Rattle.records.specs.Record.{name_at, declarator_at}
use Rattle.records.specs.Records.{records_from}
use Rattle.records.specs.File.{initializers}
use Rattle.records.specs.Script.{good_declarator}
use Rattle.records.proofs.Series.{Passed, Summed}
use Rattle.records_tests.proofs.script.declarator_totals.Given as goal

abbrev pub invariant-loop-i : goal.invariant-loop-i
invariant-loop-i l = Passed (λ k. good_declarator (records_from (name_at l.names.file.now) 12 l.names.count 24)) (declarator_at l.file) 4 l.count l.from l.good l.i × Summed initializers (declarator_at l.file) 4 l.count l.from l.with_tree l.i × (l.with_tree ≤ l.i)
