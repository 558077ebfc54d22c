use Prim.Native.Nat.{◌*◌, ◌≤◌}
use Rattle.records.specs.Record.{statement_at}
use Rattle.records.specs.Script.{good_statement, declarator_sum}
use Rattle.records.specs.Place.{expressions}
use Rattle.records.proofs.Series.{Passed, Summed}
use Rattle.records_tests.proofs.script.statement_totals.Given as goal

abbrev pub invariant-loop-i : goal.invariant-loop-i
invariant-loop-i l = Passed (λ k. good_statement) (statement_at l.file) 4 l.count l.from l.good l.i × Summed declarator_sum (statement_at l.file) 4 l.count l.from l.sum l.i × Summed expressions (statement_at l.file) 4 l.count l.from l.with_tree l.i × (l.sum ≤ 65535 * l.i) × (l.with_tree ≤ l.i)
