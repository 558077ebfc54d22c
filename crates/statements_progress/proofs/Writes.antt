-- A declarator or a statement written behind others. Assumes nothing.
use mathlib.Core.Path.{◌≡◌, ap, ◌∙◌}
use mathlib.Core.List.{List}
use Prim.Native.Nat.{ℕ, ◌+◌, ◌*◌, ◌≤◌, ◌<◌}
use native.Mathlib.Omega.{arith}
use lib.ListN.{length, get_or, set}
use lib.Seq.{get_or-set_same, get_or-set_other}
use Rattle.records.specs.Record.{declarator_bytes, statement_bytes}
use Rattle.records.specs.declared.layout.DeclaratorRecord.{DeclaratorRecord}
use Rattle.records.specs.declared.layout.StatementRecord.{StatementRecord}
use Rattle.records_laws.proofs.Formats.{declarator-reads, statement-reads}
use Rattle.records_table.specs.Overwrites.{Overwrites}
use Rattle.statements_progress.proofs.Written.{declarator-before, statement-before, written}
use Rattle.statements_progress.specs.Pushed.{DeclaratorPushed, StatementPushed}

pub declarator-written : {records records' starts starts' : List ℕ} (d : DeclaratorRecord) (at many start : ℕ) → at ≡ 4 * many → at + 4 ≤ length records → many < length starts
    → Overwrites records records' at (declarator_bytes d) → starts' ≡ set starts many start → DeclaratorPushed records records' starts starts' many start d
declarator-written {starts = starts} d at many start e l m o s =
    let (x, y) = written declarator-reads declarator-before d at many e l o in
    record {
      last = x;
      start_is = ap (λ (t : List ℕ). get_or t many 0) s ∙ get_or-set_same starts many start 0 m;
      kept = y;
      starts-kept = λ i h. ap (λ (t : List ℕ). get_or t i 0) s ∙ get_or-set_other starts many i start 0 (λ q. omega (arith, q));
    }

pub statement-written : {statements statements' : List ℕ} (s : StatementRecord) (at count : ℕ) → at ≡ 4 * count → at + 4 ≤ length statements
    → Overwrites statements statements' at (statement_bytes s) → StatementPushed statements statements' count s
statement-written s at count e l o =
    let (x, y) = written statement-reads statement-before s at count e l o in
    record { last = x; kept = y }
