use mathlib.Core.Path.{refl, sym, ap}
use mathlib.Core.Bool.{not}
use borrow.Author.Tests.{not-false}
use native.Mathlib.Omega.{arith}
use Rattle.std.proofs.lemmas.Result.{err_from_is_err_and}
use Rattle.records_refusal.proofs.Judged.{trees-judged, trees-bad}
use Rattle.records_refusal.proofs.Rows.{refuses, refused, passed, nodes-pass, trees-refuse}
use Rattle.records_refusal.proofs.file_rows.node_rows.Goals as goal

pub returns-in_err-scan-clause-rows : goal.returns-in_err-scan-clause-rows
returns-in_err-scan-clause-rows c =
    let p = err_from_is_err_and c.from_residual.result c.from_residual.ensures.1 in
    rw (p.1, p.2) (trees-refuse _ _ _ (refuses c.in_err-scan.field-0.0) (trees-bad _ _ _) (rw c.in_err-scan.was at c.scan_nodes-scan.ensures.rows))

pub returns-then-found-trees-clause-rows : goal.returns-then-found-trees-clause-rows
returns-then-found-trees-clause-rows c =
    let p = nodes-pass _ _ (rw c.in_ok-scan.was at c.scan_nodes-scan.ensures.rows) in
    passed 7 p.0 refl
    (passed 8 (trees-judged _ _ _ _ _ _ (not-false _ (sym p.1)) (omega (arith, c.scan_nodes-scan.ensures.top)) (rw c.in_ok-scan.was at c.scan_nodes-scan.ensures.taken).entered c.requires.trees c.roots_stand.ensures.result)
    (ap not c.if-found-trees.true) refl)

pub returns-else-found-trees-clause-rows : goal.returns-else-found-trees-clause-rows
returns-else-found-trees-clause-rows c =
    let p = nodes-pass _ _ (rw c.in_ok-scan.was at c.scan_nodes-scan.ensures.rows) in
    passed 7 p.0 refl
    (refused 8 _ (trees-judged _ _ _ _ _ _ (not-false _ (sym p.1)) (omega (arith, c.scan_nodes-scan.ensures.top)) (rw c.in_ok-scan.was at c.scan_nodes-scan.ensures.taken).entered c.requires.trees c.roots_stand.ensures.result)
    (ap not c.if-found-trees.false))
