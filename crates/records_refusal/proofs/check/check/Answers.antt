use native.Mathlib.Omega.{arith}
use lib.ListN.{get_or-replicate}
use mathlib.Core.Path.{refl, sym, ◌∙◌}
use Rattle.std.proofs.lemmas.Result.{err_from_is_err_and}
use Rattle.records_refusal.proofs.Limits.{names-fit, file-declarators_fit}
use Rattle.records_refusal.proofs.Rows.{refuses, refused, passed, statements-pass, statements-refuse, nodes-refuse, rows_behind, past_8}
use Rattle.records_refusal.proofs.check.check.Goals as goal

pub returns-then-bad : goal.returns-then-bad
returns-then-bad c = record {
  result = refused 5 _ c.facts_are_bad-bad.ensures.result c.if-bad.true ∙ rows_behind _ _ c.args.room c.args.headed.now.passes;
}

pub returns-in_err-statements : goal.returns-in_err-statements
returns-in_err-statements c =
    let p = err_from_is_err_and c.from_residual.result c.from_residual.ensures.1 in
    record {
      result = rw (p.1, p.2)
          (passed 5 c.facts_are_bad-bad.ensures.result c.if-bad.false
          (statements-refuse _ _ (refuses c.in_err-statements.field-0.0) (rw c.in_err-statements.was at c.statement_row-statements.ensures.row))
          ∙ rows_behind _ _ c.args.room c.args.headed.now.passes);
    }

pub returns-in_err-node_rows : goal.returns-in_err-node_rows
returns-in_err-node_rows c =
    let p = err_from_is_err_and c.from_residual-in_err-node_rows.result c.from_residual-in_err-node_rows.ensures.1 in
    record {
      result = rw (p.1, p.2)
          (passed 5 c.facts_are_bad-bad.ensures.result c.if-bad.false
          (passed 6 (statements-pass _ (rw c.in_ok-statements.was at c.statement_row-statements.ensures.row)) refl
          (nodes-refuse _ _ _ (refuses c.in_err-node_rows.field-0.0) c.in_err-node_rows.ensures.rows))
          ∙ rows_behind _ _ c.args.room c.args.headed.now.passes);
    }

pub names_are_declared_twice-requires : goal.names_are_declared_twice-requires
names_are_declared_twice-requires c = record { names = file-declarators_fit c.args.headed.now.file.bytes.now c.args.headed.now.file.header c.args.headed.now.passes.is c.args.headed.now.passes.limits (sym (statements-pass _ (rw c.in_ok-statements.was at c.statement_row-statements.ensures.row))) }

pub returns-then-names_are_declared_twice : goal.returns-then-names_are_declared_twice
returns-then-names_are_declared_twice c = record {
  result = past_8 _ _ c.args.room c.args.headed.now.passes c.facts_are_bad-bad.ensures.result c.if-bad.false (rw c.in_ok-statements.was at c.statement_row-statements.ensures.row) c.in_ok-node_rows.ensures.rows
      (refused 9 _ c.names_are_declared_twice.ensures.result c.if-names_are_declared_twice.true);
}

pub node_rows-requires-clause-no_reads : goal.node_rows-requires-clause-no_reads
node_rows-requires-clause-no_reads c k h = get_or-replicate 256 k 0 0 h

pub node_rows-requires-clause-no_targets : goal.node_rows-requires-clause-no_targets
node_rows-requires-clause-no_targets c k h = get_or-replicate 256 k 0 0 h

pub counts_are_bad-requires-clause-reads_room : goal.counts_are_bad-requires-clause-reads_room
counts_are_bad-requires-clause-reads_room c = omega (arith, names-fit c.args.headed.now.file.header c.args.headed.now.passes.limits)

pub counts_are_bad-requires-clause-targets_room : goal.counts_are_bad-requires-clause-targets_room
counts_are_bad-requires-clause-targets_room c = omega (arith, names-fit c.args.headed.now.file.header c.args.headed.now.passes.limits)

pub returns-then-counts_are_bad : goal.returns-then-counts_are_bad
returns-then-counts_are_bad c = record {
  result = past_8 _ _ c.args.room c.args.headed.now.passes c.facts_are_bad-bad.ensures.result c.if-bad.false (rw c.in_ok-statements.was at c.statement_row-statements.ensures.row) c.in_ok-node_rows.ensures.rows
      (passed 9 c.names_are_declared_twice.ensures.result c.if-names_are_declared_twice.false
      (refused 10 _ c.counts_are_bad.ensures.result c.if-counts_are_bad.true));
}

pub returns-then-short : goal.returns-then-short
returns-then-short c = record {
  result = past_8 _ _ c.args.room c.args.headed.now.passes c.facts_are_bad-bad.ensures.result c.if-bad.false (rw c.in_ok-statements.was at c.statement_row-statements.ensures.row) c.in_ok-node_rows.ensures.rows
      (passed 9 c.names_are_declared_twice.ensures.result c.if-names_are_declared_twice.false
      (passed 10 c.counts_are_bad.ensures.result c.if-counts_are_bad.false
      (refused 11 _ c.room_is_short-short.ensures.result c.if-short.true)));
}

pub returns : goal.returns
returns c = record {
  result = past_8 _ _ c.args.room c.args.headed.now.passes c.facts_are_bad-bad.ensures.result c.if-bad.false (rw c.in_ok-statements.was at c.statement_row-statements.ensures.row) c.in_ok-node_rows.ensures.rows
      (passed 9 c.names_are_declared_twice.ensures.result c.if-names_are_declared_twice.false
      (passed 10 c.counts_are_bad.ensures.result c.if-counts_are_bad.false
      (passed 11 c.room_is_short-short.ensures.result c.if-short.false refl)));
}
