use native.Mathlib.Omega.{arith}
use mathlib.Core.Path.{refl, sym, ◌∙◌}
use Rattle.statements_search.proofs.InStatements.{literal-bit, first-turn, unsearched, at_first, at-end, fewer-declared, searchable, found-fewer, looks-fit, next-turn, at-kept}
use Rattle.statements_search.proofs.in_statement.substitute_single_use_symbol_in_statement.Goals as goal

pub returns-then-is_unsearched : goal.returns-then-is_unsearched
returns-then-is_unsearched c = record { searched = λ ks target rest h. (rest, rw c.begun-found.ensures.result (unsearched _ c.args.target.tree (sym c.is_unsearched.ensures.result ∙ c.if-is_unsearched.true) h)) }

pub loop-last-init : goal.loop-last-init
loop-last-init c = rw c.begun-found.ensures.result (first-turn (sym c.is_unsearched.ensures.result ∙ c.if-is_unsearched.false) c.requires.tree, refl)

pub overflow_sub-first : goal.overflow_sub-first
overflow_sub-first c = omega (arith, c.from.ensures, fewer-declared c.loop-last.found.tree c.loop-last.invariant.0 c.statement_at-s.result c.statement_at-s.ensures.result (omega (arith, c.loop-last-test.true)) (omega (arith, c.if-s-gt-CONST.false)) c.requires.tree)

pub substitute_single_use_symbol_in_expression_from_declarators-r-requires-clause-tree : goal.substitute_single_use_symbol_in_expression_from_declarators-r-requires-clause-tree
substitute_single_use_symbol_in_expression_from_declarators-r-requires-clause-tree c =
    searchable c.loop-last.found.tree c.loop-last.invariant.0 c.statement_at-s.result c.statement_at-s.ensures.result (omega (arith, c.loop-last-test.true)) (omega (arith, c.if-s-gt-CONST.false)) c.requires.tree (omega (arith, c.from.ensures))

pub overflow_add-found : goal.overflow_add-found
overflow_add-found c =
    let f =
    found-fewer c.loop-last.found.tree c.loop-last.invariant.0 c.statement_at-s.result c.statement_at-s.ensures.result (omega (arith, c.loop-last-test.true)) (omega (arith, c.if-s-gt-CONST.false)) (c.is_literal_only-literal_only.ensures.result ∙ literal-bit _ _ c.args.file.now.whole.0) (omega (arith, c.from.ensures))
    c.substitute_single_use_symbol_in_expression_from_declarators-r.ensures.searched c.requires.tree in
    omega (arith, c.loop-last.invariant.0.folded, f.1, c.well_formed)

pub overflow_add-found-in-loop-last : goal.overflow_add-found-in-loop-last
overflow_add-found-in-loop-last c =
    let f =
    looks-fit c.loop-last.found.tree c.loop-last.invariant.0 c.statement_at-s.result c.statement_at-s.ensures.result (omega (arith, c.loop-last-test.true)) (omega (arith, c.if-s-gt-CONST.false)) (c.is_literal_only-literal_only.ensures.result ∙ literal-bit _ _ c.args.file.now.whole.0) (omega (arith, c.from.ensures))
    c.substitute_single_use_symbol_in_expression_from_declarators-r.ensures.searched c.requires.tree in
    omega (arith, f)

pub put_declaration-requires-clause-many : goal.put_declaration-requires-clause-many
put_declaration-requires-clause-many c =
    let f =
    found-fewer c.loop-last.found.tree c.loop-last.invariant.0 c.statement_at-s.result c.statement_at-s.ensures.result (omega (arith, c.loop-last-test.true)) (omega (arith, c.if-s-gt-CONST.false)) (c.is_literal_only-literal_only.ensures.result ∙ literal-bit _ _ c.args.file.now.whole.0) (omega (arith, c.from.ensures))
    c.substitute_single_use_symbol_in_expression_from_declarators-r.ensures.searched c.requires.tree in
    omega (arith, f.1, c.from.ensures)

pub loop-last-preserved : goal.loop-last-preserved
loop-last-preserved c = (
  next-turn c.loop-last.found.tree c.loop-last.invariant.0 c.statement_at-s.result c.statement_at-s.ensures.result (omega (arith, c.loop-last-test.true)) (omega (arith, c.if-s-gt-CONST.false)) (c.is_literal_only-literal_only.ensures.result ∙ literal-bit _ _ c.args.file.now.whole.0) (omega (arith, c.from.ensures))
      c.substitute_single_use_symbol_in_expression_from_declarators-r.ensures.searched c.requires.tree c.substitute_single_use_symbol_in_expression_from_declarators-r.auto.nodes (omega (arith, c.if-first-r.false)),
  refl,
)

pub returns-after-loop-last : goal.returns-after-loop-last
returns-after-loop-last c = record { searched = at_first c.loop-last.found.tree c.loop-last.invariant.0 c.loop-last.invariant.1 (omega (arith, c.loop-last-test.false)) }

pub returns-then-s-gt-CONST : goal.returns-then-s-gt-CONST
returns-then-s-gt-CONST c = record { searched = at-end c.loop-last.found.tree c.loop-last.invariant.0 c.statement_at-s.result c.statement_at-s.ensures.result (omega (arith, c.loop-last-test.true)) c.loop-last.invariant.1 c.if-s-gt-CONST.true }

pub returns-then-first-r : goal.returns-then-first-r
returns-then-first-r c = record {
  searched = at-kept c.loop-last.found.tree c.loop-last.invariant.0 c.statement_at-s.result c.statement_at-s.ensures.result (omega (arith, c.loop-last-test.true)) (omega (arith, c.if-s-gt-CONST.false)) (c.is_literal_only-literal_only.ensures.result ∙ literal-bit _ _ c.args.file.now.whole.0) (omega (arith, c.from.ensures))
      c.substitute_single_use_symbol_in_expression_from_declarators-r.ensures.searched c.loop-last.invariant.1 c.if-first-r.true c.put_declaration.ensures.written (omega (arith, c.requires.statements, c.loop-last.auto.statements, c.loop-last.auto.last));
}
