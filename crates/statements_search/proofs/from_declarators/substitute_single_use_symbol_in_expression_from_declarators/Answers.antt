use borrow.Author.Tests.{not-true, not-false}
use native.Mathlib.Omega.{arith}
use mathlib.Core.Path.{refl}
use Rattle.records.specs.File.{read}
use Rattle.walk_rules.specs.Context.{context_of}
use Rattle.statements_search.proofs.Going.{going-begins, can_try, looks-fit, some-on, some-ends, some-none}
use Rattle.statements_search.proofs.from_declarators.substitute_single_use_symbol_in_expression_from_declarators.Goals as goal

pub loop-last-init : goal.loop-last-init
loop-last-init c = (omega arith, refl, going-begins (context_of (read c.args.file.now.bytes.now)) c.args.literal_only c.args.declarators.now c.args.starts.now c.args.first)

pub substitute_single_use_symbol_in_expression_from_declarator-t-requires : goal.substitute_single_use_symbol_in_expression_from_declarator-t-requires
substitute_single_use_symbol_in_expression_from_declarator-t-requires c =
    record { tree = can_try (context_of (read c.args.file.now.bytes.now)) c.args.literal_only c.args.declarators.now c.args.starts.now c.args.first c.loop-last.found.tree c.loop-last.invariant.2 c.declarator_at.result c.declarator_at.ensures.result (omega (arith, c.loop-last-test.true)) c.requires.tree c.loop-last.auto.nodes }

pub overflow_add-found : goal.overflow_add-found
overflow_add-found c =
    let fit = looks-fit (context_of (read c.args.file.now.bytes.now)) c.args.literal_only c.args.declarators.now c.args.starts.now c.args.first c.loop-last.found.tree c.loop-last.invariant.2 c.declarator_at.result c.declarator_at.ensures.result (omega (arith, c.loop-last-test.true)) c.substitute_single_use_symbol_in_expression_from_declarator-t.ensures.tried c.requires.tree in
    omega (arith, fit)

pub overflow_add-found-in-loop-last : goal.overflow_add-found-in-loop-last
overflow_add-found-in-loop-last c = omega (arith, c.loop-last.invariant.0, c.loop-last-test.true, c.requires.starts, c.well_formed)

pub loop-last-preserved : goal.loop-last-preserved
loop-last-preserved c =
    let on = some-on (context_of (read c.args.file.now.bytes.now)) c.args.literal_only c.args.declarators.now c.args.starts.now c.args.first c.loop-last.found.tree c.loop-last.invariant.2 c.declarator_at.result c.declarator_at.ensures.result (omega (arith, c.loop-last-test.true)) c.substitute_single_use_symbol_in_expression_from_declarator-t.ensures.tried (not-false _ c.if-not-t.false) in
    (omega (arith, c.loop-last.invariant.0, c.loop-last-test.true), refl, on)

pub returns-after-loop-last : goal.returns-after-loop-last
returns-after-loop-last c = record { searched = some-none (context_of (read c.args.file.now.bytes.now)) c.args.literal_only c.args.declarators.now c.args.starts.now c.args.first c.loop-last.found.tree c.loop-last.invariant.2 c.loop-last.invariant.1 (λ z. omega (arith, z, c.loop-last-test.false)) }

pub returns-then-not-t : goal.returns-then-not-t
returns-then-not-t c = record { searched = some-ends (context_of (read c.args.file.now.bytes.now)) c.args.literal_only c.args.declarators.now c.args.starts.now c.args.first c.loop-last.found.tree c.loop-last.invariant.2 c.declarator_at.result c.declarator_at.ensures.result (omega (arith, c.loop-last-test.true)) c.substitute_single_use_symbol_in_expression_from_declarator-t.ensures.tried c.loop-last.invariant.1 (not-true _ c.if-not-t.true) }
