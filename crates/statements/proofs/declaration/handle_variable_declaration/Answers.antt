use mathlib.Core.Bool.{Bool, ◌||◌, not}
use mathlib.Core.Path.{refl, sym, ap₂, ◌∙◌}
use native.Mathlib.Omega.{arith}
use Rattle.records.specs.File.{read}
use Rattle.walk_rules.specs.Context.{context_of}
use Rattle.statements.proofs.Slices.{slices-then}
use Rattle.statements.proofs.Folding.{empty-folds, declaration-first, declaration-later, declaration-room, declaration-folds}
use Rattle.statements.proofs.declaration.handle_variable_declaration.Goals as goal

pub returns-then-declared-eq0-clause-folds : goal.returns-then-declared-eq0-clause-folds
returns-then-declared-eq0-clause-folds c = empty-folds (context_of (read c.args.file.now.bytes.now)) c.args.file.now.bytes.now c.args.file.now.header c.args.tables.now.nodes.now c.args.tables.now.declarators.now c.args.tables.now.starts.now c.args.tables.now.statements.now c.args.s c.args.p _ c.args.folded.now _ c.requires.declaration (sym c.from-declared.ensures ∙ c.if-declared-eq0.true) c.push_statement.ensures.pushed c.push_statement.ensures.result

pub fold_first_declarator-first-requires-clause-state : goal.fold_first_declarator-first-requires-clause-state
fold_first_declarator-first-requires-clause-state c = declaration-first (context_of (read c.args.file.now.bytes.now)) c.args.file.now.bytes.now c.args.file.now.header c.args.tables.now.nodes.now c.args.tables.now.declarators.now c.args.tables.now.starts.now c.args.tables.now.statements.now c.args.s c.args.p c.requires.declaration c.from-declared.result c.from-declared.ensures c.if-declared-eq0.false c.requires.state

pub overflow_sub-low : goal.overflow_sub-low
overflow_sub-low c =
    let x = declaration-later (context_of (read c.args.file.now.bytes.now)) c.args.file.now.bytes.now c.args.file.now.header c.args.tables.now.nodes.now c.args.tables.now.declarators.now c.args.tables.now.starts.now c.args.tables.now.statements.now c.args.s c.args.p c.requires.declaration c.from-declared.result c.from-declared.ensures c.if-declared-eq0.false _ _ _ _ _ _ c.fold_first_declarator-first.result c.fold_first_declarator-first.ensures.taken c.requires.state in
    omega (arith, x.0)

pub substitute_single_use_symbol_within_declaration-last-requires-clause-state : goal.substitute_single_use_symbol_within_declaration-last-requires-clause-state
substitute_single_use_symbol_within_declaration-last-requires-clause-state c =
    let x = declaration-later (context_of (read c.args.file.now.bytes.now)) c.args.file.now.bytes.now c.args.file.now.header c.args.tables.now.nodes.now c.args.tables.now.declarators.now c.args.tables.now.starts.now c.args.tables.now.statements.now c.args.s c.args.p c.requires.declaration c.from-declared.result c.from-declared.ensures c.if-declared-eq0.false _ _ _ _ _ _ c.fold_first_declarator-first.result c.fold_first_declarator-first.ensures.taken c.requires.state in
    x.1

pub overflow_sub-kept : goal.overflow_sub-kept
overflow_sub-kept c =
    let x = declaration-room (context_of (read c.args.file.now.bytes.now)) c.args.file.now.bytes.now c.args.file.now.header c.args.tables.now.nodes.now c.args.tables.now.declarators.now c.args.tables.now.starts.now c.args.tables.now.statements.now c.args.s c.args.p c.requires.declaration c.from-declared.result c.from-declared.ensures c.if-declared-eq0.false _ _ _ _ _ _ c.fold_first_declarator-first.result c.fold_first_declarator-first.ensures.taken _ _ _ _ _ c.substitute_single_use_symbol_within_declaration-last.result c.substitute_single_use_symbol_within_declaration-last.ensures.taken c.requires.state in
    omega (arith, x.0)

pub overflow_cast-kept : goal.overflow_cast-kept
overflow_cast-kept c =
    let x = declaration-room (context_of (read c.args.file.now.bytes.now)) c.args.file.now.bytes.now c.args.file.now.header c.args.tables.now.nodes.now c.args.tables.now.declarators.now c.args.tables.now.starts.now c.args.tables.now.statements.now c.args.s c.args.p c.requires.declaration c.from-declared.result c.from-declared.ensures c.if-declared-eq0.false _ _ _ _ _ _ c.fold_first_declarator-first.result c.fold_first_declarator-first.ensures.taken _ _ _ _ _ c.substitute_single_use_symbol_within_declaration-last.result c.substitute_single_use_symbol_within_declaration-last.ensures.taken c.requires.state in
    omega (arith, x.1, c.well_formed)

pub push_statement-requires-2 : goal.push_statement-requires-2
push_statement-requires-2 c =
    let x = declaration-room (context_of (read c.args.file.now.bytes.now)) c.args.file.now.bytes.now c.args.file.now.header c.args.tables.now.nodes.now c.args.tables.now.declarators.now c.args.tables.now.starts.now c.args.tables.now.statements.now c.args.s c.args.p c.requires.declaration c.from-declared.result c.from-declared.ensures c.if-declared-eq0.false _ _ _ _ _ _ c.fold_first_declarator-first.result c.fold_first_declarator-first.ensures.taken _ _ _ _ _ c.substitute_single_use_symbol_within_declaration-last.result c.substitute_single_use_symbol_within_declaration-last.ensures.taken c.requires.state in
    record { room = omega (arith, x.2, c.requires.room, slices-then c.fold_first_declarator-first.ensures.slices c.substitute_single_use_symbol_within_declaration-last.ensures.slices) }

pub returns-clause-folds : goal.returns-clause-folds
returns-clause-folds c = declaration-folds (context_of (read c.args.file.now.bytes.now)) c.args.file.now.bytes.now c.args.file.now.header c.args.tables.now.nodes.now c.args.tables.now.declarators.now c.args.tables.now.starts.now c.args.tables.now.statements.now c.args.s c.args.p c.requires.declaration c.from-declared.result c.from-declared.ensures c.if-declared-eq0.false _ _ _ _ _ _ c.fold_first_declarator-first.result c.fold_first_declarator-first.ensures.taken _ _ _ _ _ c.substitute_single_use_symbol_within_declaration-last.result c.substitute_single_use_symbol_within_declaration-last.ensures.taken (ap₂ (λ (a b : Bool). not (a || b)) c.is_unsearched.ensures.result c.is_using.ensures.result) _ _ _ refl (rw c.substitute_single_use_symbol_within_declaration-last.ensures.statements at c.push_statement-2.ensures.pushed) c.push_statement-2.ensures.result
