use Rattle.records.specs.File.{read}
use Rattle.walk_rules.specs.Context.{context_of}
use Rattle.statements.proofs.Folding.{other-folds, fold-kind}
use Rattle.statements.proofs.statement.fold_statement.Goals as goal

pub returns-then-s-eq-OTHER_STATEMENT-clause-folds : goal.returns-then-s-eq-OTHER_STATEMENT-clause-folds
returns-then-s-eq-OTHER_STATEMENT-clause-folds c = other-folds (context_of (read c.args.file.now.bytes.now)) c.args.file.now.bytes.now c.args.file.now.header c.args.tables.now.nodes.now c.args.tables.now.declarators.now c.args.tables.now.starts.now c.args.tables.now.statements.now c.args.s c.args.p _ c.args.folded.now _ c.if-s-eq-OTHER_STATEMENT.true c.push_statement.ensures.pushed c.push_statement.ensures.result

pub handle_variable_declaration-requires-clause-declaration : goal.handle_variable_declaration-requires-clause-declaration
handle_variable_declaration-requires-clause-declaration c = fold-kind c.args.file.now.bytes.now c.args.file.now.header c.args.tables.now.nodes.now c.args.tables.now.declarators.now c.args.tables.now.starts.now c.args.tables.now.statements.now c.args.s c.args.p c.requires.state c.if-s-eq-EXPRESSION_STATEMENT.false c.if-s-eq-OTHER_STATEMENT.false
