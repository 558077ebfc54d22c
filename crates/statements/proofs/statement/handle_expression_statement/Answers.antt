use native.Mathlib.Omega.{arith}
use Rattle.records.specs.File.{read}
use Rattle.walk_rules.specs.Context.{context_of}
use Rattle.statements.proofs.Folding.{expression-next, expression-room, expression-folds}
use Rattle.statements.proofs.statement.handle_expression_statement.Goals as goal

pub substitute_in_next_tree-l-requires-clause-state : goal.substitute_in_next_tree-l-requires-clause-state
substitute_in_next_tree-l-requires-clause-state c = expression-next (context_of (read c.args.file.now.bytes.now)) c.args.file.now.bytes.now c.args.file.now.header c.args.tables.now.nodes.now c.args.tables.now.declarators.now c.args.tables.now.starts.now c.args.tables.now.statements.now c.args.s c.args.p c.requires.expression c.requires.state

pub push_statement-requires : goal.push_statement-requires
push_statement-requires c =
    let x = expression-room (context_of (read c.args.file.now.bytes.now)) c.args.file.now.bytes.now c.args.file.now.header c.args.tables.now.nodes.now c.args.tables.now.declarators.now c.args.tables.now.starts.now c.args.tables.now.statements.now c.args.s c.args.p c.requires.expression _ _ _ _ _ _ _ c.substitute_in_next_tree-l.ensures.searched c.requires.state in
    record { room = omega (arith, x, c.requires.room, c.substitute_in_next_tree-l.ensures.slices.statements-length) }

pub returns-clause-folds : goal.returns-clause-folds
returns-clause-folds c = expression-folds (context_of (read c.args.file.now.bytes.now)) c.args.file.now.bytes.now c.args.file.now.header c.args.tables.now.nodes.now c.args.tables.now.declarators.now c.args.tables.now.starts.now c.args.tables.now.statements.now c.args.s c.args.p c.requires.expression _ _ _ _ _ _ _ c.substitute_in_next_tree-l.ensures.searched _ _ c.push_statement.ensures.pushed c.push_statement.ensures.result
