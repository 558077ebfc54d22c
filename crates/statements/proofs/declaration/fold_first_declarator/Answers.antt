use Rattle.std.proofs.Common.{rules}
use native.Mathlib.Omega.{arith}
use Rattle.records.specs.File.{read}
use Rattle.walk_rules.specs.Context.{context_of}
use Rattle.statements.proofs.Going.{can_take_next, can_push_first, first_taken, first-taken_bare}
use Rattle.statements.proofs.declaration.fold_first_declarator.Goals as goal
use Rattle.statements.proofs.declaration.fold_first_declarator.Goals.{then-d-eq1, else-d-eq1}

pub substitute_in_next_tree-l-requires-clause-state : goal.substitute_in_next_tree-l-requires-clause-state
substitute_in_next_tree-l-requires-clause-state c = can_take_next (context_of (read c.args.file.now.bytes.now)) c.args.file.now.bytes.now c.args.file.now.header c.next_declarator-d.result c.args.p c.next_declarator-d.ensures.result c.args.tables.now.nodes.now c.args.tables.now.declarators.now c.args.tables.now.starts.now c.args.tables.now.statements.now c.if-d-eq1.true c.requires.state

pub push_declarator-requires : goal.push_declarator-requires
push_declarator-requires c =
    elim c.if-d-eq1.branch [
      | then-d-eq1 w ↦
          let (x, y) = can_push_first (context_of (read c.args.file.now.bytes.now)) c.args.file.now.bytes.now c.args.file.now.header c.next_declarator-d.result c.args.p c.next_declarator-d.ensures.result c.args.tables.now.nodes.now c.args.tables.now.declarators.now c.args.tables.now.starts.now c.args.tables.now.statements.now w.if-d-eq1.true _ _ _ _ _ _ _ w.substitute_in_next_tree-l.ensures.searched c.requires.state in
          rw (w.tables-is, w.l-is) (record {
            room = omega (arith, x, c.requires.room.1, w.substitute_in_next_tree-l.ensures.slices.declarators-length);
            starts = omega (arith, x, c.requires.room.2, w.substitute_in_next_tree-l.ensures.slices.starts-length);
            read = y;
          })
      | else-d-eq1 w ↦ rw (w.tables-is, w.l-is) (search rules)
    ]

pub returns-clause-taken : goal.returns-clause-taken
returns-clause-taken c =
    elim c.if-d-eq1.branch [
      | then-d-eq1 w ↦ rw (w.tables-is, w.folded-is) (first_taken (context_of (read c.args.file.now.bytes.now)) c.args.file.now.bytes.now c.args.file.now.header c.next_declarator-d.result c.args.p c.next_declarator-d.ensures.result c.args.tables.now.nodes.now c.args.tables.now.declarators.now c.args.tables.now.starts.now c.args.tables.now.statements.now w.if-d-eq1.true _ _ _ _ _ _ _ w.substitute_in_next_tree-l.ensures.searched _ _ _ (rw (w.tables-is, w.l-is) at c.push_declarator.ensures.pushed) (rw w.l-is at c.push_declarator.ensures.result))
      | else-d-eq1 w ↦ rw (w.tables-is, w.folded-is) (first-taken_bare (context_of (read c.args.file.now.bytes.now)) c.args.file.now.bytes.now c.args.file.now.header c.next_declarator-d.result c.args.p c.next_declarator-d.ensures.result c.args.tables.now.nodes.now c.args.tables.now.declarators.now _ c.args.tables.now.starts.now _ c.args.tables.now.statements.now c.args.folded.now _ w.if-d-eq1.false (rw (w.tables-is, w.l-is) at c.push_declarator.ensures.pushed) (rw w.l-is at c.push_declarator.ensures.result))
    ]
