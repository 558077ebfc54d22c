use Rattle.std.proofs.Common.{rules}
use native.Mathlib.Omega.{arith}
use Rattle.records.specs.File.{read}
use Rattle.walk_rules.specs.Context.{context_of}
use Rattle.statements.proofs.Going.{can_take_tree, can_push_later, taken-given, taken-bare}
use Rattle.statements.proofs.within_declaration.fold_later_declarator.Goals as goal
use Rattle.statements.proofs.within_declaration.fold_later_declarator.Goals.{then-next-eq1, else-next-eq1}

pub substitute_in_later_tree-l-requires-clause-state : goal.substitute_in_later_tree-l-requires-clause-state
substitute_in_later_tree-l-requires-clause-state c = can_take_tree (context_of (read c.args.file.now.bytes.now)) c.args.file.now.bytes.now c.args.file.now.header c.next_declarator-next.result c.args.p c.next_declarator-next.ensures.result c.args.tables.now.nodes.now c.args.tables.now.declarators.now c.args.tables.now.starts.now c.args.d.first c.if-next-eq1.true c.requires.state

pub push_declarator-requires : goal.push_declarator-requires
push_declarator-requires c =
    elim c.if-next-eq1.branch [
      | then-next-eq1 w ↦
          let (x, y) = can_push_later (context_of (read c.args.file.now.bytes.now)) c.args.file.now.bytes.now c.args.file.now.header c.next_declarator-next.result c.args.p c.next_declarator-next.ensures.result c.args.tables.now.nodes.now c.args.tables.now.declarators.now c.args.tables.now.starts.now c.args.d.first w.if-next-eq1.true c.args.d.searched _ _ _ _ _ _ w.substitute_in_later_tree-l.ensures.taken c.requires.state in
          rw (w.tables-is, w.l-is) (record {
            room = omega (arith, x, c.requires.room.1, w.substitute_in_later_tree-l.ensures.slices.declarators-length);
            starts = omega (arith, x, c.requires.room.2, w.substitute_in_later_tree-l.ensures.slices.starts-length);
            read = y;
          })
      | else-next-eq1 w ↦ rw (w.tables-is, w.l-is) (search rules)
    ]

pub returns-clause-taken : goal.returns-clause-taken
returns-clause-taken c =
    elim c.if-next-eq1.branch [
      | then-next-eq1 w ↦ rw (w.tables-is, w.folded-is) (taken-given (context_of (read c.args.file.now.bytes.now)) c.args.file.now.bytes.now c.args.file.now.header c.next_declarator-next.result c.args.p c.next_declarator-next.ensures.result c.args.tables.now.nodes.now c.args.tables.now.declarators.now c.args.tables.now.starts.now c.args.d.first w.if-next-eq1.true c.args.d.searched _ _ _ _ _ _ w.substitute_in_later_tree-l.ensures.taken _ _ _ (rw (w.tables-is, w.l-is) at c.push_declarator.ensures.pushed) (rw w.l-is at c.push_declarator.ensures.result))
      | else-next-eq1 w ↦ rw (w.tables-is, w.folded-is) (taken-bare (context_of (read c.args.file.now.bytes.now)) c.args.file.now.bytes.now c.args.file.now.header c.next_declarator-next.result c.args.p c.next_declarator-next.ensures.result c.args.tables.now.nodes.now c.args.tables.now.declarators.now _ c.args.tables.now.starts.now _ c.args.folded.now c.args.d.first c.args.d.searched _ w.if-next-eq1.false (rw (w.tables-is, w.l-is) at c.push_declarator.ensures.pushed) (rw w.l-is at c.push_declarator.ensures.result))
    ]
