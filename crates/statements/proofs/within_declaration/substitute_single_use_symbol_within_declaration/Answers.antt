use mathlib.Core.Path.{refl, ◌∙◌}
use native.Mathlib.Omega.{arith}
use Rattle.records.specs.File.{read}
use Rattle.walk_rules.specs.Context.{context_of}
use Rattle.statements.proofs.Slices.{same_slices, slices-then}
use Rattle.statements.proofs.Going.{going-begins, can_go, going_on, going-ends}
use Rattle.statements.proofs.within_declaration.substitute_single_use_symbol_within_declaration.Goals as goal

pub loop-init : goal.loop-init
loop-init c = record {
  slices = same_slices;
  folded = refl;
  statements = refl;
  going = going-begins (context_of (read c.args.file.now.bytes.now)) c.args.d.searched c.args.file.now.bytes.now c.args.file.now.header c.args.d.first c.args.many _ (omega arith) c.args.p;
}

pub fold_later_declarator-q-requires-clause-state : goal.fold_later_declarator-q-requires-clause-state
fold_later_declarator-q-requires-clause-state c = can_go (context_of (read c.args.file.now.bytes.now)) c.args.d.searched c.args.file.now.bytes.now c.args.file.now.header c.args.d.first c.loop.invariant.going (omega arith) c.requires.state

pub loop-preserved : goal.loop-preserved
loop-preserved c = record {
  slices = slices-then c.loop.invariant.slices c.fold_later_declarator-q.ensures.slices;
  folded = c.fold_later_declarator-q.auto.folded ∙ c.loop.invariant.folded;
  statements = c.fold_later_declarator-q.ensures.statements ∙ c.loop.invariant.statements;
  going = going_on (context_of (read c.args.file.now.bytes.now)) c.args.d.searched c.args.file.now.bytes.now c.args.file.now.header c.args.d.first c.loop.invariant.going (omega arith) c.fold_later_declarator-q.ensures.taken;
}

pub returns-clause-taken : goal.returns-clause-taken
returns-clause-taken c = going-ends (context_of (read c.args.file.now.bytes.now)) c.args.d.searched c.args.file.now.bytes.now c.args.file.now.header c.args.d.first c.loop.invariant.going (omega arith)
