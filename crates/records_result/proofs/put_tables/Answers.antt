use native.Mathlib.Omega.{arith}
use mathlib.Core.Path.{refl, ◌∙◌}
use Rattle.records_result.proofs.Parts.{tables-put}
use Rattle.records_result.proofs.put_tables.Goals as goal

pub returns : goal.returns
returns c = record {
  output = tables-put c.args.out.now c.args.nodes.now c.args.declarators.now c.args.statements.now c.from-count.result c.from-declared.result c.from-stated.result (omega (arith, c.requires.tables.1, c.from-declared.ensures)) c.put_nodes.ensures.output c.put_copy.ensures.output c.put_copy-2.ensures.output
      ∙ rw (c.from-count.ensures, c.from-declared.ensures, c.from-stated.ensures) refl;
}
