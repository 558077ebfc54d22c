use mathlib.Core.Path.{◌∙◌}
use Rattle.records.proofs.Ones.{byte-one, byte-most}
use mathlib.Core.Path.{refl}
use native.Mathlib.Omega.{arith}
use lib.Dec.{eqb}
use Rattle.records.specs.File.{one}
use Rattle.records.specs.Script.{declarator_sum}
use Rattle.records.specs.Place.{expressions}
use Rattle.records.specs.declared.layout.StatementRecord.{StatementRecord}
use Rattle.records.proofs.Series.{passed-more, passed-all, summed_more, summed_all}
use Rattle.records_tests.proofs.script.statement_totals.Goals as goal

pub loop-i-preserved : goal.loop-i-preserved
unfolding declarator_sum expressions
loop-i-preserved c = (
  passed-more c.statement_at-s.result c.statement_is_good-good.result c.loop-i.invariant.0 c.loop-i-test.true c.statement_at-s.ensures.result c.statement_is_good-good.ensures.result,
  summed_more (λ (s : StatementRecord). s.declarators) c.statement_at-s.result c.from-sum.result (λ y ys. refl) c.loop-i.invariant.1 c.loop-i-test.true c.statement_at-s.ensures.result c.from-sum.ensures,
  summed_more (λ (s : StatementRecord). one (eqb s.kind 5)) c.statement_at-s.result c.from-with_tree.result (λ y ys. refl) c.loop-i.invariant.2 c.loop-i-test.true c.statement_at-s.ensures.result (c.from-with_tree.ensures ∙ byte-one _),
  omega (arith, c.loop-i.invariant.3, c.from-sum.ensures),
  omega (arith, c.loop-i.invariant.4, byte-most _ c.from-with_tree.ensures),
)

pub returns : goal.returns
unfolding declarator_sum expressions
returns c = record {
  good = passed-all c.loop-i.invariant.0 c.loop-i-test.false;
  declarators = summed_all refl c.loop-i.invariant.1 c.loop-i-test.false;
  expressions = summed_all refl c.loop-i.invariant.2 c.loop-i-test.false;
}
