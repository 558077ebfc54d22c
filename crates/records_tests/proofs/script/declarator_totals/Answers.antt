use mathlib.Core.Path.{◌∙◌}
use Rattle.records.proofs.Ones.{byte-one, byte-most}
use mathlib.Core.Path.{refl}
use native.Mathlib.Omega.{arith}
use lib.Dec.{eqb}
use Rattle.records.specs.File.{one, initializers}
use Rattle.records.specs.declared.layout.DeclaratorRecord.{DeclaratorRecord}
use Rattle.records.proofs.Names.{declarator-judged}
use Rattle.records.proofs.Series.{passed-more, passed-all, summed_more, summed_all}
use Rattle.records_tests.proofs.script.declarator_totals.Goals as goal

pub loop-i-preserved : goal.loop-i-preserved
unfolding initializers
loop-i-preserved c = (
  passed-more c.declarator_at-d.result c.declarator_is_good-good.result c.loop-i.invariant.0 c.loop-i-test.true c.declarator_at-d.ensures.result (declarator-judged _ _ _ c.declarator_at-d.result c.facts_of.ensures.result c.declarator_is_good-good.ensures.result),
  summed_more (λ (d : DeclaratorRecord). one (eqb d.present 1)) c.declarator_at-d.result c.from-with_tree.result (λ y ys. refl) c.loop-i.invariant.1 c.loop-i-test.true c.declarator_at-d.ensures.result (c.from-with_tree.ensures ∙ byte-one _),
  omega (arith, c.loop-i.invariant.2, byte-most _ c.from-with_tree.ensures),
)

pub returns : goal.returns
unfolding initializers
returns c = record {
  good = passed-all c.loop-i.invariant.0 c.loop-i-test.false;
  initializers = summed_all refl c.loop-i.invariant.1 c.loop-i-test.false;
}
