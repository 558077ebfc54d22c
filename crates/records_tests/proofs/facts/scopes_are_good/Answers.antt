use mathlib.Core.Path.{refl}
use native.Mathlib.Omega.{arith}
use borrow.Author.Tests.{tests}
use Rattle.std.proofs.Common.{rules}
use Rattle.records.specs.Record.{scope_at}
use Rattle.records.specs.Facts.{good_scope}
use Rattle.records.proofs.Ranged.{every-all}
use Rattle.records_tests.proofs.facts.scopes_are_good.Goals as goal

pub returns : goal.returns
returns c = record {
  result = every-all good_scope (scope_at c.args.file.now) 4 0 c.args.count c.args.count c.args.from c.args.from (omega arith) (omega arith) _ _ _ c.all.ensures.ran refl (λ x q k. search (rules, tests)) (λ x q k. search (rules, tests));
}
