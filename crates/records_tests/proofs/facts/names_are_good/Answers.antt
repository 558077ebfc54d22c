use mathlib.Core.Path.{refl}
use native.Mathlib.Omega.{arith}
use borrow.Author.Tests.{tests}
use Rattle.std.proofs.Common.{rules}
use Rattle.records.specs.Record.{name_at}
use Rattle.records.specs.Facts.{good_name}
use Rattle.records.proofs.Ranged.{every-all}
use Rattle.records_tests.proofs.facts.names_are_good.Goals as goal

pub returns : goal.returns
returns c = record {
  result = every-all (λ k. good_name c.args.scopes) (name_at c.args.names.now.file.now) 12 0 c.args.names.now.count c.args.names.now.count c.args.names.now.from c.args.names.now.from (omega arith) (omega arith) _ _ _ c.all.ensures.ran refl (λ x q k. search (rules, tests)) (λ x q k. search (rules, tests));
}
