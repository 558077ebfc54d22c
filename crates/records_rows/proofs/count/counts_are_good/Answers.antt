use mathlib.Core.Path.{refl}
use native.Mathlib.Omega.{arith}
use borrow.Author.Tests.{tests}
use lib.ListN.{get_or}
use Rattle.std.proofs.Common.{rules}
use Rattle.records.specs.Record.{name_at}
use Rattle.records.specs.Count.{good_counts}
use Rattle.records.proofs.Ranged.{every-all}
use Rattle.records_rows.proofs.count.counts_are_good.Goals as goal

pub returns : goal.returns
returns c = record {
  result = every-all (λ k n. good_counts n (get_or c.args.reads.now k 0) (get_or c.args.targets.now k 0)) (name_at c.args.file.now) 12 0 c.args.names c.args.names 24 24 (omega arith) (omega arith) _ _ _ c.all.ensures.ran refl (λ x q k. search (rules, tests)) (λ x q k. search (rules, tests));
}
