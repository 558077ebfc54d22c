use mathlib.Core.Path.{refl}
use native.Mathlib.Omega.{arith}
use borrow.Author.Tests.{tests}
use Rattle.std.proofs.Common.{rules}
use Rattle.records.specs.Record.{frame_at}
use Rattle.records.specs.Facts.{good_frame}
use Rattle.records.proofs.Ranged.{every-all}
use Rattle.records_tests.proofs.facts.frames_are_good.Goals as goal

pub returns : goal.returns
returns c = record {
  result = every-all (λ k. good_frame c.args.scopes) (frame_at c.args.frames.now.file.now) 8 0 c.args.frames.now.count c.args.frames.now.count c.args.frames.now.from c.args.frames.now.from (omega arith) (omega arith) _ _ _ c.all.ensures.ran refl (λ x q k. search (rules, tests)) (λ x q k. search (rules, tests));
}
