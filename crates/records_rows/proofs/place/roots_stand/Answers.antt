use mathlib.Core.Path.{◌≡◌, ◌∙◌}
use Prim.Native.Nat.{◌+◌, ◌-◌}
use native.Mathlib.Omega.{arith}
use lib.ListN.{take, drop}
use mathlib.Core.Bool.{true, false}
use borrow.Author.Tests.{tests}
use Rattle.std.proofs.Common.{rules}
use Rattle.std.proofs.lemmas.Iterator.{YieldsList-from_slice, cases_from_all}
use Rattle.records.proofs.Listed.{every-listed}
use Rattle.records_rows.specs.Stack.{root_stands}
use Rattle.records_rows.proofs.Stacks.{entries_part}
use Rattle.records_rows.proofs.place.roots_stand.Goals as goal

pub returns : goal.returns
returns c = let e : c.args.top + c.args.count - c.args.top ≡ c.args.count = omega arith in record {
  result = rw (entries_part c.args.stack.now c.args.count c.args.top c.requires.room)
      (every-listed root_stands _ 0 _ (cases_from_all _ _ _ (λ x. root_stands x ≡ true) (λ x. root_stands x ≡ false) c.all.ensures.ran (YieldsList-from_slice (take c.args.count (drop c.args.top c.args.stack.now)) (c.iter.ensures.rest ∙ rw e)) (λ x q k. search (rules, tests)) (λ x q k. search (rules, tests))));
}
