use mathlib.Core.Path.{refl}
use Prim.Native.Nat.{◌+◌, ◌-◌}
use native.Mathlib.Omega.{arith}
use borrow.Author.Tests.{tests}
use Rattle.std.proofs.Common.{rules}
use Rattle.records.specs.Sets.{is_in}
use Rattle.records.proofs.Ranged.{every-all}
use Rattle.records_rows.specs.Stack.{entry_at}
use Rattle.records_rows.proofs.Standings.{first-in, first_out}
use Rattle.records_rows.proofs.place.children_stand.Goals as goal

pub returns-then-has_bit : goal.returns-then-has_bit
unfolding entry_at
returns-then-has_bit c = record {
  result = first-in c.args.stack.now c.args.first c.args.later c.args.count c.args.top c.requires.some c.has_bit.ensures.result c.if-has_bit.true
      (every-all (λ k. is_in c.args.later) (entry_at c.args.stack.now) 1 1 c.args.count (c.args.count - 1) c.args.top (c.args.top + 1) (omega arith) (omega arith) _ _ _ c.all.ensures.ran refl (λ x q k. search (rules, tests)) (λ x q k. search (rules, tests)));
}

pub returns-else-has_bit : goal.returns-else-has_bit
returns-else-has_bit c = record { result = first_out c.args.stack.now c.args.first c.args.later c.args.count c.args.top c.requires.some c.has_bit.ensures.result c.if-has_bit.false }
