use native.Mathlib.Omega.{arith}
use Rattle.std.proofs.lemmas.Bool.{eq-eqb, ne_eqb}
use Rattle.walk_this.proofs.Searching.{searched-none, searched_more, searched-found, searched-all}
use Rattle.walk_this.proofs.this_blocks_in.this_blocks_in.Goals as goal

pub loop-f-init : goal.loop-f-init
loop-f-init c = rw (c.into_iter-f-iterator.ensures.into_iter_gives, c.rev-f-items.ensures.source, c.iter.ensures.rest) searched-none

pub returns-then-f-this_scope : goal.returns-then-f-this_scope
returns-then-f-this_scope c = record {
  result = searched-found _ c.in-Some.f.now (rw c.in-Some.ensures.steps at c.loop-f.invariant) c.is_initialised_at.ensures.result
      (eq-eqb _ _ c.if-f-this_scope.true) (ne_eqb _ _ c.if-this_scope-eq-NO_NUMBER.false);
}

pub loop-f-preserved : goal.loop-f-preserved
loop-f-preserved c =
    searched_more _ c.in-Some.f.now (rw c.in-Some.ensures.steps at c.loop-f.invariant) c.is_initialised_at.ensures.result (ne_eqb _ _ c.if-f-this_scope.false)

pub returns : goal.returns
returns c = record { result = searched-all _ (omega (arith, c.in-None.ensures.steps.0)) c.loop-f.invariant (ne_eqb _ _ c.if-this_scope-eq-NO_NUMBER.false) }
