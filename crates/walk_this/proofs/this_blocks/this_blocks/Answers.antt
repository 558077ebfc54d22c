use mathlib.Core.Path.{◌≡◌}
use native.Mathlib.Omega.{arith}
use Prim.Native.Nat.{◌+◌, ◌-◌}
use Rattle.std.proofs.lemmas.Bool.{eq-eqb, ne_eqb}
use Rattle.records.specs.Record.{frame_at}
use Rattle.records.proofs.Series.{records-length}
use Rattle.walk_this.proofs.LastRecord.{last_record}
use Rattle.walk_this.proofs.Searching.{searched-none, searched_more, searched-found, searched-all}
use Rattle.walk_this.proofs.this_blocks.this_blocks.Goals as goal

pub loop-i-init : goal.loop-i-init
loop-i-init c = searched-none

pub returns-then-f-this_scope : goal.returns-then-f-this_scope
returns-then-f-this_scope c =
    let back : c.loop-i.i ≡ c.loop-i.i - 1 + 1 = omega arith in
    record {
      result = searched-found _ c.frame_at-f.result (rw (back, last_record, ← c.frame_at-f.ensures.result) at c.loop-i.invariant) c.is_initialised_at.ensures.result
          (eq-eqb _ _ c.if-f-this_scope.true) (ne_eqb _ _ c.if-this_scope-eq-NO_NUMBER.false);
    }

pub loop-i-preserved : goal.loop-i-preserved
loop-i-preserved c =
    let back : c.loop-i.i ≡ c.loop-i.i - 1 + 1 = omega arith in
    searched_more _ c.frame_at-f.result (rw (back, last_record, ← c.frame_at-f.ensures.result) at c.loop-i.invariant) c.is_initialised_at.ensures.result
    (ne_eqb _ _ c.if-f-this_scope.false)

pub returns : goal.returns
returns c = record {
  result = searched-all _ (omega (arith, records-length (frame_at c.args.frames.now.file.now) 8 c.loop-i.i c.args.frames.now.from)) c.loop-i.invariant
      (ne_eqb _ _ c.if-this_scope-eq-NO_NUMBER.false);
}
