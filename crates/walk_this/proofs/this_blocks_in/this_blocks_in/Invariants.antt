use Rattle.std.specs.Slice.Iter.{iter_rest}
use Rattle.walk_this.proofs.Searching.{Searched}
use Rattle.walk_this.proofs.this_blocks_in.this_blocks_in.Given as goal

abbrev pub invariant-loop-f : goal.invariant-loop-f
invariant-loop-f l = Searched l.this_scope.0 l.position l.frames (iter_rest l.f-iterator.iter) l.uninitialised
