use Rattle.records.specs.Record.{frame_at}
use Rattle.records.specs.Records.{records_from}
use Rattle.walk_this.proofs.Searching.{Searched}
use Rattle.walk_this.proofs.this_blocks.this_blocks.Given as goal

abbrev pub invariant-loop-i : goal.invariant-loop-i
invariant-loop-i l =
    Searched l.this_scope.0 l.position (records_from (frame_at l.file) 8 l.count l.from) (records_from (frame_at l.file) 8 l.i l.from) l.uninitialised
