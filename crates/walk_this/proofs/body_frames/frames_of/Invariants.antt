use mathlib.Core.Path.{◌≡◌}
use Prim.Native.Nat.{◌≤◌}
use lib.ListN.{length, take}
use Rattle.records.specs.Record.{frame_at}
use Rattle.records.specs.Records.{records_from}
use Rattle.walk_this.proofs.body_frames.frames_of.Given as goal

abbrev pub invariant-loop-i : goal.invariant-loop-i
invariant-loop-i l = (l.i ≤ l.count) × (length l.frames ≡ 16) × (take l.i l.frames ≡ records_from (frame_at l.file) 8 l.i l.from)
