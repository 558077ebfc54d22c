use Rattle.std.proofs.Common.{◌+◌, ◌≤◌}
use Rattle.replay_answers.proofs.segment.segment_end.Given as goal

abbrev pub invariant-loop : goal.invariant-loop
invariant-loop l = (l.at + l.bytes ≤ l.end) × (l.end ≤ l.most)
