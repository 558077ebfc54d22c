use Rattle.records.specs.File.{nodes_start}
use Rattle.records_refusal.proofs.Scans.{Asking}
use Rattle.records_refusal.proofs.scan.nodes_are_good.Given as goal

abbrev pub invariant-loop-before : goal.invariant-loop-before
invariant-loop-before l = Asking l.file.bytes.now l.file.header.names (nodes_start l.file.header) l.count l.initial.stack l.initial.reads l.initial.targets l.stack l.reads l.targets l.left

abbrev pub decreases-loop-before : goal.decreases-loop-before
decreases-loop-before l = l.left
