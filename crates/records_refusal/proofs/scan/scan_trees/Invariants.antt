use lib.ListN.{get_or}
use Rattle.records_refusal.proofs.Scans.{Going}
use Rattle.records_refusal.proofs.scan.scan_trees.Given as goal

abbrev pub invariant-loop-left : goal.invariant-loop-left
invariant-loop-left l = Going l.file.bytes.now l.file.header.names (get_or l.parts 3 0) l.count l.initial.stack l.initial.reads l.initial.targets l.stack l.reads l.targets l.top l.left
