use Rattle.statements_progress.proofs.Listing.{Listing}
use Rattle.statements_progress.proofs.folded.list_folded.Given as goal

abbrev pub invariant-loop-last : goal.invariant-loop-last
invariant-loop-last l = Listing l.declarators l.left l.many l.folds l.initial.folded l.folded l.last
