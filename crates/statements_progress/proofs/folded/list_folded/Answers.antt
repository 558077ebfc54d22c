use native.Mathlib.Omega.{arith}
use Rattle.statements_progress.proofs.Listing.{listing_begins, listing_on, listing_ends}
use Rattle.statements_progress.proofs.folded.list_folded.Goals as goal

pub loop-last-init : goal.loop-last-init
loop-last-init c = listing_begins c.args.declarators.now c.args.left c.args.many c.args.folds c.args.folded.now c.requires.many

pub loop-last-preserved : goal.loop-last-preserved
loop-last-preserved c = listing_on c.loop-last.invariant c.declarator_at-d.result _ (omega (arith, c.loop-last.auto.last, c.loop-last-test.true)) c.loop-last.auto.last c.loop-last-test.true c.declarator_at-d.ensures.result

pub returns : goal.returns
returns c = record { listed = listing_ends c.loop-last.invariant (omega (arith, c.loop-last-test.false)) }
