use mathlib.Core.Path.{refl}
use Rattle.records.specs.Facts.{good_frame}
use Rattle.records_tests.proofs.facts.frame_is_good.Goals as goal

pub returns : goal.returns
unfolding good_frame
returns c = record { result = refl }
