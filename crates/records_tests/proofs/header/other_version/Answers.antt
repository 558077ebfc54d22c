use mathlib.Core.Path.{refl}
use Rattle.records.specs.Header.{other_version}
use Rattle.records_tests.proofs.header.other_version.Goals as goal

pub returns : goal.returns
unfolding other_version
returns c = record { result = refl }
