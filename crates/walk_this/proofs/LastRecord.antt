-- Records of bytes: the others and the last. Assumes nothing.
use mathlib.Core.Path.{◌≡◌}
use mathlib.Core.List.{[], ◌∷◌, ◌++◌}
use Prim.Native.Nat.{ℕ, ◌+◌, ◌*◌}
use Rattle.records.specs.Records.{records_from}
use Rattle.records_laws.proofs.Series.{records_from_add}

pub last_record : {A : Type 0} (readAt : ℕ → A) (len i from : ℕ)
    → records_from readAt len (i + 1) from ≡ records_from readAt len i from ++ readAt (from + len * i) ∷ []
unfolding records_from
last_record readAt len i from = records_from_add readAt len i 1 from
