-- What is asked of a tree that is searched.
use Prim.Native.Nat.{◌≤◌}
use mathlib.Core.Bool.{true}
use mathlib.Core.List.{List}
use mathlib.Core.Path.{◌≡◌}
use Rattle.records.specs.Tree.{Tree, Trees}
use Rattle.records.specs.Place.{placed, all_placed}
use Rattle.records.specs.declared.layout.NameFacts.{NameFacts}
use Rattle.theory_preservation.proofs.Uses.{reads, all_reads, targets, all_targets}
use Rattle.theory_preservation.proofs.Setting.{Setting}
use Rattle.theory_preservation.proofs.WellMade.{well_made, all_well_made}
use Rattle.theory_preservation.proofs.Aims.{ThisKnown, AllThisKnown}

module _ {Value Rest : Type 0} (σ : Setting Value Rest) where
  open σ use {file, v}

  abbrev names : List NameFacts
  names = file.names

  -- What is asked of a tree that is searched: v is read at most once in it and is no target; it is well made.
  abbrev pub Asked : Tree → Type 0
  Asked t = (reads v t ≤ 1) × (targets v t ≡ 0) × (placed t ≡ true) × (well_made names t ≡ true) × ThisKnown σ t

  abbrev pub AllAsked : Trees → Type 0
  AllAsked ts = (all_reads v ts ≤ 1) × (all_targets v ts ≡ 0) × (all_placed ts ≡ true) × (all_well_made names ts ≡ true) × AllThisKnown σ ts
