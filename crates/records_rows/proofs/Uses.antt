-- The uses of names in a forest, record by record. Assumes nothing.
use mathlib.Core.Path.{◌≡◌, refl, ap, ◌∙◌}
use mathlib.Core.Bool.{cond}
use mathlib.Core.List.{List, [], ◌∷◌}
use Prim.Native.Nat.{ℕ, zero, suc, ◌+◌, ◌≤◌}
use native.Mathlib.Omega.{arith}
use native.Mathlib.Nat.{add_assoc, zero-add}
use lib.ListN.{length}
use lib.Dec.{eqb, eqb-suc-zero}
use Rattle.records.specs.Limits.{no_number}
use Rattle.records.specs.File.{one}
use Rattle.records.specs.Tree.{Node, Trees, none, more, firsts, others, node_of, grown, forest_of}
use Rattle.records.specs.Count.{first_target, name_read, uses_in, uses_of}
use Rattle.records.specs.declared.layout.NodeRecord.{NodeRecord}
use Rattle.records.proofs.Tests.{one-most}
use Rattle.records_rows.specs.Tally.{head_target, record_read}

module _ (named : Node → Trees → ℕ) (name : ℕ) where
  uses_split : (k : ℕ) (ts : Trees) → uses_of named name (firsts k ts) + uses_of named name (others k ts) ≡ uses_of named name ts
  unfolding uses_of firsts others
  uses_split zero ts = zero-add (uses_of named name ts)
  uses_split (suc k) none = refl
  uses_split (suc k) (more t ts) = add_assoc (uses_in named name t) _ _ ∙ ap (λ (m : ℕ). uses_in named name t + m) (uses_split k ts)

  -- one record more
  pub uses-grown : (r : NodeRecord) (forest : Trees)
      → uses_of named name (grown r forest) ≡ one (eqb (named (node_of r) (firsts r.children forest)) name) + uses_of named name forest
  unfolding grown uses_of
  uses-grown r forest =
      add_assoc (one (eqb (named (node_of r) (firsts r.children forest)) name)) _ _
      ∙ ap (λ (m : ℕ). one (eqb (named (node_of r) (firsts r.children forest)) name) + m) (uses_split r.children forest)

  -- no more uses than records
  pub uses-most : (rs : List NodeRecord) → uses_of named name (forest_of rs) ≤ length rs
  unfolding forest_of uses_of
  uses-most [] = omega arith
  uses-most (r ∷ rs) =
      omega (arith, uses-grown r (forest_of rs), uses-most rs, one-most (eqb (named (node_of r) (firsts r.children (forest_of rs))) name))

-- the first child's target is that of the next record
first-target : (c : ℕ) (rs : List NodeRecord) → first_target (firsts c (forest_of rs)) ≡ cond (eqb c 0) no_number (head_target rs)
unfolding first_target firsts forest_of head_target grown
first-target zero rs = refl
first-target (suc c) [] = rw (eqb-suc-zero c)
first-target (suc c) (r ∷ rs) = rw (eqb-suc-zero c)

pub read_record : (r : NodeRecord) (rs : List NodeRecord) → name_read (node_of r) (firsts r.children (forest_of rs)) ≡ record_read r (head_target rs)
unfolding name_read record_read node_of
read_record r rs = rw (first-target r.children rs)
