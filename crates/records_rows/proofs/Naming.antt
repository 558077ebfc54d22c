-- The names that one node uses. Assumes nothing.
use mathlib.Core.Path.{◌≡◌, refl}
use mathlib.Core.Bool.{Bool, true, false, cond, ◌&&◌, and-false}
use mathlib.Core.List.{List}
use Prim.Native.Nat.{ℕ, ◌+◌, ◌≤◌}
use lib.ListN.{length, get_or}
use lib.Dec.{eqb}
use borrow.Author.Tests.{eq-eqb, ne_eqb}
use Rattle.records.specs.Flags.{compound}
use Rattle.records.specs.File.{one}
use Rattle.records.specs.Node.{is_named}
use Rattle.records.specs.Tree.{node_of}
use Rattle.records.specs.Count.{target_name}
use Rattle.records.specs.declared.layout.NodeRecord.{NodeRecord}
use Rattle.records.proofs.Tests.{neither}
use Rattle.records_rows.specs.Tally.{Tally, record_read}
use Rattle.records_rows.proofs.Tallies.{not_added}

either-none : (b : Bool) (m : ℕ) → cond b m m ≡ m
either-none true m = refl
either-none false m = refl

module _ (n : NodeRecord) (next : ℕ) where
  pub read_name : n.kind ≡ 4 → record_read n next ≡ n.label
  unfolding record_read
  read_name e = rw (eq-eqb n.kind 4 e)

  pub read-leaf : (n.kind ≡ 4 → ⊥) → n.children ≡ 0 → record_read n next ≡ 65535
  unfolding record_read
  read-leaf h e = rw (ne_eqb n.kind 4 h, eq-eqb n.children 0 e) (either-none (eqb n.kind 20 && compound n.flags) 65535)

  pub read_plain : is_named n.kind ≡ false → compound n.flags ≡ false → record_read n next ≡ 65535
  unfolding record_read
  read_plain u h = rw ((neither (eqb n.kind 4) (eqb n.kind 29) u).0, h, and-false (eqb n.kind 20))

  pub read-compound : (n.children ≡ 0 → ⊥) → n.kind ≡ 20 → compound n.flags ≡ true → record_read n next ≡ next
  unfolding record_read
  read-compound c k f = rw (k, f, ne_eqb n.children 0 c)

module _ (n : NodeRecord) where
  pub target-named : n.kind ≡ 29 → target_name (node_of n) ≡ n.label
  unfolding target_name node_of
  target-named e = rw (eq-eqb n.kind 29 e)

  pub target_none : (n.kind ≡ 29 → ⊥) → target_name (node_of n) ≡ 65535
  unfolding target_name node_of
  target_none h = rw (ne_eqb n.kind 29 h)

  pub target-unnamed : is_named n.kind ≡ false → target_name (node_of n) ≡ 65535
  unfolding target_name node_of
  target-unnamed u = rw (neither (eqb n.kind 4) (eqb n.kind 29) u).1

-- an array in which a name has no place
pub none-used : (name : ℕ) (xs : List ℕ) → name ≡ 65535 → length xs ≤ 65535 → Tally (λ k. one (eqb name k) + get_or xs k 0) xs
none-used name xs e l = rw e (not_added xs 65535 l)
