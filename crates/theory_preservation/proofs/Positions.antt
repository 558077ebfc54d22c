-- A fold brings no position that neither the tree nor the initializer had.
use Prim.Native.Nat.{ℕ}
use mathlib.Core.Bool.{Bool, true, false, ◌||◌}
use mathlib.Core.Path.{◌≡◌, refl}
use Rattle.records.specs.Tree.{Node, Tree, Trees, node, none, more}
use Rattle.walk_rules.specs.Shape.{cleared as walked}
use Rattle.walk_rules.specs.Substitute.{at, preserve_indirect_access}
use Rattle.theory_runs.specs.Shapes.{some_in, some_of}
use Rattle.theory_preservation.proofs.Tests.{by_or, or_left, or_right}
use Rattle.theory_preservation.proofs.Turned.{Turned, same, here, apart, under, AllTurned, no_more, both}

regroup : (x y z : Bool) → (y || z) ≡ true → ((x || y) || z) ≡ true
regroup true y z e = refl
regroup false y z e = e

module _ (φ : ℕ → Bool) where
  -- a node at a position of this kind
  abbrev pub somewhere : Tree → Bool
  somewhere t = some_in (λ n kids. φ n.position) t

  abbrev pub some_forest : Trees → Bool
  some_forest ts = some_of (λ n kids. φ n.position) ts

  some_at : (n : Node) (ts : Trees) (t : Tree) → somewhere (at n.position t) ≡ true → (somewhere (node n ts) || somewhere t) ≡ true
  unfolding some_in at
  some_at n ts (node x us) h =
      by_or (φ n.position) (some_forest us) (λ e. or_left _ _ (or_left (φ n.position) (some_forest ts) e)) (λ e. or_right (φ n.position || some_forest ts) _ (or_right (φ x.position) (some_forest us) e)) h

  some-apart : (t : Tree) → somewhere (preserve_indirect_access t) ≡ true → somewhere t ≡ true
  unfolding some_in preserve_indirect_access
  some-apart (node n ts) h = by (φ n.position) (some_forest ts) h
    where
      by : (x y : Bool) → (x || ((x || false) || ((x || y) || false))) ≡ true → (x || y) ≡ true
      by true y e = refl
      by false true e = refl
      by false false e = e

  some-under : (n : Node) (ts us : Trees) (b : Bool) → (some_forest us ≡ true → (some_forest ts || b) ≡ true) → somewhere (node (walked n) us) ≡ true → (somewhere (node n ts) || b) ≡ true
  unfolding some_in walked
  some-under n ts us b g h =
      by_or (φ n.position) (some_forest us) (λ e. or_left _ b (or_left (φ n.position) (some_forest ts) e)) (λ e. regroup (φ n.position) (some_forest ts) b (g e)) h

  some-both : (t t' : Tree) (ts us : Trees) (b : Bool) → (somewhere t' ≡ true → (somewhere t || b) ≡ true) → (some_forest us ≡ true → (some_forest ts || b) ≡ true) → some_forest (more t' us) ≡ true → (some_forest (more t ts) || b) ≡ true
  unfolding some_in
  some-both t t' ts us b f g h = by_or (somewhere t') (some_forest us) (λ e. mix (somewhere t) (some_forest ts) b (f e)) (λ e. regroup (somewhere t) (some_forest ts) b (g e)) h
    where
      mix : (x y z : Bool) → (x || z) ≡ true → ((x || y) || z) ≡ true
      mix true y z e = refl
      mix false true z e = refl
      mix false false z e = e

  module _ {v : ℕ} {r : Tree} where
    mutual
      -- a position of the result is one of the tree or of the initializer
      pub some-turned : {k : ℕ} {t u : Tree} → Turned v r k t u → somewhere u ≡ true → (somewhere t || somewhere r) ≡ true
      some-turned (same {t = t} e p) h = or_left (somewhere t) (somewhere r) (rw p at h)
      some-turned (here {n = n} {ts = ts} e g p) h = some_at n ts r (rw p at h)
      some-turned (apart t' e g i p) h = some-turned i (some-apart t' (rw p at h))
      some-turned (under {n = n} {ts = ts} ts' i p) h = some-under n ts ts' (somewhere r) (λ e. row-turned i e) (rw p at h)

      row-turned : {k : ℕ} {ts us : Trees} → AllTurned v r k ts us → some_forest us ≡ true → (some_forest ts || somewhere r) ≡ true
      row-turned (no_more e) h = or_left (some_forest none) (somewhere r) h
      row-turned (both {t = t} {t' = t'} {ts = ts} {ts' = ts'} i j e a b) h = some-both t t' ts ts' (somewhere r) (λ e. some-turned a e) (λ e. row-turned b e) h
