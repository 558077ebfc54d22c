-- A fold keeps each child where it may stand: row 8 of the refusal table, for the tree that a search makes.
use Prim.Native.Nat.{ℕ, ◌+◌}
use mathlib.Core.Bool.{Bool, true, false, cond, ◌&&◌, ◌||◌, not, or-true}
use mathlib.Core.Path.{◌≡◌, refl, sym, ap, subst}
use lib.Dec.{eqb}
use borrow.Author.Tests.{eqb-true}
use Rattle.records.specs.Flags.{optional, shorthand}
use Rattle.records.specs.Node.{is_chain_element}
use Rattle.records.specs.Tree.{Node, Tree, Trees, node, none, more}
use Rattle.records.specs.Place.{root, is_expression, may_stand, unchained, unchained_first, may_be_unchained, stand_under, placed, all_placed}
use Rattle.records.proofs.Tests.{clash, both as both_hold}
use Rattle.walk_rules.specs.Shape.{is, cleared}
use Rattle.walk_rules.specs.Substitute.{at, preserve_indirect_access, is_specific_id}
use Rattle.theory_preservation.proofs.Tables.{unshort, walked_cleared, link_cleared}
use Rattle.theory_preservation.proofs.At.{placed_at}
use Rattle.theory_preservation.proofs.Kept.{stands, under as below, in_row}
use Rattle.theory_preservation.proofs.Turned.{Turned, same, here, apart, under, AllTurned, no_more, both}
use Rattle.theory_preservation.proofs.Uses.{specific}

-- Where the name may stand, so may any expression, its parent's shorthand cleared.
rows : (a b c d e f x y z : Bool) → cond a false (cond b false (cond c false (cond d true (cond e true (cond f true true))))) ≡ true → cond a x (cond b y (cond c z (cond e true (cond f true true)))) ≡ true
rows true b c d e f x y z h = clash false refl h
rows false true c d e f x y z h = clash false refl h
rows false false true d e f x y z h = clash false refl h
rows false false false d true f x y z h = refl
rows false false false d false true x y z h = refl
rows false false false d false false x y z h = refl

name-rows : (n : Node) (i : ℕ) → may_stand n.kind n.flags i 4 ≡ true → cond (is 22 n) false (cond (is 13 n) false (cond (is 20 n && eqb i 0) false (cond (is 26 n && shorthand n.flags) true (cond (is 21 n) true (cond ((is 14 n || is 15 n) && not (eqb i 0)) true true))))) ≡ true
unfolding may_stand is_expression
name-rows n i h = h

unshort-here : (n : Node) → (is 26 n && shorthand (cleared n).flags) ≡ false
unshort-here n = subst (λ c. (is 26 n && shorthand c.flags) ≡ false) (sym (walked_cleared n)) (unshort n)

any-expression : (n : Node) (i k : ℕ) → may_stand n.kind n.flags i 4 ≡ true → is_expression k ≡ true → may_stand n.kind (cleared n).flags i k ≡ true
unfolding may_stand
any-expression n i k h e = rw (unshort-here n, e) (rows (is 22 n) (is 13 n) (is 20 n && eqb i 0) (is 26 n && shorthand n.flags) (is 21 n) ((is 14 n || is 15 n) && not (eqb i 0)) _ _ _ (name-rows n i h))

-- What stood there still may.
other-rows : (b : Bool) (n : Node) (i k : ℕ) → (is 26 n && shorthand n.flags) ≡ b → may_stand n.kind n.flags i k ≡ true → may_stand n.kind (cleared n).flags i k ≡ true
other-rows true n i k e h = any-expression n i k (subst (λ x. may_stand n.kind n.flags i x ≡ true) (is_name n i k e h) h) (subst (λ x. is_expression x ≡ true) (sym (is_name n i k e h)) (unfold is_expression in refl))
  where
    is_name : (n : Node) (i k : ℕ) → (is 26 n && shorthand n.flags) ≡ true → may_stand n.kind n.flags i k ≡ true → k ≡ 4
    is_name n i k e h = let (p, q) = both_hold (is 26 n) (shorthand n.flags) e in eqb-true k 4 (unfold may_stand in (rw (eqb-true n.kind 26 p, q) at h))
other-rows false n i k e h = unfold cleared in rw e h

pub still-stands : (n : Node) (i k : ℕ) → may_stand n.kind n.flags i k ≡ true → may_stand n.kind (cleared n).flags i k ≡ true
still-stands n i k h = other-rows (is 26 n && shorthand n.flags) n i k refl h

at-kind : (p : ℕ) (t : Tree) → (root (at p t)).kind ≡ (root t).kind
unfolding at
at-kind p (node n ts) = refl

apart-kind : (t : Tree) → (root (preserve_indirect_access t)).kind ≡ 28
unfolding preserve_indirect_access
apart-kind (node n ts) = refl

at-unchained : (p : ℕ) (t : Tree) → unchained (at p t) ≡ unchained t
unfolding at unchained
at-unchained p (node n ts) = refl

at_row : (p : ℕ) (n : Node) (i : ℕ) (ts : Trees) → stand_under (placed_at p n) i ts ≡ stand_under n i ts
unfolding stand_under placed_at
at_row p n i none = refl
at_row p n i (more t ts) = ap (λ b. (may_stand n.kind n.flags i (root t).kind && (not (unchained t) || may_be_unchained n.kind i)) && b) (at_row p n (i + 1) ts)

at-placed : (p : ℕ) (t : Tree) → placed (at p t) ≡ placed t
unfolding at placed placed_at
at-placed p (node n ts) = ap (λ b. b && all_placed ts) (at_row p n 0 ts)

apart-unchained : (t : Tree) → unchained (preserve_indirect_access t) ≡ false
unfolding preserve_indirect_access unchained
apart-unchained (node n ts) = refl

name-chained : (t : Tree) → (root t).kind ≡ 4 → unchained t ≡ false
unfolding unchained
name-chained (node n ts) e = rw e

apart-placed : (t : Tree) → is_expression (root t).kind ≡ true → unchained t ≡ false → placed t ≡ true → placed (preserve_indirect_access t) ≡ true
unfolding preserve_indirect_access placed stand_under may_stand is_expression unchained
apart-placed (node n ts) e l p = rw (e, l, p)

optional-cleared : (n : Node) → (is_chain_element n.kind && optional (cleared n).flags) ≡ (is_chain_element n.kind && optional n.flags)
optional-cleared n = subst (λ c. (is_chain_element n.kind && optional c.flags) ≡ (is_chain_element n.kind && optional n.flags)) (sym (walked_cleared n)) (link_cleared n)

unchained-by : (l o o' x x' : Bool) → (l && o') ≡ (l && o) → (x ≡ false → x' ≡ false) → (l && (o || x)) ≡ false → (l && (o' || x')) ≡ false
unchained-by true true o' x x' e h g = clash true g refl
unchained-by true false o' x x' e h g = rw (e, h g)
unchained-by false o o' x x' e h g = refl

unchained-node : (n : Node) (ts ts' : Trees) → (unchained_first ts ≡ false → unchained_first ts' ≡ false) → unchained (node n ts) ≡ false → unchained (node (cleared n) ts') ≡ false
unfolding unchained
unchained-node n ts ts' h g = kind-same (unchained-by (is_chain_element n.kind) (optional n.flags) (optional (cleared n).flags) (unchained_first ts) (unchained_first ts') (optional-cleared n) h g)
  where
    kind-same : (is_chain_element n.kind && (optional (cleared n).flags || unchained_first ts')) ≡ false → (is_chain_element (cleared n).kind && (optional (cleared n).flags || unchained_first ts')) ≡ false
    kind-same e = unfold cleared in e

-- r is an expression that stands well, and cuts short no chain around it.
module _ (v : ℕ) (r : Tree) (fit : is_expression (root r).kind ≡ true) (well : placed r ≡ true) (chained : unchained r ≡ false) where
  kind_28 : is_expression 28 ≡ true
  unfolding is_expression
  kind_28 = refl

  -- the kind at the root: the same, or any expression's where it was the name's
  pub stands-turned : {k : ℕ} {t u : Tree} → Turned v r k t u → (n : Node) (i : ℕ) → may_stand n.kind n.flags i (root t).kind ≡ true → may_stand n.kind (cleared n).flags i (root u).kind ≡ true
  stands-turned (same e p) n i h = rw p (still-stands n i _ h)
  stands-turned (here {n = x} e g p) n i h = rw (p, at-kind x.position r) (any-expression n i (root r).kind (rw (specific v x g).0 at h) fit)
  stands-turned (apart {t = t} t' e g w p) n i h = rw (p, apart-kind t') (any-expression n i 28 (rw (specific v (root t) g).0 at h) kind_28)
  stands-turned (under {n = x} ts' w p) n i h = rw p (unfold cleared in still-stands n i x.kind h)

  pub expression-turned : {k : ℕ} {t u : Tree} → Turned v r k t u → is_expression (root t).kind ≡ true → is_expression (root u).kind ≡ true
  expression-turned (same e p) h = rw p h
  expression-turned (here {n = x} e g p) h = rw (p, at-kind x.position r) fit
  expression-turned (apart {t = t} t' e g w p) h = rw (p, apart-kind t') kind_28
  expression-turned (under {n = x} ts' w p) h = rw p (unfold cleared in h)

  firstly : (t : Tree) (ts : Trees) → unchained_first (more t ts) ≡ unchained t
  unfolding unchained
  firstly t ts = refl

  mutual
    pub unchained-turned : {k : ℕ} {t u : Tree} → Turned v r k t u → unchained t ≡ false → unchained u ≡ false
    unchained-turned (same e p) h = rw p h
    unchained-turned (here {n = x} e g p) h = rw (p, at-unchained x.position r) chained
    unchained-turned (apart t' e g w p) h = rw p (apart-unchained t')
    unchained-turned (under {n = x} {ts = ts} ts' w p) h = rw p (unchained-node x ts ts' (λ q. first-turned w q) h)

    first-turned : {k : ℕ} {ts us : Trees} → AllTurned v r k ts us → unchained_first ts ≡ false → unchained_first us ≡ false
    first-turned (no_more e) h = h
    first-turned (both {t = t} {t' = t'} {ts = ts} {ts' = ts'} i j e w g) h = rw (firstly t' ts') (unchained-turned w (rw (firstly t ts) at h))

  unchained_or : (x y z : Bool) → (x ≡ false → y ≡ false) → (not x || z) ≡ true → (not y || z) ≡ true
  unchained_or false y z h e = rw (h refl)
  unchained_or true y true h e = or-true (not y)
  unchained_or true y false h e = clash false refl e

  stand-more : (n : Node) (i : ℕ) (t t' : Tree) (ts' : Trees) → may_stand n.kind (cleared n).flags i (root t').kind ≡ true → (not (unchained t') || may_be_unchained n.kind i) ≡ true → stand_under (cleared n) (i + 1) ts' ≡ true → stand_under (cleared n) i (more t' ts') ≡ true
  unfolding stand_under cleared
  stand-more n i t t' ts' a b c = rw (a, b, c)

  stand-none : (n : Node) (i : ℕ) → stand_under n i none ≡ true
  unfolding stand_under
  stand-none n i = refl

  place-node : (n : Node) (ts : Trees) → stand_under n 0 ts ≡ true → all_placed ts ≡ true → placed (node n ts) ≡ true
  unfolding placed
  place-node n ts a b = rw (a, b)

  place-more : (t : Tree) (ts : Trees) → placed t ≡ true → all_placed ts ≡ true → all_placed (more t ts) ≡ true
  unfolding placed
  place-more t ts a b = rw (a, b)

  name-expression : (v : ℕ) (t : Tree) → is_specific_id v (root t) ≡ true → is_expression (root t).kind ≡ true
  unfolding is_expression
  name-expression v t e = rw (specific v (root t) e).0

  row-turned : {k : ℕ} {ts us : Trees} → AllTurned v r k ts us → (n : Node) (i : ℕ) → stand_under n i ts ≡ true → stand_under (cleared n) i us ≡ true
  row-turned (no_more e) n i h = stand-none (cleared n) i
  row-turned (both {t = t} {t' = t'} {ts = ts} {ts' = ts'} a b e w g) n i h =
      let (x, y, z) = stands n i t ts h in
      stand-more n i t t' ts' (stands-turned w n i x) (unchained_or (unchained t) (unchained t') (may_be_unchained n.kind i) (λ q. unchained-turned w q) y) (row-turned g n (i + 1) z)

  mutual
    -- each child stands where it may
    pub placed-turned : {k : ℕ} {t u : Tree} → Turned v r k t u → placed t ≡ true → placed u ≡ true
    placed-turned (same e p) h = rw p h
    placed-turned (here {n = x} e g p) h = rw (p, at-placed x.position r) well
    placed-turned (apart {t = t} t' e g w p) h = rw p (apart-placed t' (expression-turned w (name-expression v t g)) (unchained-turned w (name-chained t (specific v (root t) g).0)) (placed-turned w h))
    placed-turned (under {n = x} {ts = ts} ts' w p) h = rw p (place-node (cleared x) ts' (row-turned w x 0 (below x ts h).0) (all-placed_turned w (below x ts h).1))

    pub all-placed_turned : {k : ℕ} {ts us : Trees} → AllTurned v r k ts us → all_placed ts ≡ true → all_placed us ≡ true
    all-placed_turned (no_more e) h = h
    all-placed_turned (both {t = t} {t' = t'} {ts = ts} {ts' = ts'} i j e w g) h = place-more t' ts' (placed-turned w (in_row t ts h).0) (all-placed_turned g (in_row t ts h).1)
