-- Trees and the preorder of their records. Assumes nothing.
use mathlib.Core.Path.{◌≡◌, refl, sym, ap, ap₂, ◌∙◌}
use mathlib.Core.Bool.{Bool, true}
use mathlib.Core.List.{List, [], ◌∷◌, ◌++◌, append-nil}
use Prim.Native.Nat.{ℕ, ◌+◌, ◌≤◌}
use native.Mathlib.Omega.{arith}
use lib.ListN.{length}
use lib.Dec.{eqb, leb}
use borrow.Author.Tests.{leb-true, le-leb, eqb-true}
use Rattle.records.specs.Records.{every}
use Rattle.records.specs.Tree.{Tree, Trees, node, none, more, count, size, sizes, joined, firsts, others, record_of, node_of, preorder, preorders, grown, forest_of, closed}
use Rattle.records.specs.declared.layout.NodeRecord.{NodeRecord}
use Rattle.records.proofs.Tests.{both, every_cons, every-parts}
use Rattle.records_laws.proofs.Forests.{count-joined, joined-none, firsts-joined, others-joined, joined-cut, count-firsts, sizes-cut}

-- the records of two forests joined
pub preorders-joined : (ts us : Trees) (rest : List NodeRecord) → preorders (joined ts us) rest ≡ preorders ts (preorders us rest)
unfolding joined preorders
preorders-joined none us rest = refl
preorders-joined (more t ts) us rest = ap (preorder t) (preorders-joined ts us rest)

-- a record for each node
mutual
  unfolding preorder preorders size sizes

  pub preorder-length : (t : Tree) (rest : List NodeRecord) → length (preorder t rest) ≡ size t + length rest
  preorder-length (node n kids) rest = omega (arith, preorders-length kids rest)

  pub preorders-length : (ts : Trees) (rest : List NodeRecord) → length (preorders ts rest) ≡ sizes ts + length rest
  preorders-length none rest = omega arith
  preorders-length (more t ts) rest = omega (arith, preorder-length t (preorders ts rest), preorders-length ts rest)

-- what stands behind the records stays behind them
mutual
  unfolding preorder preorders

  pub preorder-append : (t : Tree) (rs rest : List NodeRecord) → preorder t (rs ++ rest) ≡ preorder t rs ++ rest
  preorder-append (node n kids) rs rest = ap (λ (qs : List NodeRecord). record_of n (count kids) ∷ qs) (preorders-append kids rs rest)

  pub preorders-append : (ts : Trees) (rs rest : List NodeRecord) → preorders ts (rs ++ rest) ≡ preorders ts rs ++ rest
  preorders-append none rs rest = refl
  preorders-append (more t ts) rs rest = ap (preorder t) (preorders-append ts rs rest) ∙ preorder-append t (preorders ts rs) rest

-- From trees to records and back: the forest of the records is the trees, before the forest of what follows.
mutual
  unfolding preorder preorders forest_of grown joined record_of node_of

  pub forest_of-preorder : (t : Tree) (rest : List NodeRecord) → forest_of (preorder t rest) ≡ more t (forest_of rest)
  forest_of-preorder (node n kids) rest = rw (forest_of-preorders kids rest, firsts-joined kids (forest_of rest), others-joined kids (forest_of rest))

  pub forest_of-preorders : (ts : Trees) (rest : List NodeRecord) → forest_of (preorders ts rest) ≡ joined ts (forest_of rest)
  forest_of-preorders none rest = refl
  forest_of-preorders (more t ts) rest = forest_of-preorder t (preorders ts rest) ∙ ap (more t) (forest_of-preorders ts rest)

-- so it is with nothing behind them
pub forest_of_preorders-alone : (ts : Trees) → forest_of (preorders ts []) ≡ ts
unfolding forest_of
forest_of_preorders-alone ts = forest_of-preorders ts [] ∙ joined-none ts

-- the records of trees close, if those behind them do
mutual
  unfolding preorder preorders closed record_of

  pub closed-preorder : (t : Tree) (rest : List NodeRecord) → closed (preorder t rest) ≡ closed rest
  closed-preorder (node n kids) rest =
      rw (forest_of-preorders kids rest, count-joined kids (forest_of rest), le-leb (count kids) (count kids + count (forest_of rest)) (omega arith)) (closed-preorders kids rest)

  pub closed-preorders : (ts : Trees) (rest : List NodeRecord) → closed (preorders ts rest) ≡ closed rest
  closed-preorders none rest = refl
  closed-preorders (more t ts) rest = closed-preorder t (preorders ts rest) ∙ closed-preorders ts rest

-- so the records of trees alone close
pub closed_preorders-alone : (ts : Trees) → closed (preorders ts []) ≡ true
unfolding closed
closed_preorders-alone ts = closed-preorders ts []

-- a record whose zero field is zero, as in those of trees
abbrev pub zeroed : NodeRecord → Bool
zeroed r = eqb r.zero 0

mutual
  unfolding preorder preorders record_of

  pub zeroed-preorder : (t : Tree) (rest : List NodeRecord) → every zeroed (preorder t rest) ≡ every zeroed rest
  zeroed-preorder (node n kids) rest = every_cons zeroed (record_of n (count kids)) (preorders kids rest) ∙ zeroed-preorders kids rest

  pub zeroed-preorders : (ts : Trees) (rest : List NodeRecord) → every zeroed (preorders ts rest) ≡ every zeroed rest
  zeroed-preorders none rest = refl
  zeroed-preorders (more t ts) rest = zeroed-preorder t (preorders ts rest) ∙ zeroed-preorders ts rest

-- every record is a node, whether the records close or not
pub sizes-forest_of : (rs : List NodeRecord) → sizes (forest_of rs) ≡ length rs
unfolding forest_of grown sizes size
sizes-forest_of [] = refl
sizes-forest_of (r ∷ rs) = omega (arith, sizes-forest_of rs, sizes-cut r.children (forest_of rs))

-- a closed record finds its children, and what is behind it closes
closed_parts : (r : NodeRecord) (rs : List NodeRecord) → closed (r ∷ rs) ≡ true → (r.children ≤ count (forest_of rs)) × (closed rs ≡ true)
unfolding closed
closed_parts r rs c = let p = both (leb r.children (count (forest_of rs))) (closed rs) c in (leb-true r.children (count (forest_of rs)) p.0, p.1)

-- a record whose zero field is zero, from its node
record_again : (r : NodeRecord) (children : ℕ) → children ≡ r.children → r.zero ≡ 0 → record_of (node_of r) children ≡ r
unfolding record_of node_of
record_again r children e z = λ i. record { kind = r.kind; flags = r.flags; label = r.label; children = e i; zero = sym z i; position = r.position }

-- From records to trees and back: closed records whose zero fields are zero are those of their trees.
pub preorders-forest_of : (rs rest : List NodeRecord) → closed rs ≡ true → every zeroed rs ≡ true → preorders (forest_of rs) rest ≡ rs ++ rest
unfolding forest_of grown preorders preorder
preorders-forest_of [] rest c z = refl
preorders-forest_of (r ∷ rs) rest c z =
    let cs = closed_parts r rs c in
    let zs = every-parts zeroed r rs z in
    let kids = firsts r.children (forest_of rs) in
    let after = others r.children (forest_of rs) in
    let all = ap (λ (ts : Trees). preorders ts rest) (joined-cut r.children (forest_of rs)) ∙ preorders-forest_of rs rest cs.1 zs.1 in
    let many = count-firsts r.children (forest_of rs) cs.0 in
    let blank = eqb-true r.zero 0 zs.0 in
    ap₂ ◌∷◌ (record_again r (count kids) many blank) (sym (preorders-joined kids after rest) ∙ all)

-- so it is with nothing behind them
pub preorders_forest_of-alone : (rs : List NodeRecord) → closed rs ≡ true → every zeroed rs ≡ true → preorders (forest_of rs) [] ≡ rs
preorders_forest_of-alone rs c z = preorders-forest_of rs [] c z ∙ append-nil rs
