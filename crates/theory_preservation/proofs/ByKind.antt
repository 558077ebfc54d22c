-- Forms and kinds: names, chains, expressions, links.
use Prim.Native.Nat.{ℕ}
use mathlib.Core.Bool.{Bool, true, false, ◌||◌}
use mathlib.Core.Path.{◌≡◌, refl}
use lib.Dec.{eqb, ltb}
use borrow.Author.Tests.{eqb-true, eq-eqb, ne_eqb}
use Rattle.records.specs.Node.{is_chain_element}
use Rattle.records.specs.Tree.{Node, Tree, Trees, more}
use Rattle.records.specs.Place.{root, is_expression, may_stand, stand_under}
use Rattle.records.proofs.Tests.{clash, neither}
use Rattle.walk_rules.specs.Shape.{is_member_expression}
use Rattle.theory_runs.specs.Form.{is, cleared, Form, constant, name, target_name, leaf, chain, property, importing, sequence, assignment, stepping, form, order, is_name, is_chain}
use Rattle.theory_preservation.proofs.Tests.{by_or}
use Rattle.theory_preservation.proofs.Tables.{kinds_of, kinds, name-form}
use Rattle.theory_preservation.proofs.Kept.{stands}

-- a form and its kind
named_by : (f : Form) (n : Node) → kinds_of f n ≡ true → is_name f ≡ true → is 4 n ≡ true
unfolding kinds_of is_name order
named_by constant n k e = clash false refl e
named_by name n k e = k
named_by target_name n k e = clash false refl e
named_by leaf n k e = clash false refl e
named_by chain n k e = clash false refl e
named_by property n k e = clash false refl e
named_by importing n k e = clash false refl e
named_by sequence n k e = clash false refl e
named_by (assignment true) n k e = clash false refl e
named_by (assignment false) n k e = clash false refl e
named_by (stepping c) n k e = clash false refl e

chained-by : (f : Form) (n : Node) → kinds_of f n ≡ true → is_chain f ≡ true → is 13 n ≡ true
unfolding kinds_of is_chain order
chained-by constant n k e = clash false refl e
chained-by name n k e = clash false refl e
chained-by target_name n k e = clash false refl e
chained-by leaf n k e = clash false refl e
chained-by chain n k e = k
chained-by property n k e = clash false refl e
chained-by importing n k e = clash false refl e
chained-by sequence n k e = clash false refl e
chained-by (assignment true) n k e = clash false refl e
chained-by (assignment false) n k e = clash false refl e
chained-by (stepping c) n k e = clash false refl e

name-kind : (n : Node) → is_name (form (cleared n)) ≡ true → is 4 n ≡ true
unfolding cleared
name-kind n e = named_by (form (cleared n)) (cleared n) (kinds (cleared n)) e

chain-kind : (n : Node) → is_chain (form (cleared n)) ≡ true → is 13 n ≡ true
unfolding cleared
chain-kind n e = chained-by (form (cleared n)) (cleared n) (kinds (cleared n)) e

-- the tests of a form are tests of its kind
pub name-test : (n : Node) → is_name (form (cleared n)) ≡ is 4 n
name-test n = by (is 4 n) (is_name (form (cleared n))) refl refl
  where
    by : (b c : Bool) → is 4 n ≡ b → is_name (form (cleared n)) ≡ c → is_name (form (cleared n)) ≡ is 4 n
    by true c e g = rw e (rw (name-form (cleared n) (unfold cleared in e)) (unfold is_name order in refl))
    by false true e g = clash (is 4 n) e (name-kind n g)
    by false false e g = rw (e, g)

pub chain-form : (n : Node) → is 13 n ≡ true → form (cleared n) ≡ chain
unfolding form cleared
chain-form n e = rw (eqb-true n.kind 13 e)

pub chain-test : (n : Node) → is_chain (form (cleared n)) ≡ is 13 n
chain-test n = by (is 13 n) (is_chain (form (cleared n))) refl refl
  where
    by : (b c : Bool) → is 13 n ≡ b → is_chain (form (cleared n)) ≡ c → is_chain (form (cleared n)) ≡ is 13 n
    by true c e g = rw e (rw (chain-form n e) (unfold is_chain order in refl))
    by false true e g = clash (is 13 n) e (chain-kind n g)
    by false false e g = rw (e, g)

pub other-kind : (n : Node) (k l : ℕ) → is k n ≡ true → eqb k l ≡ false → is l n ≡ false
other-kind n k l e g = rw (eqb-true n.kind k e) g

-- an expression's kind is below 25, or 28
pub expression_not : (kind k : ℕ) → is_expression kind ≡ true → ltb k 25 ≡ false → eqb 28 k ≡ false → eqb kind k ≡ false
unfolding is_expression
expression_not kind k e g h = ne_eqb kind k (λ q. by_or (ltb kind 25) (eqb kind 28) (λ a. clash (ltb k 25) g (rw q at a)) (λ a. clash (eqb 28 k) h (two a q)) e)
  where
    two : eqb kind 28 ≡ true → kind ≡ k → eqb 28 k ≡ true
    two a q = let z : eqb kind k ≡ true = rw q (same k) in rw (eqb-true kind 28 a) at z
      where
        same : (x : ℕ) → eqb x x ≡ true
        same x = eq-eqb x x refl

-- a link is of one of four kinds
pub link_not : (n : Node) (k : ℕ) → (is_member_expression n || is 14 n) ≡ true → eqb 10 k ≡ false → eqb 11 k ≡ false → eqb 12 k ≡ false → eqb 14 k ≡ false → is k n ≡ false
link_not n k e a b c d =
    by_or (is 10 n || is 11 n || is 12 n) (is 14 n)
    (λ q. by_or (is 10 n || is 11 n) (is 12 n) (λ q. by_or (is 10 n) (is 11 n) (λ q. other-kind n 10 k q a) (λ q. other-kind n 11 k q b) q) (λ q. other-kind n 12 k q c) q)
    (λ q. other-kind n 14 k q d) e

pub stopping_not : (n : Node) (k : ℕ) → (is 26 n || is 25 n) ≡ true → eqb 26 k ≡ false → eqb 25 k ≡ false → is k n ≡ false
stopping_not n k e a b = by_or (is 26 n) (is 25 n) (λ q. other-kind n 26 k q a) (λ q. other-kind n 25 k q b) e

-- a link that is no member is a call
pub link_call : (n : Node) → is_chain_element n.kind ≡ true → is_member_expression n ≡ false → is 14 n ≡ true
link_call n e g =
    let (a, b) = neither (is 10 n || is 11 n) (is 12 n) g in
    let (c, d) = neither (is 10 n) (is 11 n) a in
    rw (c, d, b) at e

-- the child of a chain is a link
pub chain_child : (n : Node) (t : Tree) (ts : Trees) → is 13 n ≡ true → stand_under n 0 (more t ts) ≡ true → is_chain_element (root t).kind ≡ true
unfolding may_stand
chain_child n t ts e h = rw (eqb-true n.kind 13 e) at (stands n 0 t ts h).0
