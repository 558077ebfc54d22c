-- The two tables of kinds, that of the search and that of the run, agree; so do their ways with a shorthand.
use Prim.Native.Nat.{ℕ, ◌+◌, ◌-◌, ◌/◌, ◌%◌}
use native.Mathlib.Omega.{arith}
use mathlib.Core.Bool.{Bool, true, false, cond, ◌&&◌, ◌||◌, not}
use mathlib.Core.Path.{◌≡◌, refl, ap, ◌∙◌}
use lib.Dec.{eqb}
use borrow.Author.Tests.{eqb-true, ne_eqb, eqb-false}
use Rattle.records.specs.Flags.{bit, marked, optional, compound, shorthand, computed, proto}
use Rattle.records.specs.Node.{is_chain_element, two_children}
use Rattle.records.specs.Tree.{Node}
use Rattle.records.proofs.Tests.{both}
use Rattle.walk_rules.specs.Shape.{Choice as Way, never as always, skips, cuts, picks, Shape, constant as literal, identifier, target_name as aim, leaf as lone, chain as links, import, delete, sequence as row, property as pair, stopping, assignment as assigning, steps, shape, cleared as walked, is_member_expression}
use Rattle.theory_runs.specs.Form.{is, cleared, Choice, never, logical, conditional, optionally, Form, constant, name, target_name, leaf, chain, property, importing, sequence, assignment, stepping, form}
use Rattle.theory_preservation.proofs.Tests.{and_off, or_right}

-- the kinds of a form
unfoldable pub kinds_of : Form → Node → Bool
kinds_of constant n = is 1 n || is 2 n || is 27 n
kinds_of name n = is 4 n
kinds_of target_name n = is 29 n
kinds_of leaf n = is 0 n || is 3 n || is 5 n || is 30 n
kinds_of chain n = is 13 n
kinds_of property n = is 26 n && not (two_children n.flags)
kinds_of importing n = is 8 n
kinds_of sequence n = is 28 n
kinds_of (assignment c) n = is 20 n
kinds_of (stepping never) n = true
kinds_of (stepping logical) n = is 17 n
kinds_of (stepping conditional) n = is 19 n
kinds_of (stepping optionally) n = is_chain_element n.kind && optional n.flags

-- what is taken from a table passes the test of its row
data Taken {A : Type 0} (test : A → Bool) (x : A) : Type 0 where
  taken : test x ≡ true → Taken test x

row_or : {A : Type 0} {test : A → Bool} (b : Bool) (x : A) {y : A} → (b ≡ true → test x ≡ true) → Taken test y → Taken test (cond b x y)
row_or true x h g = taken (h refl)
row_or false x h g = g

passes : {A : Type 0} {test : A → Bool} {x : A} → Taken test x → test x ≡ true
passes (taken e) = e

form-taken : (n : Node) → Taken (λ f. kinds_of f n) (form n)
unfolding form kinds_of
form-taken n =
    row_or _ constant (λ e. e) (row_or _ name (λ e. e) (row_or _ target_name (λ e. e) (row_or _ leaf (λ e. e) (row_or _ chain (λ e. e) (row_or _ property (λ e. e)
    (row_or _ importing (λ e. e) (row_or _ sequence (λ e. e) (row_or _ (assignment (compound n.flags)) (λ e. e) (row_or _ (stepping logical) (λ e. e)
    (row_or _ (stepping conditional) (λ e. e) (row_or _ (stepping optionally) (λ e. e) (taken refl))))))))))))

pub kinds : (n : Node) → kinds_of (form n) n ≡ true
kinds n = passes (form-taken n)

pub name-form : (n : Node) → is 4 n ≡ true → form n ≡ name
unfolding form
name-form n e = rw (eqb-true n.kind 4 e)

-- the kinds of a shape, as far as they matter
unfoldable pub shape_kinds : Shape → Node → Bool
shape_kinds literal n = true
shape_kinds identifier n = is 4 n
shape_kinds aim n = true
shape_kinds lone n = true
shape_kinds links n = is 13 n
shape_kinds import n = is 8 n
shape_kinds delete n = true
shape_kinds row n = is 28 n
shape_kinds pair n = is 26 n
shape_kinds stopping n = is 26 n || is 25 n
shape_kinds (assigning c) n = is 20 n
shape_kinds (steps always) n = not (is 9 n && eqb n.label 1)
shape_kinds (steps skips) n = is 17 n
shape_kinds (steps cuts) n = is_member_expression n || is 14 n
shape_kinds (steps picks) n = is 19 n

property_of : (n : Node) (b : Bool) → is 26 n ≡ true → shape_kinds (cond b stopping pair) n ≡ true
unfolding shape_kinds
property_of n true e = rw e
property_of n false e = e

last_taken : (n : Node) → (is 9 n && eqb n.label 1) ≡ false → Taken (λ sh. shape_kinds sh n) (steps always)
unfolding shape_kinds
last_taken n d = taken (rw d)

shape-taken : (n : Node) (b : Bool) → (is 9 n && eqb n.label 1) ≡ b → Taken (λ sh. shape_kinds sh n) (shape n)
unfolding shape shape_kinds
shape-taken n true d = rw (eqb-true n.kind 9 (both (is 9 n) _ d).0, (both (is 9 n) _ d).1) (taken refl)
shape-taken n false d =
    row_or (is 1 n || is 2 n || is 27 n) literal (λ e. refl) (row_or (is 4 n) identifier (λ e. e) (row_or (is 29 n) aim (λ e. refl) (row_or (is 0 n || is 3 n || is 5 n || is 30 n) lone (λ e. refl)
    (row_or (is 13 n) links (λ e. e) (row_or (is 8 n) import (λ e. e) (row_or (is 9 n && eqb n.label 1) delete (λ e. refl) (row_or (is 28 n) row (λ e. e)
    (row_or (is 26 n) (cond (two_children n.flags) stopping pair) (λ e. property_of n (two_children n.flags) e) (row_or (is 25 n) stopping (λ e. or_right (is 26 n) _ e)
    (row_or (is 20 n) (assigning (compound n.flags)) (λ e. e) (row_or (is 17 n) (steps skips) (λ e. e) (row_or (is 19 n) (steps picks) (λ e. e)
    (row_or ((is_member_expression n || is 14 n) && optional n.flags) (steps cuts) (λ e. (both (is_member_expression n || is 14 n) (optional n.flags) e).0) (last_taken n d))))))))))))))

pub shape-kinds : (n : Node) → shape_kinds (shape n) n ≡ true
shape-kinds n = passes (shape-taken n (is 9 n && eqb n.label 1) refl)

-- A shorthand.
pub bit-same : (w f g : ℕ) → f / w % 2 ≡ g / w % 2 → bit w f ≡ bit w g
bit-same w f g e = ap (λ z. eqb z 1) e

-- whether a shorthand gains bit 5, and the flags of a property whose shorthand is cleared
abbrev pub gains : ℕ → Bool
gains f = proto f && not (computed f)

abbrev pub cleared_flags : ℕ → ℕ
cleared_flags f = cond (gains f) (f + 16) (f - 16)

pub marked_by : (f : ℕ) (p : Bool) → shorthand f ≡ true → marked (cond p (f + 16) (f - 16)) ≡ marked f
marked_by f true e = bit-same 1 (f + 16) f (omega arith)
marked_by f false e = let h = eqb-true (f / 16 % 2) 1 e in bit-same 1 (f - 16) f (omega arith)

-- without bit 4 the higher bits are the same
above : (f : ℕ) → f / 16 % 2 ≡ 1 → (f - 16) / 32 ≡ f / 32
above f h = omega arith

-- bit 4 goes over into bit 5
carry : (f : ℕ) → f / 16 % 2 ≡ 1 → (f + 16) / 32 ≡ f / 32 + 1
carry f h = omega arith

halves : (f g : ℕ) → f / 32 % 2 ≡ 0 → g / 32 ≡ f / 32 + 1 → g / 64 ≡ f / 64
halves f g h e = omega arith

halved : (f g : ℕ) → g / 32 ≡ f / 32 → g / 64 ≡ f / 64
halved f g e = omega arith

pub zero_bit : (x : ℕ) → (x % 2 ≡ 1 → ⊥) → x % 2 ≡ 0
zero_bit x h = omega (arith, h)

-- a property has as many children without bit 4, and with bit 5 where it is gained
two-without : (f : ℕ) → shorthand f ≡ true → two_children (f - 16) ≡ two_children f
two-without f s =
    let h : (f - 16) / 32 ≡ f / 32 = above f (eqb-true (f / 16 % 2) 1 s) in
    let z : computed (f - 16) ≡ computed f = bit-same 32 (f - 16) f (ap (λ x. x % 2) h) in
    let y : proto (f - 16) ≡ proto f = bit-same 64 (f - 16) f (ap (λ x. x % 2) (halved f (f - 16) h)) in
    rw (z, y)

two-by : (f : ℕ) (p c : Bool) → shorthand f ≡ true → proto f ≡ p → computed f ≡ c → two_children (cond (p && not c) (f + 16) (f - 16)) ≡ two_children f
two-by f true false s p c =
    let i : f / 32 % 2 ≡ 0 = zero_bit (f / 32) (eqb-false (f / 32 % 2) 1 c) in
    let z : proto (f + 16) ≡ proto f = bit-same 64 (f + 16) f (ap (λ x. x % 2) (halves f (f + 16) i (carry f (eqb-true (f / 16 % 2) 1 s)))) in
    rw (z, p, c) (and_off (computed (f + 16)) false refl)
two-by f true true s p c = two-without f s
two-by f false c s p e = two-without f s

pub short-by : (f : ℕ) (p : Bool) → shorthand f ≡ true → shorthand (cond p (f + 16) (f - 16)) ≡ false
short-by f true e = let h = eqb-true (f / 16 % 2) 1 e in ne_eqb ((f + 16) / 16 % 2) 1 (omega arith)
short-by f false e = let h = eqb-true (f / 16 % 2) 1 e in ne_eqb ((f - 16) / 16 % 2) 1 (omega arith)

-- to clear a shorthand twice is to clear it once
again : (b i : Bool) (f x : ℕ) → (i && shorthand f) ≡ b → cond (i && shorthand (cond b (cleared_flags f) f)) x (cond b (cleared_flags f) f) ≡ cond b (cleared_flags f) f
again true i f x e = let z : (i && shorthand (cleared_flags f)) ≡ false = and_off i _ (short-by f (gains f) (both i _ e).1) in rw z
again false i f x e = rw e

-- a cleared node is no shorthand
unshort-by : (b i : Bool) (f : ℕ) → (i && shorthand f) ≡ b → (i && shorthand (cond b (cleared_flags f) f)) ≡ false
unshort-by true i f e = and_off i _ (short-by f (gains f) (both i _ e).1)
unshort-by false i f e = e

pub unshort : (n : Node) → (is 26 n && shorthand (cleared n).flags) ≡ false
unfolding cleared
unshort n = unshort-by (is 26 n && shorthand n.flags) (is 26 n) n.flags refl

pub cleared-once : (n : Node) → cleared (cleared n) ≡ cleared n
unfolding cleared
cleared-once n = λ j. record { kind = n.kind; flags = again (is 26 n && shorthand n.flags) (is 26 n) n.flags (cleared_flags (cleared n).flags) refl j; label = n.label; position = n.position }

-- the search clears as the run does
walked_by : (b p : Bool) (f : ℕ) → (b ≡ true → shorthand f ≡ true) → cond b (f - 16 + cond p 32 0) f ≡ cond b (cond p (f + 16) (f - 16)) f
walked_by true true f e = let h = eqb-true (f / 16 % 2) 1 (e refl) in omega arith
walked_by true false f e = omega arith
walked_by false p f e = refl

pub walked_cleared : (n : Node) → walked n ≡ cleared n
unfolding walked cleared
walked_cleared n = λ j. record { kind = n.kind; flags = walked_by (is 26 n && shorthand n.flags) (gains n.flags) n.flags (λ e. (both (is 26 n) _ e).1) j; label = n.label; position = n.position }

-- no link is a shorthand
pub link_cleared : (n : Node) → (is_chain_element n.kind && optional (cleared n).flags) ≡ (is_chain_element n.kind && optional n.flags)
link_cleared n = by (is 26 n) refl
  where
    by : (b : Bool) → is 26 n ≡ b → (is_chain_element n.kind && optional (cleared n).flags) ≡ (is_chain_element n.kind && optional n.flags)
    by true e = rw (eqb-true n.kind 26 e)
    by false e = unfold cleared in rw e

marked-at : (b : Bool) (f : ℕ) → (b ≡ true → shorthand f ≡ true) → marked (cond b (cleared_flags f) f) ≡ marked f
marked-at true f e = marked_by f (gains f) (e refl)
marked-at false f e = refl

pub marked-cleared : (n : Node) → marked (cleared n).flags ≡ marked n.flags
unfolding cleared
marked-cleared n = marked-at (is 26 n && shorthand n.flags) n.flags (λ e. (both (is 26 n) _ e).1)

-- The form of a shape.
unfoldable pub choosing : Way → Choice
choosing always = never
choosing skips = logical
choosing cuts = optionally
choosing picks = conditional

unfoldable pub form_of : Shape → Form
form_of literal = constant
form_of identifier = name
form_of aim = target_name
form_of lone = leaf
form_of links = chain
form_of import = importing
form_of delete = stepping never
form_of row = sequence
form_of pair = property
form_of stopping = stepping never
form_of (assigning c) = assignment c
form_of (steps w) = stepping (choosing w)

pub two_at : (b : Bool) (f : ℕ) → shorthand f ≡ b → two_children (cond b (cleared_flags f) f) ≡ two_children f
two_at true f e = two-by f (proto f) (computed f) e refl refl
two_at false f e = refl

property-form : (b : Bool) → cond (not b) property (stepping never) ≡ form_of (cond b stopping pair)
unfolding form_of
property-form true = refl
property-form false = refl

or_assoc : (x y z u : Bool) → (x || y || z || u) ≡ ((x || y || z) || u)
or_assoc true y z u = refl
or_assoc false true z u = refl
or_assoc false false true u = refl
or_assoc false false false u = refl

-- row by row
rows : (a b c d e f g h i j k o : Bool)
    → cond a constant (cond b name (cond c target_name (cond d leaf (cond e chain (cond f importing (cond g sequence (cond h (assignment i) (cond j (stepping logical) (cond k (stepping conditional) (cond o (stepping optionally) (stepping never)))))))))))
    ≡ form_of (cond a literal (cond b identifier (cond c aim (cond d lone (cond e links (cond f import (cond g row (cond h (assigning i) (cond j (steps skips) (cond k (steps picks) (cond o (steps cuts) (steps always))))))))))))
unfolding form_of choosing
rows true b c d e f g h i j k o = refl
rows false true c d e f g h i j k o = refl
rows false false true d e f g h i j k o = refl
rows false false false true e f g h i j k o = refl
rows false false false false true f g h i j k o = refl
rows false false false false false true g h i j k o = refl
rows false false false false false false true h i j k o = refl
rows false false false false false false false true i j k o = refl
rows false false false false false false false false i true k o = refl
rows false false false false false false false false i false true o = refl
rows false false false false false false false false i false false true = refl
rows false false false false false false false false i false false false = refl

by_kind : (n : Node) (x y z : Bool) → is 26 n ≡ x → (is 9 n && eqb n.label 1) ≡ y → is 25 n ≡ z → form (cleared n) ≡ form_of (shape n)
unfolding form shape cleared
by_kind n true y z e g h = rw (eqb-true n.kind 26 e) (ap (λ b. cond (not b) property (stepping never)) (two_at (shorthand n.flags) n.flags refl) ∙ property-form (two_children n.flags))
by_kind n false true z e g h = rw (eqb-true n.kind 9 (both (is 9 n) _ g).0, (both (is 9 n) _ g).1) (unfold form_of in refl)
by_kind n false false true e g h = rw (eqb-true n.kind 25 h) (unfold form_of in refl)
by_kind n false false false e g h =
    rw (e, g, h, or_assoc (is 10 n) (is 11 n) (is 12 n) (is 14 n)) (rows (is 1 n || is 2 n || is 27 n) (is 4 n) (is 29 n) (is 0 n || is 3 n || is 5 n || is 30 n) (is 13 n) (is 8 n) (is 28 n) (is 20 n) (compound n.flags) (is 17 n) (is 19 n) (((is 10 n || is 11 n || is 12 n) || is 14 n) && optional n.flags))

pub form-shape : (n : Node) → form (cleared n) ≡ form_of (shape n)
form-shape n = by_kind n (is 26 n) (is 9 n && eqb n.label 1) (is 25 n) refl refl refl
