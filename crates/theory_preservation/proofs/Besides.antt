-- What is beside values, with the values in it left out: where it is the same, a node keeps the same of it.
use Prim.Native.Nat.{ℕ}
use mathlib.Core.Bool.{Bool, true, false, cond, ◌||◌}
use mathlib.Core.List.{List}
use mathlib.Core.Path.{◌≡◌, refl, sym, ap, ◌∙◌}
use lib.Dec.{eqb}
use borrow.Author.Tests.{eqb-true, eq-eqb}
use Rattle.records.specs.Flags.{is_eval}
use Rattle.records.specs.Script.{flags_of}
use Rattle.records.specs.Tree.{Node}
use Rattle.records.specs.declared.layout.NameFacts.{NameFacts}
use Rattle.records.proofs.Tests.{clash, both}
use Rattle.theory_runs.specs.Hand.{static, private, computed, Beside, nothing, bare_eval, target_name as aTarget, opaque_target, member, Hand, first_or}
use Rattle.theory_runs.specs.Form.{is, is_delete, Form, is_name, is_chain, is_assignment}
use Rattle.theory_runs.specs.Run.{kept, beside}
use Rattle.theory_runs.specs.InHand.{sort_of, same_beside, is_nothing}

pub same_sort : {A B : Type 0} (b : Beside A) (c : Beside B) → sort_of b ≡ sort_of c → same_beside b c ≡ true
unfolding same_beside
same_sort b c e = rw (e, eq-eqb (sort_of c).0 (sort_of c).0 refl, eq-eqb (sort_of c).1 (sort_of c).1 refl)

pub sort_same : {A B : Type 0} (b : Beside A) (c : Beside B) → same_beside b c ≡ true → sort_of b ≡ sort_of c
unfolding same_beside
sort_same b c e =
    let (x, y) = both (eqb (sort_of b).0 (sort_of c).0) (eqb (sort_of b).1 (sort_of c).1) e in
    let p = eqb-true (sort_of b).0 (sort_of c).0 x in
    let q = eqb-true (sort_of b).1 (sort_of c).1 y in
    λ i. (p i, q i)

sort_cond : {A B : Type 0} (k : Bool) (b b' : Beside A) (c c' : Beside B) → sort_of b ≡ sort_of c → sort_of b' ≡ sort_of c' → sort_of (cond k b b') ≡ sort_of (cond k c c')
sort_cond true b b' c c' e g = e
sort_cond false b b' c c' e g = g

pub nothing_is : {A : Type 0} (b : Beside A) → is_nothing b ≡ true → b ≡ nothing
unfolding is_nothing sort_of
nothing_is nothing e = refl
nothing_is bare_eval e = clash false refl e
nothing_is (aTarget a) e = clash false refl e
nothing_is (opaque_target l) e = clash false refl e
nothing_is (member o (static l)) e = clash false refl e
nothing_is (member o (private l)) e = clash false refl e
nothing_is (member o (computed w)) e = clash false refl e

pub nothing_sort : {A : Type 0} (b : Beside A) → is_nothing b ≡ true → sort_of b ≡ (0, 0)
unfolding sort_of
nothing_sort b e = rw (nothing_is b e)

-- what is as nothing is nothing
pub same-nothing : {A B : Type 0} (b : Beside A) (c : Beside B) → b ≡ nothing → same_beside b c ≡ true → is_nothing c ≡ true
unfolding is_nothing sort_of
same-nothing b c e g = ap (λ (s : ℕ × ℕ). eqb s.0 0) (sym (sort_same b c g) ∙ ap sort_of e)

-- whether a node keeps what is of this sort
unfoldable keeping : Form → Node → ℕ → Bool
keeping f n s =
    cond (eqb s 0) false (cond (eqb s 1) (is 14 n) (cond (eqb s 2 || eqb s 3) (is_assignment f) (is 14 n || is 24 n || is_delete n || is_assignment f || is_chain f)))

sort_by : {A : Type 0} (k : Bool) (b : Beside A) → sort_of (cond k b nothing) ≡ cond k (sort_of b) (0, 0)
unfolding sort_of
sort_by true b = refl
sort_by false b = refl

kept_sort : {A : Type 0} (f : Form) (n : Node) (b : Beside A) → sort_of (kept f n b) ≡ cond (keeping f n (sort_of b).0) (sort_of b) (0, 0)
unfolding kept keeping sort_of
kept_sort f n nothing = refl
kept_sort f n bare_eval = sort_by (is 14 n) bare_eval
kept_sort f n (aTarget a) = sort_by (is_assignment f) (aTarget a)
kept_sort f n (opaque_target l) = sort_by (is_assignment f) (opaque_target l)
kept_sort f n (member o (static l)) = sort_by (is 14 n || is 24 n || is_delete n || is_assignment f || is_chain f) (member o (static l))
kept_sort f n (member o (private l)) = sort_by (is 14 n || is 24 n || is_delete n || is_assignment f || is_chain f) (member o (private l))
kept_sort f n (member o (computed w)) = sort_by (is 14 n || is 24 n || is_delete n || is_assignment f || is_chain f) (member o (computed w))

-- besides that are alike are kept alike, and nothing stays nothing
pub kept_like : {A B : Type 0} (f : Form) (n : Node) (b : Beside A) (c : Beside B) → sort_of b ≡ sort_of c → sort_of (kept f n b) ≡ sort_of (kept f n c)
kept_like f n b c e = kept_sort f n b ∙ ap (λ (s : ℕ × ℕ). cond (keeping f n s.0) s (0, 0)) e ∙ sym (kept_sort f n c)

pub nothing-kept : {A : Type 0} (f : Form) (n : Node) (b : Beside A) → is_nothing b ≡ true → is_nothing (kept f n b) ≡ true
unfolding is_nothing keeping
nothing-kept f n b e = ap (λ (s : ℕ × ℕ). eqb s.0 0) (kept_sort f n b ∙ ap (λ (s : ℕ × ℕ). cond (keeping f n s.0) s (0, 0)) (nothing_sort b e))

-- What nodes give: the same, where a chain has the same in hand.
chain_cond : {A B : Type 0} (k : Bool) (b : Beside A) (c : Beside B) → (k ≡ true → sort_of b ≡ sort_of c) → sort_of (cond k b nothing) ≡ sort_of (cond k c nothing)
unfolding sort_of
chain_cond true b c h = h refl
chain_cond false b c h = refl

pub beside_like : {A B : Type 0} (names : List NameFacts) (u : A) (w : B) (f : Form) (n : Node) (hs : Hand A) (gs : Hand B) → (is_chain f ≡ true → sort_of (first_or u hs).beside ≡ sort_of (first_or w gs).beside) → sort_of (beside names u f n hs) ≡ sort_of (beside names w f n gs)
unfolding beside sort_of
beside_like names u w f n hs gs h =
    sort_cond (is_name f) _ _ _ _ (sort_cond (is_eval (flags_of names n.label)) _ _ _ _ refl refl)
    (sort_cond (eqb n.kind 29) _ _ _ _ refl (sort_cond (eqb n.kind 30) _ _ _ _ refl (sort_cond (eqb n.kind 10) _ _ _ _ refl (sort_cond (eqb n.kind 11) _ _ _ _ refl (sort_cond (eqb n.kind 12) _ _ _ _ refl (chain_cond (is_chain f) _ _ h))))))
