-- The answer at a node: the name itself, and a node whose children were searched.
use native.Mathlib.Omega.{arith}
use mathlib.Core.Bool.{Bool, true, false, cond, ◌&&◌}
use mathlib.Core.List.{List, []}
use mathlib.Core.Path.{◌≡◌, refl, sym, ap, ◌∙◌, subst}
use borrow.Author.Tests.{eq-eqb}
use Rattle.records.specs.Tree.{Node, Tree, Trees, node}
use Rattle.records.specs.Place.{root}
use Rattle.records.specs.Count.{uses_in}
use Rattle.records.specs.declared.layout.NameFacts.{NameFacts}
use Rattle.records.proofs.Tests.{clash}
use Rattle.walk_rules.specs.Shape.{shape, cleared as walked}
use Rattle.walk_rules.specs.Substitute.{Answer, replaced, stopped, passed, Plan, at, of_node, is_specific_id, is_member_tag}
use Rattle.theory_runs.specs.Hand.{nothing, Given, only}
use Rattle.theory_runs.specs.Step.{Role, value}
use Rattle.theory_runs.specs.Form.{is, cleared, Form, name, form, order, childless, is_name, is_chain}
use Rattle.theory_runs.specs.State.{State, Out, gave, bind}
use Rattle.theory_runs.specs.Run.{caught, gathered, held, own, beside, finished, run_node, run, run_children}
use Rattle.theory_runs.specs.Facts.{TargetSame}
use Rattle.theory_preservation.proofs.Words.{set_here}
use Rattle.theory_preservation.proofs.Tests.{same_cond}
use Rattle.theory_preservation.proofs.Tables.{kinds_of, kinds, form_of, form-shape, walked_cleared, cleared-once, name-form}
use Rattle.theory_preservation.proofs.Ends.{Ends, gives, cuts, halts, ends-map, ends_same, First}
use Rattle.theory_preservation.proofs.Uses.{reads, all_targets, Off, hand-off, specific, specific-read}
use Rattle.theory_preservation.proofs.Frame.{moved, shifted, gave-on, caught-on, finished_on}
use Rattle.theory_preservation.proofs.Kept.{whole}
use Rattle.theory_preservation.proofs.Setting.{Setting}
use Rattle.theory_preservation.proofs.Passing.{Put, put_unseen, Only, bind_assoc, bind-same, first, drop, Framed, Reason, same-bind, drop-only, drop-bind, drop_shift, first-bind, first-same, first-only}
use Rattle.theory_preservation.proofs.Same.{node-same}
use Rattle.theory_preservation.proofs.At.{run_at}
use Rattle.theory_preservation.proofs.Bare.{bare-run}
use Rattle.theory_preservation.proofs.Placing.{over, is_nothing, value_only}
use Rattle.theory_preservation.proofs.Placing as P
use Rattle.theory_preservation.proofs.Children.{Other, Parts}

-- what was given, without what it was given beside
abbrev pub bared : {Value : Type 0} → Given Value → Given Value
bared x = only x.value

module _ {Value Rest : Type 0} (σ : Setting Value Rest) where
  open σ use {file, m, v, r, nothing_hidden, there, plain, free, unaimed, well, chained, expression, no_eval}

  abbrev S : Type 0
  S = State Value Rest

  abbrev O : Type 0 → Type 0
  O A = Out Value Rest A

  abbrev names : List NameFacts
  names = file.names

  abbrev D : {A : Type 0} → O A → O A
  D o = drop σ o

  abbrev F : {A : Type 0} → (S → O A) → S → O A
  F c s = first σ c s

  abbrev go : Tree → S → O (Given Value)
  go t s = run names m t value s

  abbrev Why : {A : Type 0} → S → (S → O A) → Type 0
  Why s c = Reason σ s c

  name-here : (n : Node) (role : Role) (cs : S → O (List (Given Value))) (s : S) → n.label ≡ v → run_node names m name n role cs s ≡ gave (only (s.store.names v)) s
  unfolding run_node gathered childless order finished own held bind beside is_name
  name-here n role cs s l = rw (l, there, plain)

  name-at : (f : Form) (n : Node) (cs : S → O (List (Given Value))) (s : S) → f ≡ name → n.label ≡ v → run_node names m f n value cs s ≡ gave (only (s.store.names v)) s
  name-at f n cs s e l = rw e (name-here n value cs s l)

  name-run : (n : Node) (ts : Trees) (s : S) → is 4 n ≡ true → n.label ≡ v → go (node n ts) s ≡ gave (only (s.store.names v)) s
  unfolding run cleared
  name-run n ts s e l = name-at (form (cleared n)) (cleared n) _ s (name-form (cleared n) e) l

  put-v : (a : Value) (s : S) → (moved (Put v a) s).store.names v ≡ a
  unfolding moved Put
  put-v a s = set_here v a s.store

  pub first-name : (n : Node) (ts : Trees) (s : S) → is 4 n ≡ true → n.label ≡ v → F (go (node n ts)) s ≡ bind (go r s) (λ x s'. gave (bared x) (moved (Put v x.value) s'))
  unfolding first
  first-name n ts s e l = bind-same (go r s) _ _ (λ x s'. name-run n ts (moved (Put v x.value) s') e l ∙ ap (λ w. gave (only w) (moved (Put v x.value) s')) (put-v x.value s'))

  value_only_bare : (t : Tree) (x : Given Value) → value_only σ t (bared x) ≡ bared x
  unfolding value_only
  value_only_bare t x = same_cond (is_specific_id v (root t) && is_member_tag r) (bared x)

  over-gave : (t : Tree) (x : Given Value) (s : S) → bind (gave (bared x) s) (λ x s'. gave (value_only σ t x) s') ≡ gave (bared x) s
  unfolding bind
  over-gave t x s = ap (λ y. gave y s) (value_only_bare t x)

  over-name : (t : Tree) (s : S) → over (value_only σ t) (bind (go r s) (λ x s'. gave (bared x) (moved (Put v x.value) s'))) ≡ bind (go r s) (λ x s'. gave (bared x) (moved (Put v x.value) s'))
  unfolding over
  over-name t s = bind_assoc (go r s) _ _ ∙ bind-same (go r s) _ _ (λ x s'. over-gave t x (moved (Put v x.value) s'))

  -- what is kept of r in the name's place is its value
  bare-is : (x : Given Value) → x.beside ≡ nothing → x ≡ bared x
  bare-is x e = λ i. record { value = x.value; beside = e i }

  tidied : (b : Bool) (s : S) → is_member_tag r ≡ b → over (λ x. cond b (bared x) x) (go r s) ≡ over bared (go r s)
  unfolding over
  tidied true s e = refl
  tidied false s e = ends_same (bare-run names m r well expression no_eval e value s) (λ x s' p. ap (λ y. gave y s') (bare-is x p))

  value_only_r : (t : Tree) (s : S) → is_specific_id v (root t) ≡ true → over (value_only σ t) (go r s) ≡ over bared (go r s)
  unfolding value_only over
  value_only_r t s e = rw e (tidied (is_member_tag r) s refl)

  gave-drop : (x : Given Value) (a : Value) (s : S) → D (gave x (moved (Put v a) s)) ≡ D (gave x s)
  gave-drop x a s = (unfold shifted in drop_shift σ a (gave x s))

  as_over : (s : S) → bind (go r s) (λ x s'. gave (bared x) s') ≡ over bared (go r s)
  unfolding over
  as_over s = refl

  -- the name itself is replaced
  pub at_name : (n : Node) (ts : Trees) → is_specific_id v n ≡ true → P.Good σ (node n ts) (replaced (at n.position r))
  at_name n ts e =
      let (k, l) = specific v n e in
      let p = eq-eqb n.kind 4 k in (
        specific-read v n ts e,
        λ s u.
            ap D (ap (over (value_only σ (node n ts))) (first-name n ts s p l) ∙ over-name (node n ts) s)
            ∙ same-bind σ (go r s) _ _ (λ x s'. gave-drop (bared x) x.value s')
            ∙ ap D (as_over s ∙ sym (value_only_r (node n ts) s e) ∙ ap (over (value_only σ (node n ts))) (sym (run_at names m n.position r value s))),
      )

  -- A node with r in its children.
  whole-caught : {A : Type 0} {P : A → S → Type 0} {Q : Type 0} {o : O A} (K : A → S → O (List (Given Value))) → Ends P (λ s. ⊥) Q o → bind o (λ x s. caught (K x s)) ≡ caught (bind o K)
  unfolding bind
  whole-caught K (gives p) = refl
  whole-caught K (cuts p) = absurd p
  whole-caught K (halts p) = unfold caught in refl

  first-caught : (cs : S → O (List (Given Value))) (s : S) → F (λ s. caught (cs s)) s ≡ caught (F cs s)
  unfolding first
  first-caught cs s = whole-caught _ (whole names m r well chained value s)

  drop-caught : (o o' : O (List (Given Value))) → D o ≡ D o' → D (caught o) ≡ D (caught o')
  unfolding drop
  drop-caught o o' e = sym (caught-on _ o) ∙ ap caught e ∙ caught-on _ o'

  abbrev Hand : List (Given Value) → Type 0
  Hand hs = First (Off v) hs

  caught-only : {o : O (List (Given Value))} → Only Hand o → Only Hand (caught o)
  unfolding caught
  caught-only (gives p) = gives p
  caught-only (cuts p) = gives tt
  caught-only (halts p) = halts p

  plain-place : (K : List (Given Value) → S → O (Given Value)) (cs cs' : S → O (List (Given Value))) (s : S) → ((u : S) → Only Hand (cs u)) → ((hs : List (Given Value)) → Hand hs → Framed σ (K hs)) → D (F cs s) ≡ D (cs' s) → D (F (λ s. bind (cs s) K) s) ≡ D (bind (cs' s) K)
  plain-place K cs cs' s o k h = ap D (first-bind σ cs K s) ∙ drop-only σ _ K (first-only σ cs o s) k h

  gather_place : (l c : Bool) (K : List (Given Value) → S → O (Given Value)) (cs cs' : S → O (List (Given Value))) (s : S) → l ≡ false → ((u : S) → Only Hand (cs u)) → ((hs : List (Given Value)) → Hand hs → Framed σ (K hs)) → D (F cs s) ≡ D (cs' s)
      → D (F (λ s. bind (cond l (gave [] s) (cond c (caught (cs s)) (cs s))) K) s) ≡ D (bind (cond l (gave [] s) (cond c (caught (cs' s)) (cs' s))) K)
  gather_place true c K cs cs' s e o k h = clash true e refl
  gather_place false true K cs cs' s e o k h = plain-place K (λ s. caught (cs s)) (λ s. caught (cs' s)) s (λ u. caught-only (o u)) k (ap D (first-caught cs s) ∙ drop-caught _ _ h)
  gather_place false false K cs cs' s e o k h = plain-place K cs cs' s o k h

  run-place : (f : Form) (n : Node) (cs cs' : S → O (List (Given Value))) (s : S) → childless f ≡ false → kinds_of f n ≡ true → Other σ n → ((u : S) → Only Hand (cs u)) → D (F cs s) ≡ D (cs' s) → D (F (run_node names m f n value cs) s) ≡ D (run_node names m f n value cs' s)
  unfolding run_node gathered
  run-place f n cs cs' s e k o i h = gather_place (childless f) (is_chain f) (finished names m f n value) cs cs' s e i (λ hs p a s'. finished_on names m v (Put v a) (put_unseen nothing_hidden a) f n value hs s' k o.0 o.1 p) h

  hand-only : (ts : Trees) (f : Form) (n : Node) → all_targets v ts ≡ 0 → (s : S) → Only Hand (run_children names m ts f n value s)
  hand-only ts f n h s = ends-map (hand-off names m v ts f n value h s) (λ hs s' p. p.0) (λ s' p. tt) (λ p. p)

  -- the run of a node by its shape, also when the search has cleared it
  abbrev pub shaped : Node → Trees → Role → S → O (Given Value)
  shaped n ts role s = run_node names m (form_of (shape n)) (cleared n) role (run_children names m ts (form_of (shape n)) (cleared n) role) s

  pub run_as : (n : Node) (ts : Trees) (role : Role) (s : S) → run names m (node n ts) role s ≡ shaped n ts role s
  unfolding run
  run_as n ts role s = rw (form-shape n)

  run-again : (n : Node) (ts : Trees) (role : Role) (s : S) → run names m (node (walked n) ts) role s ≡ shaped n ts role s
  unfolding run
  run-again n ts role s = rw (walked_cleared n, cleared-once n, form-shape n)

  pub drop-over : (g : Given Value → Given Value) (o o' : O (Given Value)) → D o ≡ D o' → D (over g o) ≡ D (over g o')
  unfolding over
  drop-over g o o' e = drop-bind σ o o' _ (λ x a s. gave-on _ s) e

  not_childless : (b : Bool) (p : Plan) → is_nothing p ≡ false → (b ≡ true → is_nothing p ≡ true) → b ≡ false
  not_childless true p e h = clash (is_nothing p) e (h refl)
  not_childless false p e h = refl

  kinds-shape : (n : Node) → kinds_of (form_of (shape n)) (cleared n) ≡ true
  kinds-shape n = subst (λ f. kinds_of f (cleared n) ≡ true) (form-shape n) (kinds (cleared n))

  target_of : (n : Node) (ts : Trees) (s : S) → P.FairAt σ s (node n ts) → P.TargetAt σ s (form_of (shape n)) ts
  target_of n ts s u = λ x s' e. subst (λ f. TargetSame names m f ts v s s') (form-shape n) (u x s' e).0

  -- a node by the answer of its children
  pub node_good : (n : Node) (ts : Trees) (p : Plan) (pass : Bool) (a : Answer Trees) → Other σ (cleared n) → all_targets v ts ≡ 0 → Parts σ p (form_of (shape n)) (cleared n) ts a → (childless (form_of (shape n)) ≡ true → is_nothing p ≡ true)
      → (pass ≡ true → reads v (node n ts) ≡ 0 → Parts σ p (form_of (shape n)) (cleared n) ts passed → (s : S) → Why s (go (node n ts))) → P.Good σ (node n ts) (of_node n ts pass a)
  unfolding of_node uses_in
  node_good n ts p pass (replaced ts') o k g l h = (
    omega (arith, g.1),
    λ s u.
        drop-over (value_only σ (node n ts)) _ _
        (ap D (first-same σ _ _ (λ s. run_as n ts value s) s)
        ∙ run-place (form_of (shape n)) (cleared n) _ _ s (not_childless _ p g.0 l) (kinds-shape n) o (hand-only ts (form_of (shape n)) (cleared n) k) (g.2 s (target_of n ts s u) (λ x s' e. (u x s' e).1))
        ∙ ap D (sym (run-again n ts' value s))),
  )
  node_good n ts p pass (stopped ts') o k g l h = λ role s. run-again n ts' role s ∙ node-same names m (form_of (shape n)) (cleared n) role _ _ (λ s. g.1 role s) s ∙ sym (run_as n ts role s)
  node_good n ts p true passed o k g l h = λ z s. h refl z g s
  node_good n ts p false passed o k g l h = λ role s. refl
