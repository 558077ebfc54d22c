-- Where the search puts the initializer it may run: what is claimed of the answers, and the answers of a row of children.
use Prim.Native.Nat.{ℕ, ◌+◌, ◌≤◌}
use native.Mathlib.Omega.{arith}
use mathlib.Core.Bool.{Bool, true, false, cond, ◌&&◌}
use mathlib.Core.List.{List, [], ◌∷◌}
use mathlib.Core.Path.{◌≡◌, refl, sym, ap, ◌∙◌, subst}
use Rattle.records.specs.Tree.{Tree, Trees, node, none, more}
use Rattle.records.specs.Place.{root}
use Rattle.records.specs.Count.{uses_in}
use Rattle.records.specs.declared.layout.NameFacts.{NameFacts}
use Rattle.records.proofs.Tests.{clash}
use Rattle.walk_rules.specs.Substitute.{Answer, replaced, stopped, passed, Plan, all as every, first as leading, nothing as none_at_all, value as behind, test, branches, tag, next, as_tag, in_order, in_branches, by_plan, is_specific_id, is_member_tag}
use Rattle.theory_runs.specs.Hand.{Given, only}
use Rattle.theory_runs.specs.Step.{Role, value}
use Rattle.theory_runs.specs.Form.{Form}
use Rattle.theory_runs.specs.State.{State, Out, gave, cut, stop, bind}
use Rattle.theory_runs.specs.Run.{Turn, all, skipped, second, third, takes, then, in_turn, run, run_others}
use Rattle.theory_runs.specs.Facts.{GivesSame, TargetSame, TargetsSame, AllTargetsSame}
use Rattle.theory_preservation.proofs.Ends.{gives, cuts, halts, ends-map}
use Rattle.theory_preservation.proofs.Uses.{reads, all_reads, targets, all_targets, Off, nothing-off, gives-off}
use Rattle.theory_preservation.proofs.Frame.{moved, shifted, shifted-bind, gave-on, in_turn_on}
use Rattle.theory_preservation.proofs.Setting.{Setting}
use Rattle.theory_preservation.proofs.Passing.{Put, Only, bind-same, first, drop, Framed, Unchanging, Reason, reading, steady, passing, unchanging-drop, drop-only, drop-bind, first-bind, first-only, two-reasons}
use Rattle.theory_preservation.proofs.Same.{in_turn_same, others_same}
use Rattle.theory_preservation.proofs.Waiting.{free-frame, free-others}

module _ {Value Rest : Type 0} where
  unfoldable pub over : {A B : Type 0} → (A → B) → Out Value Rest A → Out Value Rest B
  over g o = bind o (λ x s. gave (g x) s)

  pub over-bind : {A B C : Type 0} (g : A → B) (o : Out Value Rest A) (K : B → State Value Rest → Out Value Rest C) → bind (over g o) K ≡ bind o (λ x. K (g x))
  unfolding over bind
  over-bind g (gave a s) K = refl
  over-bind g (cut s) K = refl
  over-bind g (stop l) K = refl

  over-only : {A B : Type 0} {P : A → Type 0} {Q : B → Type 0} (g : A → B) {o : Out Value Rest A} → Only P o → ((x : A) → P x → Q (g x)) → Only Q (over g o)
  unfolding over bind
  over-only g (gives p) h = gives (h _ p)
  over-only g (cuts p) h = cuts tt
  over-only g (halts p) h = halts tt

-- a choice among two
unfoldable pub forks : Turn → Bool
forks all = false
forks skipped = false
forks second = true
forks third = true

-- no child is searched
unfoldable pub is_nothing : Plan → Bool
is_nothing every = false
is_nothing leading = false
is_nothing none_at_all = true
is_nothing behind = false
is_nothing test = false
is_nothing branches = false
is_nothing tag = false

module _ {Value Rest : Type 0} (σ : Setting Value Rest) where
  open σ use {file, m, v, r, nothing_hidden}

  abbrev pub S : Type 0
  S = State Value Rest

  abbrev pub O : Type 0 → Type 0
  O A = Out Value Rest A

  abbrev names : List NameFacts
  names = file.names

  abbrev pub D : {A : Type 0} → O A → O A
  D o = drop σ o

  abbrev pub F : {A : Type 0} → (S → O A) → S → O A
  F c s = first σ c s

  abbrev pub go : Tree → S → O (Given Value)
  go t s = run names m t value s

  abbrev pub Why : {A : Type 0} → S → (S → O A) → Type 0
  Why s c = Reason σ s c

  -- The targets of plain assignments give the same before and after r, where r is met at s.
  abbrev pub FairAt : S → Tree → Type 0
  FairAt s t = (x : Given Value) (s' : S) → go r s ≡ gave x s' → TargetsSame names m t v s s'

  abbrev pub FairsAt : S → Trees → Type 0
  FairsAt s ts = (x : Given Value) (s' : S) → go r s ≡ gave x s' → AllTargetsSame names m ts v s s'

  abbrev pub TargetAt : S → Form → Trees → Type 0
  TargetAt s f ts = (x : Given Value) (s' : S) → go r s ≡ gave x s' → TargetSame names m f ts v s s'

  same-given : (t : Tree) (s : S) → GivesSame names m t s s
  same-given t s x x' u u' e e' = let z : ◌≡◌ {A = O (Given Value)} (gave x u) (gave x' u') = sym e ∙ e' in let q : x ≡ x' = cc in ap (λ (x : Given Value). x.value) q

  same_target : (f : Form) (ts : Trees) (s : S) → TargetSame names m f ts v s s
  same_target f none s = tt
  same_target f (more t ts) s = λ p q h. same-given t s

  mutual
    same-targets : (t : Tree) (s : S) → TargetsSame names m t v s s
    same-targets (node n ts) s = (same_target _ ts s, all_same ts s)

    all_same : (ts : Trees) (s : S) → AllTargetsSame names m ts v s s
    all_same none s = tt
    all_same (more t ts) s = (same-targets t s, all_same ts s)

  -- r that changes nothing is met at one state as at another
  pub data Here (s u : S) : Type 0 where
    same : u ≡ s → Here s u
    unchanging-unless : Unchanging σ → Here s u

  unchanging-state : Unchanging σ → (s s' : S) (x : Given Value) → go r s ≡ gave x s' → s ≡ s'
  unchanging-state q s s' x e = let (y, g, h) = q s in let z : ◌≡◌ {A = O (Given Value)} (gave y s) (gave x s') = sym g ∙ e in let w : s ≡ s' = cc in w

  pub fairs_here : (ts : Trees) {s u : S} → Here s u → FairsAt s ts → FairsAt u ts
  fairs_here ts (same e) h = subst (λ s. FairsAt s ts) (sym e) h
  fairs_here ts {u = u} (unchanging-unless q) h = λ x s' e. subst (λ s. AllTargetsSame names m ts v u s) (unchanging-state q u s' x e) (all_same ts u)

  pub fair_head : (t : Tree) (ts : Trees) (s : S) → FairsAt s (more t ts) → FairAt s t
  fair_head t ts s h = λ x s' e. (h x s' e).0

  pub fair_tail : (t : Tree) (ts : Trees) (s : S) → FairsAt s (more t ts) → FairsAt s ts
  fair_tail t ts s h = λ x s' e. (h x s' e).1

  -- Of a member in the name's place only the value is the same.
  unfoldable pub value_only : Tree → Given Value → Given Value
  value_only t x = cond (is_specific_id v (root t) && is_member_tag r) (only x.value) x

  abbrev pub Placed : Tree → Tree → S → Type 0
  Placed t t' s = D (over (value_only t) (F (go t) s)) ≡ D (over (value_only t) (go t' s))

  -- What is claimed of an answer: replaced, r may run where it was put; stopped, nothing changed; passed, there is a reason.
  abbrev pub Good : Tree → Answer Tree → Type 0
  Good t (replaced t') = (1 ≤ reads v t) × ((s : S) → FairAt s t → Placed t t' s)
  Good t (stopped t') = (role : Role) (s : S) → run names m t' role s ≡ run names m t role s
  Good t passed = reads v t ≡ 0 → (s : S) → Why s (go t)

  tidied : (b : Bool) (x : Given Value) → (cond b (only x.value) x).value ≡ x.value
  tidied true x = refl
  tidied false x = refl

  pub value_only_value : (t : Tree) (x : Given Value) → (value_only t x).value ≡ x.value
  unfolding value_only
  value_only_value t x = tidied (is_specific_id v (root t) && is_member_tag r) x

  abbrev pub Unaimed : Given Value → Type 0
  Unaimed x = Off v x.beside

  tidied-off : (b : Bool) (x : Given Value) → Unaimed x → Unaimed (cond b (only x.value) x)
  tidied-off true x h = nothing-off v
  tidied-off false x h = h

  value_only_off : (t : Tree) (x : Given Value) → Unaimed x → Unaimed (value_only t x)
  unfolding value_only
  value_only_off t x h = tidied-off (is_specific_id v (root t) && is_member_tag r) x h

  pub go-off : (t : Tree) (role : Role) → targets v t ≡ 0 → (s : S) → Only Unaimed (run names m t role s)
  go-off t role h s = ends-map (gives-off names m v t h role s) (λ x s' p. p.0) (λ s' p. tt) (λ p. p)

  -- r stays before the first part, or goes behind it
  pub place-first : {B : Type 0} (t t' : Tree) (K : Given Value → S → O B) (s : S) → targets v t ≡ 0 → Placed t t' s → ((x : Given Value) (s : S) → K (value_only t x) s ≡ K x s) → ((x : Given Value) → Unaimed x → Framed σ (K x)) → D (F (λ s. bind (go t s) K) s) ≡ D (bind (go t' s) K)
  place-first t t' K s g h i k =
      ap D (first-bind σ (go t) K s ∙ sym (over-bind (value_only t) _ K ∙ bind-same _ _ K i))
      ∙ drop-only σ _ K (over-only (value_only t) (first-only σ (go t) (go-off t value g) s) (value_only_off t)) k h
      ∙ ap D (over-bind (value_only t) _ K ∙ bind-same _ _ K i)

  same-only : {A B : Type 0} {P : A → Type 0} {o : O A} (f g : A → S → O B) → Only P o → ((a : A) (s : S) → P a → D (f a s) ≡ D (g a s)) → D (bind o f) ≡ D (bind o g)
  unfolding bind
  same-only f g (gives p) h = h _ _ p
  same-only f g (cuts p) h = refl
  same-only f g (halts p) h = refl

  only_here : {A : Type 0} {P : A → Type 0} {a : A} {s : S} → Only P (gave a s) → P a
  only_here (gives p) = p

  steady-rest : {A B : Type 0} {P : A → Type 0} (o : O A) (a : A) (s : S) (f g : A → S → O B) → o ≡ gave a s → Only P o → (P a → D (f a s) ≡ D (g a s)) → D (bind o f) ≡ D (bind o g)
  unfolding bind
  steady-rest {P = P} o a s f g e p h = rw e (h (only_here (subst (λ o. Only P o) e p)))

  pub place_rest : {A B : Type 0} {P : A → Type 0} (c : S → O A) (K K' : A → S → O B) (s : S) → Only P (c s) → Why s c → ((x : A) (u : S) → P x → Here s u → D (F (K x) u) ≡ D (K' x u)) → D (F (λ s. bind (c s) K) s) ≡ D (bind (c s) K')
  place_rest c K K' s p (reading q h e) g = passing σ c s (reading q h e) K ∙ same-only _ K' p (λ x u o. g x u o (unchanging-unless q))
  place_rest c K K' s p (steady ξ d i k) g = passing σ c s (steady ξ d i k) K ∙ steady-rest (c s) (ξ s.store) s _ K' (d s) p (λ o. g _ s o (same refl))

  -- The children behind the first: what is claimed of a plan and a turn.
  abbrev pub UnchangingUnless : Turn → Type 0
  UnchangingUnless w = (w ≡ all → ⊥) → Unchanging σ

  abbrev pub Meant : Plan → Turn → Type 0
  Meant every w = Unit {0}
  Meant leading w = Unit {0}
  Meant none_at_all w = Unit {0}
  Meant behind w = ⊥
  Meant test w = ⊥
  Meant branches w = forks w ≡ true
  Meant tag w = ⊥

  abbrev pub PlacedAll : Plan → Trees → Trees → Type 0
  PlacedAll p ts ts' = (w : Turn) → UnchangingUnless w → Meant p w → (s : S) → FairsAt s ts → D (F (run_others names m ts w) s) ≡ D (run_others names m ts' w s)

  abbrev pub Goods : Plan → Trees → Answer Trees → Type 0
  Goods p ts (replaced ts') = (is_nothing p ≡ false) × (1 ≤ all_reads v ts) × PlacedAll p ts ts'
  Goods p ts (stopped ts') = (is_nothing p ≡ false) × ((w : Turn) (s : S) → run_others names m ts' w s ≡ run_others names m ts w s)
  Goods p ts passed = p ≡ every → all_reads v ts ≡ 0 → (s : S) → Why s (run_others names m ts all)

  takes_all : (w : Turn) → takes w ≡ false → w ≡ all → ⊥
  unfolding takes
  takes_all w e q = clash (takes w) e (ap takes q)

  then-all : (w : Turn) → UnchangingUnless w → UnchangingUnless (then w)
  unfolding then
  then-all w h = λ g. h (λ q. g (ap then q))

  turn_framed : (ts : Trees) (w : Turn) → all_reads v ts ≡ 0 → all_targets v ts ≡ 0 → (x : Given Value) → Framed σ (λ s. bind (run_others names m ts w s) (λ hs s'. gave (only x.value ∷ hs) s'))
  turn_framed ts w h g x a s = rw (free-others σ ts w h g a s) (shifted-bind _ _ _ (λ hs s'. gave-on _ s'))

  -- r goes into the first of them
  at_first : (t t' : Tree) (ts : Trees) (w : Turn) (b : Bool) (s : S) → takes w ≡ b → targets v t ≡ 0 → all_reads v ts ≡ 0 → all_targets v ts ≡ 0 → Placed t t' s → UnchangingUnless w
      → D (F (λ s. cond b (in_turn (λ s'. go t s') (λ s'. run_others names m ts (then w) s') s) (run_others names m ts (then w) s)) s)
      ≡ D (cond b (in_turn (λ s'. go t' s') (λ s'. run_others names m ts (then w) s') s) (run_others names m ts (then w) s))
  unfolding in_turn
  at_first t t' ts w true s e k h i g c = place-first t t' _ s k g (λ x s'. rw (value_only_value t x)) (λ x o. turn_framed ts (then w) h i x)
  at_first t t' ts w false s e k h i g c = unchanging-drop σ (c (takes_all w e)) _ (free-others σ ts (then w) h i) s

  -- or behind it
  at_rest : (t : Tree) (ts ts' : Trees) (w : Turn) (b : Bool) (s : S) → targets v t ≡ 0 → Why s (go t) → ((u : S) → Here s u → D (F (run_others names m ts (then w)) u) ≡ D (run_others names m ts' (then w) u))
      → D (F (λ s. cond b (in_turn (λ s'. go t s') (λ s'. run_others names m ts (then w) s') s) (run_others names m ts (then w) s)) s)
      ≡ D (cond b (in_turn (λ s'. go t s') (λ s'. run_others names m ts' (then w) s') s) (run_others names m ts' (then w) s))
  unfolding in_turn
  at_rest t ts ts' w true s k y h =
      place_rest (go t) _ _ s (go-off t value k s) y (λ x u o e. ap D (first-bind σ (run_others names m ts (then w)) _ u) ∙ drop-bind σ _ _ _ (λ hs a s'. gave-on _ s') (h u e))
  at_rest t ts ts' w false s k y h = h s (same refl)

  -- the answers of a forest
  order_good : (p : Plan) (t : Tree) (ts : Trees) (a : Answer Tree) (b : Answer Trees) → is_nothing p ≡ false → reads v t + all_reads v ts ≤ 1 → targets v t ≡ 0 → all_targets v ts ≡ 0 → ((w : Turn) → Meant p w → Meant (next p) (then w)) → (p ≡ every → next p ≡ every)
      → Good t a → Goods (next p) ts b → Goods p (more t ts) (in_order t ts a b)
  unfolding in_order run uses_in
  order_good p t ts (replaced t') b n c k l i j h g = (n, omega (arith, h.0), λ w q z s u. at_first t t' ts w (takes w) s refl k (omega (arith, h.0)) l (h.1 s (fair_head t ts s u)) q)
  order_good p t ts (stopped t') b n c k l i j h g = (n, λ w s. others_same names m t t' ts ts w (λ s. h value s) (λ s. refl) s)
  order_good p t ts passed (replaced ts') n c k l i j h g =
      (n, omega (arith, g.1), λ w q z s u. at_rest t ts ts' w (takes w) s k (h (omega (arith, g.1)) s) (λ u' e. g.2 (then w) (then-all w q) (i w z) u' (fairs_here ts e (fair_tail t ts s u))))
  order_good p t ts passed (stopped ts') n c k l i j h g = (n, λ w s. others_same names m t t ts ts' w (λ s. refl) (λ s. g.1 (then w) s) s)
  order_good p t ts passed passed n c k l i j h g = λ e z s. unfold in_turn takes then in two-reasons σ (λ x hs. only x.value ∷ hs) (h (omega arith) s) (g (j e) (omega arith) s)

  none_runs : (ts : Trees) (s : S) → run_others names m ts skipped s ≡ gave [] s
  unfolding run takes then
  none_runs none s = refl
  none_runs (more t ts) s = none_runs ts s

  -- the first of two branches alone
  abbrev alone : Tree → S → O (List (Given Value))
  alone t s = in_turn (λ s'. go t s') (λ s'. gave [] s') s

  second_runs : (t : Tree) (ts : Trees) (s : S) → run_others names m (more t ts) second s ≡ alone t s
  unfolding run takes then
  second_runs t ts s = in_turn_same _ _ _ _ (λ s'. refl) (λ s'. none_runs ts s') s

  alone_framed : (t : Tree) → reads v t ≡ 0 → targets v t ≡ 0 → Framed σ (alone t)
  alone_framed t h g a s = in_turn_on (Put v a) _ _ s (λ s'. free-frame σ t h g value a s') (λ s'. gave-on _ s')

  at_fork : (t t' : Tree) (ts ts' : Trees) (w : Turn) (s : S) → reads v t ≡ 0 → targets v t ≡ 0 → ((s : S) → go t' s ≡ go t s) → D (F (run_others names m ts all) s) ≡ D (run_others names m ts' all s) → UnchangingUnless w → forks w ≡ true → D (F (run_others names m (more t ts) w) s) ≡ D (run_others names m (more t' ts') w s)
  unfolding run takes then forks
  at_fork t t' ts ts' all s c k h g q e = clash false refl e
  at_fork t t' ts ts' skipped s c k h g q e = clash false refl e
  at_fork t t' ts ts' second s c k h g q e =
      unchanging-drop σ (q (λ e. let z : ◌≡◌ {A = ℕ} 0 1 = cc in omega arith)) _ (λ a s. second_runs t ts (moved (Put v a) s) ∙ alone_framed t c k a s ∙ ap (shifted (Put v a)) (sym (second_runs t ts s))) s
      ∙ ap D (second_runs t ts s ∙ sym (in_turn_same _ _ _ _ h (λ s'. refl) s) ∙ sym (second_runs t' ts' s))
  at_fork t t' ts ts' third s c k h g q e = g

  pub all-unchanging : UnchangingUnless all
  all-unchanging g = absurd (g refl)

  branches_good : (t : Tree) (ts : Trees) (a : Answer Tree) (b : Answer Trees) → reads v t + all_reads v ts ≤ 1 → targets v t ≡ 0 → all_targets v ts ≡ 0 → Good t a → Goods every ts b → Goods branches (more t ts) (in_branches t ts a b)
  unfolding in_branches in_order run uses_in is_nothing
  branches_good t ts (replaced t') b c k l h g = (refl, omega (arith, h.0), λ w q z s u. at_first t t' ts w (takes w) s refl k (omega (arith, h.0)) l (h.1 s (fair_head t ts s u)) q)
  branches_good t ts (stopped t') (replaced ts') c k l h g = (refl, omega (arith, g.1), λ w q z s u. at_fork t t' ts ts' w s (omega (arith, g.1)) k (λ s. h value s) (g.2 all all-unchanging tt s (fair_tail t ts s u)) q z)
  branches_good t ts (stopped t') (stopped ts') c k l h g = (refl, λ w s. others_same names m t t' ts ts' w (λ s. h value s) (λ s. g.1 (then w) s) s)
  branches_good t ts (stopped t') passed c k l h g = (refl, λ w s. others_same names m t t' ts ts w (λ s. h value s) (λ s. refl) s)
  branches_good t ts passed (replaced ts') c k l h g = (refl, omega (arith, g.1), λ w q z s u. at_fork t t ts ts' w s (omega (arith, g.1)) k (λ s. refl) (g.2 all all-unchanging tt s (fair_tail t ts s u)) q z)
  branches_good t ts passed (stopped ts') c k l h g = (refl, λ w s. others_same names m t t ts ts' w (λ s. refl) (λ s. g.1 (then w) s) s)
  branches_good t ts passed passed c k l h g = λ e. absurd (let z : ◌≡◌ {A = ℕ} 0 1 = cc in omega arith)

  -- a plan that is of a node's children only, of which the others are searched: an assignment's, a tag's
  behind_good : (t : Tree) (ts : Trees) (b : Answer Trees) → Goods every ts b → Goods behind (more t ts) (in_order t ts passed b)
  unfolding in_order uses_in is_nothing
  behind_good t ts (replaced ts') g = (refl, omega (arith, g.1), λ w q z. absurd z)
  behind_good t ts (stopped ts') g = (refl, λ w s. others_same names m t t ts ts' w (λ s. refl) (λ s. g.1 (then w) s) s)
  behind_good t ts passed g = λ e. absurd (let z : ◌≡◌ {A = ℕ} 0 1 = cc in omega arith)

  tag_good : (t : Tree) (ts : Trees) (a : Answer Tree) (b : Answer Trees) → Good t a → Goods every ts b → Goods tag (more t ts) (in_order t ts (as_tag a) b)
  unfolding in_order as_tag uses_in is_nothing
  tag_good t ts (replaced t') b h g = (refl, omega (arith, h.0), λ w q z. absurd z)
  tag_good t ts (stopped t') b h g = (refl, λ w s. others_same names m t t' ts ts w (λ s. h value s) (λ s. refl) s)
  tag_good t ts passed (replaced ts') h g = (refl, omega (arith, g.1), λ w q z. absurd z)
  tag_good t ts passed (stopped ts') h g = (refl, λ w s. others_same names m t t ts ts' w (λ s. refl) (λ s. g.1 (then w) s) s)
  tag_good t ts passed passed h g = λ e. absurd (let z : ◌≡◌ {A = ℕ} 0 1 = cc in omega arith)

  -- a child before others, as the plan has it
  pub plan_good : (p : Plan) (t : Tree) (ts : Trees) (a : Answer Tree) (b : Answer Trees) → reads v t + all_reads v ts ≤ 1 → targets v t ≡ 0 → all_targets v ts ≡ 0 → Good t a → Goods (next p) ts b → Goods p (more t ts) (by_plan p t ts a b)
  unfolding by_plan next is_nothing
  plan_good every t ts a b c k l h g = order_good every t ts a b refl c k l (λ w z. tt) (λ e. refl) h g
  plan_good leading t ts a b c k l h g = order_good leading t ts a b refl c k l (λ w z. tt) (λ e. cc) h g
  plan_good none_at_all t ts a b c k l h g = λ e. absurd (let z : ◌≡◌ {A = ℕ} 0 1 = cc in omega arith)
  plan_good behind t ts a b c k l h g = behind_good t ts b g
  plan_good test t ts a b c k l h g = order_good test t ts a b refl c k l (λ w z. absurd z) (λ e. cc) h g
  plan_good branches t ts a b c k l h g = branches_good t ts a b c k l h g
  plan_good tag t ts a b c k l h g = tag_good t ts a b h g
