-- The answers of a node's children: its first child, a choice, the others.
use Prim.Native.Nat.{ℕ, ◌+◌, ◌≤◌}
use native.Mathlib.Omega.{arith}
use mathlib.Core.Bool.{Bool, true, false}
use mathlib.Core.List.{List, [], ◌∷◌}
use mathlib.Core.Path.{◌≡◌, refl, sym, ap, ◌∙◌, subst, fun_ext}
use lib.Dec.{eqb}
use Rattle.records.specs.Tree.{Node, Tree, Trees, more}
use Rattle.records.specs.Count.{uses_in}
use Rattle.records.specs.declared.layout.NameFacts.{NameFacts}
use Rattle.records.proofs.Tests.{clash}
use Rattle.walk_rules.specs.Substitute.{Answer, replaced, stopped, passed, Plan, all as every, first as leading, nothing as none_at_all, value as behind, test, branches, tag, next, as_tag, in_order, by_plan, preserve_indirect_access}
use Rattle.theory_runs.specs.Hand.{Given}
use Rattle.theory_runs.specs.Step.{Role, value}
use Rattle.theory_runs.specs.Form.{is, Choice, never, logical, conditional, optionally, Form, choice_of, first_role}
use Rattle.theory_runs.specs.State.{State, Out, gave, cut, bind}
use Rattle.theory_runs.specs.Run.{Turn, all, skipped, second, third, kept, chosen, after_first, run, run_children, run_others}
use Rattle.theory_preservation.proofs.Ends.{step_of}
use Rattle.theory_preservation.proofs.Uses.{reads, all_reads, targets, all_targets, Off, kept_off, first_off, off-through}
use Rattle.theory_preservation.proofs.Frame.{moved, shifted, gave-on, after_first-on}
use Rattle.theory_preservation.proofs.Setting.{Setting}
use Rattle.theory_preservation.proofs.Passing.{Put, put_unseen, bind-same, first, drop, Framed, Unchanging, Reason, unchanging-first, unchanging-drop, drop-only, drop-bind, first-bind, first-same, first-only, two-reasons}
use Rattle.theory_preservation.proofs.Same.{hand_of, children-same}
use Rattle.theory_preservation.proofs.Waiting.{free-others}
use Rattle.theory_preservation.proofs.Placing.{is_nothing, fairs_here, fair_head, fair_tail, value_only, value_only_value, go-off, place-first, place_rest}
use Rattle.theory_preservation.proofs.Placing as P
use Rattle.theory_preservation.proofs.Turns.{lets, straight, choose}
use Rattle.theory_preservation.proofs.Turns as T

module _ {Value Rest : Type 0} (σ : Setting Value Rest) where
  open σ use {file, m, v, r, nothing_hidden}

  abbrev S : Type 0
  S = State Value Rest

  abbrev O : Type 0 → Type 0
  O A = Out Value Rest A

  abbrev names : List NameFacts
  names = file.names

  abbrev D : {A : Type 0} → O A → O A
  D o = drop σ o

  abbrev F : {A : Type 0} → (S → O A) → S → O A
  F c s = first σ c s

  abbrev go : Tree → S → O (Given Value)
  go t s = run names m t value s

  abbrev Why : {A : Type 0} → S → (S → O A) → Type 0
  Why s c = Reason σ s c

  -- a node that isn't v
  abbrev pub Other : Node → Type 0
  Other n = (is 4 n ≡ true → eqb n.label v ≡ false) × (is 29 n ≡ true → eqb n.label v ≡ false)

  abbrev Turns : Plan → Form → Type 0
  Turns p f = T.Turns σ p f

  pub straight-goes : (f : Form) (n : Node) (role : Role) (cs : Turn → S → O (List (Given Value))) (x : Given Value) (s : S) → choice_of f ≡ never → after_first m f n role cs x s ≡ bind (cs all s) (λ hs s'. gave (hand_of f n x ∷ hs) s')
  unfolding after_first
  straight-goes f n role cs x s e = rw e (unfold chosen in refl)

  cut_framed : {A : Type 0} → Framed σ {A = A} (λ s. cut s)
  unfolding shifted
  cut_framed a s = refl

  chosen-place : Unchanging σ → (c : Choice) (b : Bool) (cs cs' : Turn → S → O (List (Given Value))) (s : S) → ((w : Turn) → lets c w ≡ true → D (F (cs w) s) ≡ D (cs' w s)) → D (F (λ u. chosen c b cs u) s) ≡ D (chosen c b cs' s)
  unfolding chosen lets
  chosen-place q never b cs cs' s h = h all refl
  chosen-place q logical true cs cs' s h = h all refl
  chosen-place q logical false cs cs' s h = h skipped refl
  chosen-place q conditional true cs cs' s h = h second refl
  chosen-place q conditional false cs cs' s h = h third refl
  chosen-place q optionally true cs cs' s h = h all refl
  chosen-place q optionally false cs cs' s h = unchanging-drop σ q (λ u. cut u) cut_framed s

  abbrev choice_of_lem : Form → Node → Given Value → S → Bool
  choice_of_lem f n x s = m.chooses (step_of n value (hand_of f n x ∷ [])) s.store

  moved-goes : (f : Form) (n : Node) (cs : Turn → S → O (List (Given Value))) (x : Given Value) (s : S) (a : Value) → Other n → Off v x.beside
      → after_first m f n value cs x (moved (Put v a) s) ≡ bind (chosen (choice_of f) (choice_of_lem f n x s) cs (moved (Put v a) s)) (λ hs s'. gave (hand_of f n x ∷ hs) s')
  unfolding after_first
  moved-goes f n cs x s a (e, g) h =
      let z : m.chooses (step_of n value (hand_of f n x ∷ [])) (moved (Put v a) s).store ≡ choice_of_lem f n x s = (unfold moved Put in (put_unseen {Rest = Rest} nothing_hidden a).chooses (step_of n value (hand_of f n x ∷ [])) (off-through v n value (hand_of f n x ∷ []) e g (first_off v (hand_of f n x ∷ []) (kept_off v f n x.beside h))) s.store) in
      rw z

  choose-goes : (f : Form) (n : Node) (cs : Turn → S → O (List (Given Value))) (x : Given Value) (s : S) → Other n → Off v x.beside → Unchanging σ
      → F (after_first m f n value cs x) s ≡ bind (F (λ u. chosen (choice_of f) (choice_of_lem f n x s) cs u) s) (λ hs s'. gave (hand_of f n x ∷ hs) s')
  choose-goes f n cs x s e h q =
      unchanging-first σ q _ s
      ∙ moved-goes f n cs x s _ e h
      ∙ ap (λ o. bind o (λ hs s'. gave (hand_of f n x ∷ hs) s')) (sym (unchanging-first σ q (λ u. chosen (choice_of f) (choice_of_lem f n x s) cs u) s))

  as_goes : (f : Form) (n : Node) (cs : Turn → S → O (List (Given Value))) (x : Given Value) (s : S) → bind (chosen (choice_of f) (choice_of_lem f n x s) cs s) (λ hs s'. gave (hand_of f n x ∷ hs) s') ≡ after_first m f n value cs x s
  unfolding after_first
  as_goes f n cs x s = refl

  goes-place : (p : Plan) (f : Form) (n : Node) (ts ts' : Trees) (x : Given Value) (s : S) → Other n → Turns p f → Off v x.beside → ((w : Turn) → P.UnchangingUnless σ w → P.Meant σ (next p) w → D (F (run_others names m ts w) s) ≡ D (run_others names m ts' w s))
      → D (F (after_first m f n value (λ w s'. run_others names m ts w s') x) s) ≡ D (after_first m f n value (λ w s'. run_others names m ts' w s') x s)
  goes-place p f n ts ts' x s e (straight g u) h i =
      ap D (first-same σ _ _ (λ s. straight-goes f n value _ x s g) s ∙ first-bind σ (run_others names m ts all) _ s)
      ∙ drop-bind σ _ _ _ (λ hs a s'. gave-on _ s') (i all (P.all-unchanging σ) u)
      ∙ ap D (sym (straight-goes f n value _ x s g))
  goes-place p f n ts ts' x s e (choose q u) h i =
      ap D (choose-goes f n _ x s e h q)
      ∙ drop-bind σ _ _ _ (λ hs a s'. gave-on _ s') (chosen-place q (choice_of f) (choice_of_lem f n x s) _ (λ w s'. run_others names m ts' w s') s (λ w l. i w (λ z. q) (u w l)))
      ∙ ap D (as_goes f n (λ w s'. run_others names m ts' w s') x s)

  -- what is in hand of the first child is the same where r takes its place
  abbrev pub Searching : Form → Node → Tree → Type 0
  Searching f n t = (x : Given Value) → kept f n (value_only σ t x).beside ≡ kept f n x.beside

  goes_value_only : (f : Form) (n : Node) (t : Tree) (cs : Turn → S → O (List (Given Value))) → Searching f n t → (x : Given Value) (s : S) → after_first m f n value cs (value_only σ t x) s ≡ after_first m f n value cs x s
  unfolding after_first
  goes_value_only f n t cs h x s = rw (value_only_value σ t x, h x)

  -- put aside, r gives what the name gave, and no more
  abbrev pub Aside : Tree → Type 0
  Aside t = (t' : Tree) (s : S) → P.Placed σ t t' s → D (F (go t) s) ≡ D (go (preserve_indirect_access t') s)

  abbrev pub First-value : Form → Node → Type 0
  First-value f n = first_role f n value ≡ value

  -- What a plan may count on.
  abbrev pub Links : Plan → Form → Node → Tree → Trees → Type 0
  Links every f n t ts = Searching f n t × Turns every f × First-value f n
  Links leading f n t ts = Searching f n t × First-value f n
  Links none_at_all f n t ts = Unit {0}
  Links behind f n t ts = ((s : S) → P.TargetAt σ s f (more t ts) → 1 ≤ all_reads v ts → reads v t ≡ 0 → Why s (run names m t (first_role f n value))) × Turns behind f
  Links test f n t ts = Searching f n t × Turns test f × First-value f n
  Links branches f n t ts = ⊥
  Links tag f n t ts = Aside t × Turns tag f × First-value f n

  -- What is claimed of the answer of a node's children.
  abbrev pub Parts : Plan → Form → Node → Trees → Answer Trees → Type 0
  Parts p f n ts (replaced ts') = (is_nothing p ≡ false) × (1 ≤ all_reads v ts) × ((s : S) → P.TargetAt σ s f ts → P.FairsAt σ s ts → D (F (run_children names m ts f n value) s) ≡ D (run_children names m ts' f n value s))
  Parts p f n ts (stopped ts') = (is_nothing p ≡ false) × ((role : Role) (s : S) → run_children names m ts' f n role s ≡ run_children names m ts f n role s)
  Parts p f n ts passed = p ≡ every → choice_of f ≡ never → all_reads v ts ≡ 0 → (s : S) → Why s (run_children names m ts f n value)

  abbrev children : Tree → Trees → Form → Node → S → O (List (Given Value))
  children t ts f n s = bind (go t s) (after_first m f n value (λ w s'. run_others names m ts w s'))

  by_value : (t : Tree) (ts : Trees) (f : Form) (n : Node) (s : S) → First-value f n → run_children names m (more t ts) f n value s ≡ children t ts f n s
  unfolding run
  by_value t ts f n s e = ap (λ ρ. bind (run names m t ρ s) (after_first m f n value (λ w s'. run_others names m ts w s'))) e

  -- a reason for each child is one for all, where there is no choice
  pub straight_why : (f : Form) (n : Node) (role : Role) (t : Tree) (ts : Trees) {s : S} → choice_of f ≡ never → Why s (run names m t (first_role f n role)) → Why s (run_others names m ts all) → Why s (run_children names m (more t ts) f n role)
  unfolding run
  straight_why f n role t ts {s = s} e y z = subst (λ c. Why s c) (fun_ext (λ s. bind-same _ _ _ (λ x s'. sym (straight-goes f n role _ x s' e)))) (two-reasons σ (λ x hs. hand_of f n x ∷ hs) y z)

  straight-value : (f : Form) (n : Node) (t : Tree) (ts : Trees) {s : S} → First-value f n → choice_of f ≡ never → Why s (go t) → Why s (run_others names m ts all) → Why s (run_children names m (more t ts) f n value)
  straight-value f n t ts {s = s} e g y z = straight_why f n value t ts g (subst (λ ρ. Why s (run names m t ρ)) (sym e) y) z

  goes_framed : (f : Form) (n : Node) (ts : Trees) → Other n → all_reads v ts ≡ 0 → all_targets v ts ≡ 0 → (x : Given Value) → Off v x.beside → Framed σ (after_first m f n value (λ w s'. run_others names m ts w s') x)
  goes_framed f n ts (e, i) h g x o a s = after_first-on names m v (Put v a) (put_unseen nothing_hidden a) f n value _ x s e i o (λ w s'. free-others σ ts w h g a s')

  -- r into the first child, or behind it
  into-first : (t t' : Tree) (ts : Trees) (f : Form) (n : Node) (s : S) → Other n → First-value f n → targets v t ≡ 0 → all_reads v ts ≡ 0 → all_targets v ts ≡ 0 → Searching f n t → P.Placed σ t t' s → D (F (run_children names m (more t ts) f n value) s) ≡ D (run_children names m (more t' ts) f n value s)
  into-first t t' ts f n s o e k h i z p =
      ap D (first-same σ _ _ (λ s. by_value t ts f n s e) s)
      ∙ place-first σ t t' (after_first m f n value (λ w s'. run_others names m ts w s')) s k p (λ x s'. goes_value_only f n t _ z x s') (λ x u. goes_framed f n ts o h i x u)
      ∙ ap D (sym (by_value t' ts f n s e))

  into-rest : (p : Plan) (t : Tree) (ts ts' : Trees) (f : Form) (n : Node) (s : S) → Other n → targets v t ≡ 0 → Turns p f → Why s (run names m t (first_role f n value)) → P.FairsAt σ s ts → P.PlacedAll σ (next p) ts ts' → D (F (run_children names m (more t ts) f n value) s) ≡ D (run_children names m (more t ts') f n value s)
  unfolding run
  into-rest p t ts ts' f n s o k l y u g =
      place_rest σ (run names m t (first_role f n value)) _ _ s (go-off σ t (first_role f n value) k s) y
      (λ x u' a e. goes-place p f n ts ts' x u' o l a (λ w q z. g w q z u' (fairs_here σ ts e u)))

  part_order : (p : Plan) (f : Form) (n : Node) (t : Tree) (ts : Trees) (a : Answer Tree) (b : Answer Trees) → is_nothing p ≡ false → Other n → reads v t + all_reads v ts ≤ 1 → targets v t ≡ 0 → all_targets v ts ≡ 0 → First-value f n → ((t' : Tree) → a ≡ replaced t' → Searching f n t)
      → ((ts' : Trees) → b ≡ replaced ts' → Turns p f) → (p ≡ every → next p ≡ every) → P.Good σ t a → P.Goods σ (next p) ts b → Parts p f n (more t ts) (in_order t ts a b)
  unfolding in_order uses_in
  part_order p f n t ts (replaced t') b q o c k l e i j y h g = (q, omega (arith, h.0), λ s d u. into-first t t' ts f n s o e k (omega (arith, h.0)) l (i t' refl) (h.1 s (fair_head σ t ts s u)))
  part_order p f n t ts (stopped t') b q o c k l e i j y h g = (q, children-same names m t t' ts ts f n h (λ w s. refl))
  part_order p f n t ts passed (replaced ts') q o c k l e i j y h g =
      (q, omega (arith, g.1), λ s d u. into-rest p t ts ts' f n s o k (j ts' refl) (subst (λ ρ. Why s (run names m t ρ)) (sym e) (h (omega (arith, g.1)) s)) (fair_tail σ t ts s u) g.2)
  part_order p f n t ts passed (stopped ts') q o c k l e i j y h g = (q, children-same names m t t ts ts' f n (λ role s. refl) g.1)
  part_order p f n t ts passed passed q o c k l e i j y h g = λ z w d s. straight-value f n t ts e w (h (omega arith) s) (g (y z) (omega arith) s)

  part_behind : (f : Form) (n : Node) (t : Tree) (ts : Trees) (b : Answer Trees) → Other n → reads v t + all_reads v ts ≤ 1 → targets v t ≡ 0 → Links behind f n t ts → P.Goods σ every ts b → Parts behind f n (more t ts) (in_order t ts passed b)
  unfolding in_order uses_in is_nothing next
  part_behind f n t ts (replaced ts') o c k l g =
      (refl, omega (arith, g.1), λ s d u. into-rest behind t ts ts' f n s o k l.1 (l.0 s d g.1 (omega (arith, g.1))) (fair_tail σ t ts s u) g.2)
  part_behind f n t ts (stopped ts') o c k l g = (refl, children-same names m t t ts ts' f n (λ role s. refl) g.1)
  part_behind f n t ts passed o c k l g = λ e. absurd (let z : ◌≡◌ {A = ℕ} 0 1 = cc in omega arith)

  part_tag : (f : Form) (n : Node) (t : Tree) (ts : Trees) (a : Answer Tree) (b : Answer Trees) → Other n → reads v t + all_reads v ts ≤ 1 → targets v t ≡ 0 → all_targets v ts ≡ 0 → Links tag f n t ts → P.Good σ t a → P.Goods σ every ts b → Parts tag f n (more t ts) (in_order t ts (as_tag a) b)
  unfolding in_order as_tag uses_in is_nothing next
  part_tag f n t ts (replaced t') b o c k l q h g = (
    refl,
    omega (arith, h.0),
    λ s d u.
        ap D (first-same σ _ _ (λ s. by_value t ts f n s q.2) s ∙ first-bind σ (go t) _ s)
        ∙ drop-only σ _ _ (first-only σ (go t) (go-off σ t value k) s) (λ x z. goes_framed f n ts o (omega (arith, h.0)) l x z) (q.0 t' s (h.1 s (fair_head σ t ts s u)))
        ∙ ap D (sym (by_value (preserve_indirect_access t') ts f n s q.2)),
  )
  part_tag f n t ts (stopped t') b o c k l q h g = part_order tag f n t ts (stopped t') b refl o c k l q.2 (λ t'' e. absurd (let z : ◌≡◌ {A = ℕ} 0 1 = cc in omega arith)) (λ ts' e. q.1) (λ e. cc) h g
  part_tag f n t ts passed b o c k l q h g = part_order tag f n t ts passed b refl o c k l q.2 (λ t'' e. absurd (let z : ◌≡◌ {A = ℕ} 0 1 = cc in omega arith)) (λ ts' e. q.1) (λ e. cc) h g

  nothing_good : (ts : Trees) (b : Answer Trees) → P.Goods σ none_at_all ts b → (ts' : Trees) → b ≡ replaced ts' → ⊥
  unfolding is_nothing
  nothing_good ts (replaced x) g ts' e = clash true g.0 refl
  nothing_good ts (stopped x) g ts' e = let z : ◌≡◌ {A = ℕ} 0 1 = cc in omega arith
  nothing_good ts passed g ts' e = let z : ◌≡◌ {A = ℕ} 0 1 = cc in omega arith

  -- a node's first child before the others, as the plan has it
  pub part_good : (p : Plan) (f : Form) (n : Node) (t : Tree) (ts : Trees) (a : Answer Tree) (b : Answer Trees) → Other n → reads v t + all_reads v ts ≤ 1 → targets v t ≡ 0 → all_targets v ts ≡ 0 → Links p f n t ts → P.Good σ t a → P.Goods σ (next p) ts b → Parts p f n (more t ts) (by_plan p t ts a b)
  unfolding by_plan next is_nothing
  part_good every f n t ts a b o c k l q h g = part_order every f n t ts a b refl o c k l q.2 (λ t' e. q.0) (λ ts' e. q.1) (λ e. refl) h g
  part_good leading f n t ts a b o c k l q h g = part_order leading f n t ts a b refl o c k l q.1 (λ t' e. q.0) (λ ts' e. absurd (nothing_good ts b g ts' e)) (λ e. cc) h g
  part_good none_at_all f n t ts a b o c k l q h g = λ e. absurd (let z : ◌≡◌ {A = ℕ} 0 1 = cc in omega arith)
  part_good behind f n t ts a b o c k l q h g = part_behind f n t ts b o c k q g
  part_good test f n t ts a b o c k l q h g = part_order test f n t ts a b refl o c k l q.2 (λ t' e. q.0) (λ ts' e. q.1) (λ e. cc) h g
  part_good branches f n t ts a b o c k l q h g = absurd q
  part_good tag f n t ts a b o c k l q h g = part_tag f n t ts a b o c k l q h g
