-- What the search goes past commutes with the initializer.
use Prim.Native.Nat.{ℕ}
use mathlib.Core.Bool.{Bool, true, false, cond}
use mathlib.Core.List.{List, [], ◌++◌}
use mathlib.Core.Path.{◌≡◌, refl, sym, ap, ap₂, ◌∙◌, subst, fun_ext}
use lib.Dec.{eqb}
use Rattle.records.specs.Tree.{Tree}
use Rattle.walk_rules.specs.Effect.{may_have_side_effects}
use Rattle.theory_runs.specs.Store.{Store, set}
use Rattle.theory_runs.specs.Hand.{Given}
use Rattle.theory_runs.specs.Step.{value}
use Rattle.theory_runs.specs.Meaning.{Act, done, stops, Meaning}
use Rattle.theory_runs.specs.State.{Log, State, Out, gave, cut, stop, bind}
use Rattle.theory_runs.specs.Run.{listed, caught, run}
use Rattle.theory_preservation.proofs.Words.{within, NothingHidden}
use Rattle.theory_preservation.proofs.Ends.{Ends, gives, cuts, halts, ends-bind, ends-any, ends-map, ends_and, ends_same}
use Rattle.theory_preservation.proofs.Frame.{Shift, moved, shifted, shifted-bind, shifted-ends, gave-on, caught-on, Unseen, frame}
use Rattle.theory_preservation.proofs.Kept.{still, whole}
use Rattle.theory_preservation.proofs.Setting.{Setting}

set-names : {Value : Type 0} (t : Bool) (d a w : Value) → cond t d (cond t a w) ≡ cond t d w
set-names true d a w = refl
set-names false d a w = refl

module _ {Value Rest : Type 0} where
  pub bind_assoc : {A B C : Type 0} (o : Out Value Rest A) (f : A → State Value Rest → Out Value Rest B) (g : B → State Value Rest → Out Value Rest C) → bind (bind o f) g ≡ bind o (λ a s. bind (f a s) g)
  unfolding bind
  bind_assoc (gave a s) f g = refl
  bind_assoc (cut s) f g = refl
  bind_assoc (stop l) f g = refl

  pub bind-same : {A B : Type 0} (o : Out Value Rest A) (f g : A → State Value Rest → Out Value Rest B) → ((a : A) (s : State Value Rest) → f a s ≡ g a s) → bind o f ≡ bind o g
  unfolding bind
  bind-same (gave a s) f g h = h a s
  bind-same (cut s) f g h = refl
  bind-same (stop l) f g h = refl

  pub gave-bind : {A B : Type 0} (a : A) (s : State Value Rest) (K : A → State Value Rest → Out Value Rest B) → bind (gave a s) K ≡ K a s
  unfolding bind
  gave-bind a s K = refl

  -- v has this value
  unfoldable pub Put : ℕ → Value → Shift Value Rest
  Put v a = record { on = set v a; to = λ l. l }

  -- these steps were made before
  unfoldable pub Tail : Log Value → Shift Value Rest
  Tail l = record { on = λ s. s; to = λ k. record { steps = k.steps ++ l.steps; values = k.values ++ l.values } }

  within_id : (a : Act Value Rest) → a ≡ within (λ s. s) a
  unfolding within
  within_id (done w s) = refl
  within_id stops = refl

  pub tail_unseen : (m : Meaning Value Rest) (v : ℕ) (l : Log Value) → Unseen m v (Tail l)
  unfolding Tail listed
  tail_unseen m v l = record { names = λ n s h. refl; steps = λ x k. refl; reads = λ x h s. refl; chooses = λ x h s. refl; acts = λ x i h s. within_id _ }

  pub put_unseen : {m : Meaning Value Rest} {v : ℕ} → NothingHidden m v → (a : Value) → Unseen m v (Put v a)
  unfolding Put set
  put_unseen f a = record { names = λ n s h. rw h; steps = λ x k. refl; reads = λ x h s. f.reads x h s a; chooses = λ x h s. f.chooses x h s a; acts = λ x i h s. f.acts x i h s a }

  pub put-put : (v : ℕ) (d a : Value) (s : State Value Rest) → moved (Put v d) (moved (Put v a) s) ≡ moved (Put v d) s
  unfolding moved Put set
  put-put v d a s = λ i. record { store = record { names = fun_ext (λ n. set-names (eqb n v) d a (s.store.names n)) i; rest = s.store.rest }; log = s.log }

  -- what is given, whatever the state
  abbrev pub Only : {A : Type 0} → (A → Type 0) → Out Value Rest A → Type 0
  Only P o = Ends (λ a s. P a) (λ s. Unit {0}) (Unit {0}) o

  only_shift : {A : Type 0} {P : A → Type 0} (φ : Shift Value Rest) {o : Out Value Rest A} → Only P o → Only P (shifted φ o)
  unfolding shifted
  only_shift φ (gives p) = gives p
  only_shift φ (cuts p) = cuts p
  only_shift φ (halts p) = halts p

  only-gave : {A : Type 0} {P : A → Type 0} {a : A} {s : State Value Rest} → Only P (gave a s) → P a
  only-gave (gives p) = p

  only_unshift : {A : Type 0} {P : A → Type 0} (φ : Shift Value Rest) (o : Out Value Rest A) → Only P (shifted φ o) → Only P o
  unfolding shifted
  only_unshift φ (gave a s) h = gives (only-gave h)
  only_unshift φ (cut s) h = cuts tt
  only_unshift φ (stop l) h = halts tt

  pub only_same : {A : Type 0} {P : A → Type 0} (φ : Shift Value Rest) {o : Out Value Rest A} (o' : Out Value Rest A) → shifted φ o ≡ shifted φ o' → Only P o → Only P o'
  only_same {P = P} φ o' e h = only_unshift φ o' (subst (λ x. Only P x) e (only_shift φ h))

module _ {Value Rest : Type 0} (σ : Setting Value Rest) where
  open σ use {file, m, v, r, nothing_hidden, free, unaimed, well, chained}

  abbrev pub S : Type 0
  S = State Value Rest

  abbrev pub O : Type 0 → Type 0
  O A = Out Value Rest A

  -- the run of a tree for its value
  abbrev pub go : Tree → S → O (Given Value)
  go t s = run file.names m t value s

  -- r first, its value for v, then the rest
  unfoldable pub first : {A : Type 0} → (S → O A) → S → O A
  first c s = bind (go r s) (λ x s'. c (moved (Put v x.value) s'))

  -- an outcome with v's value forgotten
  unfoldable pub drop : {A : Type 0} → O A → O A
  drop o = shifted (Put v m.undefined) o

  abbrev pub Framed : {A : Type 0} → (S → O A) → Type 0
  Framed c = (a : Value) (s : S) → c (moved (Put v a) s) ≡ shifted (Put v a) (c s)

  pub same-bind : {A B : Type 0} (o : O A) (f g : A → S → O B) → ((a : A) (s : S) → drop (f a s) ≡ drop (g a s)) → drop (bind o f) ≡ drop (bind o g)
  unfolding bind
  same-bind (gave a s) f g h = h a s
  same-bind (cut s) f g h = refl
  same-bind (stop l) f g h = refl

  -- P is true of what can be given
  pub drop-only : {A B : Type 0} {P : A → Type 0} {o : O A} (o' : O A) (f : A → S → O B) → Only P o → ((a : A) → P a → Framed (f a)) → drop o ≡ drop o' → drop (bind o f) ≡ drop (bind o' f)
  unfolding drop
  drop-only o' f p h e =
      sym (shifted-ends _ f p (λ a s q. h a q _ s)) ∙ ap (λ o. bind o f) e ∙ shifted-ends _ f (only_same _ o' e p) (λ a s q. h a q _ s)

  pub first-bind : {A B : Type 0} (c : S → O A) (f : A → S → O B) (s : S) → first (λ s. bind (c s) f) s ≡ bind (first c s) f
  unfolding first
  first-bind c f s = sym (bind_assoc _ _ _)

  pub first-same : {A : Type 0} (c d : S → O A) → ((s : S) → c s ≡ d s) → (s : S) → first c s ≡ first d s
  unfolding first
  first-same c d h s = bind-same _ _ _ (λ x s'. h _)

  pub first-only : {A : Type 0} {P : A → Type 0} (c : S → O A) → ((s : S) → Only P (c s)) → (s : S) → Only P (first c s)
  unfolding first
  first-only {P = P} c h s = ends-bind (ends-any {P = λ x s. Unit {0}} {C = λ s. Unit {0}} (go r s) (λ x s'. tt) (λ s'. tt)) (λ x s' u. h _)

  -- r's value at a store, if it is a matter of the store alone
  unfoldable pub value_of : O (Given Value) → Value
  value_of (gave x s) = x.value
  value_of (cut s) = m.undefined
  value_of (stop l) = m.undefined

  abbrev fresh : Store Value Rest → S
  fresh s = record { store = s; log = record { steps = []; values = [] } }

  unfoldable pub worth : Store Value Rest → Value
  worth s = value_of (go r (fresh s))

  -- r changes nothing and never stops
  abbrev pub Unchanging : Type 0
  Unchanging = (s : S) → (x : Given Value) × (go r s ≡ gave x s) × (x.value ≡ worth s.store)

  abbrev pub Stable : {A : Type 0} → Value → O A → Type 0
  Stable w o = Ends (λ x s. worth s.store ≡ w) (λ s. worth s.store ≡ w) (Unit {0}) o

  -- Why c may run before r, where r is met at s: r only reads, and c doesn't change what it reads; or c gives something of
  -- the store that r leaves as it is.
  pub data Reason {A : Type 0} (s : S) (c : S → O A) : Type 0 where
    reading : Unchanging → Framed c → ((u : S) → Stable (worth u.store) (c u)) → Reason s c
    steady : (ξ : Store Value Rest → A) → ((u : S) → c u ≡ gave (ξ u.store) u) → ((a : Value) (u : Store Value Rest) → ξ (set v a u) ≡ ξ u)
        → Ends (λ x s'. ξ s'.store ≡ ξ s.store) (λ s'. Unit {0}) (Unit {0}) (go r s) → Reason s c

  pub unchanging-first : Unchanging → {A : Type 0} (c : S → O A) (s : S) → first c s ≡ c (moved (Put v (worth s.store)) s)
  unfolding first
  unchanging-first q c s = let (x, e, g) = q s in rw (e, ← g) (unfold bind in refl)

  pub drop_shift : {A : Type 0} (a : Value) (o : O A) → drop (shifted (Put v a) o) ≡ drop o
  unfolding drop shifted
  drop_shift a (gave x s) = ap (gave x) (put-put v _ a s)
  drop_shift a (cut s) = ap cut (put-put v _ a s)
  drop_shift a (stop l) = unfold Put in refl

  -- The outcome doesn't go by v's value, v itself apart, which may be set.
  abbrev pub Forgets : {A : Type 0} → (S → O A) → Type 0
  Forgets c = (a : Value) (s : S) → drop (c (moved (Put v a) s)) ≡ drop (c s)

  pub framed_forgets : {A : Type 0} (c : S → O A) → Framed c → Forgets c
  framed_forgets c h a s = ap drop (h a s) ∙ drop_shift a (c s)

  drop-once : {A B : Type 0} (o : O A) (f : A → S → O B) → ((a : A) → Forgets (f a)) → drop (bind o f) ≡ drop (bind (drop o) f)
  unfolding drop shifted bind Put
  drop-once (gave a s) f h = sym (h a m.undefined s)
  drop-once (cut s) f h = sym (ap cut (put-put v m.undefined m.undefined s))
  drop-once (stop l) f h = refl

  -- two outcomes that are the same but for v stay so, with such a part behind them
  pub forget_bind : {A B : Type 0} (o o' : O A) (f : A → S → O B) → ((a : A) → Forgets (f a)) → drop o ≡ drop o' → drop (bind o f) ≡ drop (bind o' f)
  forget_bind o o' f h e = drop-once o f h ∙ ap (λ o. drop (bind o f)) e ∙ sym (drop-once o' f h)

  pub drop-bind : {A B : Type 0} (o o' : O A) (f : A → S → O B) → ((a : A) → Framed (f a)) → drop o ≡ drop o' → drop (bind o f) ≡ drop (bind o' f)
  drop-bind o o' f h e = forget_bind o o' f (λ a. framed_forgets (f a) (h a)) e

  pub unchanging-drop : Unchanging → {A : Type 0} (c : S → O A) → Framed c → (s : S) → drop (first c s) ≡ drop (c s)
  unchanging-drop q c h s = rw (unchanging-first q c s, h (worth s.store) s) (drop_shift _ (c s))

  passing-at : Unchanging → {A B : Type 0} (w : Value) {o : O A} (K : A → S → O B) → Stable w o → drop (bind (shifted (Put v w) o) K) ≡ drop (bind o (λ x. first (K x)))
  unfolding bind shifted
  passing-at q w K (gives {a = x} {s = s} p) = rw (unchanging-first q (K x) s, p)
  passing-at q w K (cuts {s = s} p) = drop_shift w (cut s)
  passing-at q w K (halts p) = unfold Put in refl

  steady-at : {A B : Type 0} (c : S → O A) (ξ : Store Value Rest → A) → ((u : S) → c u ≡ gave (ξ u.store) u) → ((a : Value) (u : Store Value Rest) → ξ (set v a u) ≡ ξ u)
      → (K : A → S → O B) (s : S) → Ends (λ x s'. ξ s'.store ≡ ξ s.store) (λ s'. Unit {0}) (Unit {0}) (go r s) → first (λ s. bind (c s) K) s ≡ bind (gave (ξ s.store) s) (λ x. first (K x))
  unfolding first bind moved Put
  steady-at c ξ d i K s k = ends_same k (λ y s' p. rw (d (moved (Put v y.value) s'), i y.value s'.store, p))

  -- r can wait until c has run
  pub passing : {A B : Type 0} (c : S → O A) (s : S) → Reason s c → (K : A → S → O B) → drop (first (λ s. bind (c s) K) s) ≡ drop (bind (c s) (λ x. first (K x)))
  passing c s (reading q h e) K = rw (unchanging-first q (λ s. bind (c s) K) s, h (worth s.store) s) (passing-at q _ K (e s))
  passing c s (steady ξ d i k) K = rw (d s) (ap drop (steady-at c ξ d i K s k))

  pub steady_framed : {A : Type 0} (c : S → O A) (ξ : Store Value Rest → A) → ((u : S) → c u ≡ gave (ξ u.store) u) → ((a : Value) (u : Store Value Rest) → ξ (set v a u) ≡ ξ u) → Framed c
  steady_framed c ξ d i a s = rw (d s, d (moved (Put v a) s)) (unfold shifted moved Put in rw (i a s.store))

  unchanging-keeps : Unchanging → {A : Type 0} {s : S} {c : S → O A} → Reason s c → Framed c × ((u : S) → Stable (worth u.store) (c u))
  unchanging-keeps q (reading q' h e) = (h, e)
  unchanging-keeps q {c = c} (steady ξ d i k) = (steady_framed c ξ d i, λ u. rw (d u) (gives refl))

  -- Reasons for what is made of parts.
  pub one_reason : {A B : Type 0} {s : S} {c : S → O A} (g : A → B) → Reason s c → Reason s (λ s. bind (c s) (λ x s'. gave (g x) s'))
  one_reason {c = c} g (reading q h e) = reading q (λ a s. rw (h a s) (shifted-bind _ (c s) _ (λ x s'. gave-on _ s'))) (λ s. ends-bind (e s) (λ x s' p. gives p))
  one_reason g (steady ξ d i k) = steady (λ s. g (ξ s)) (λ s. rw (d s) (unfold bind in refl)) (λ a s. ap g (i a s)) (ends-map k (λ x s' p. ap g p) (λ s' p. p) (λ p. p))

  read-both : {A B C : Type 0} {s : S} {c : S → O A} {d : S → O B} (g : A → B → C) → Unchanging → Framed c × ((s : S) → Stable (worth s.store) (c s)) → Framed d × ((s : S) → Stable (worth s.store) (d s)) → Reason s (λ s. bind (c s) (λ x s'. bind (d s') (λ y s''. gave (g x y) s'')))
  read-both {c = c} {d = d} g q h k =
      reading q (λ a s. rw (h.0 a s) (shifted-bind _ (c s) _ (λ x s'. rw (k.0 a s') (shifted-bind _ (d s') _ (λ y s''. gave-on _ s'')))))
      (λ s. ends-bind (h.1 s) (λ x s' p. ends-bind (ends-map (k.1 s') (λ y s'' p'. p' ∙ p) (λ s'' p'. p' ∙ p) (λ p'. p')) (λ y s'' p''. gives p'')))

  pub two-reasons : {A B C : Type 0} {s : S} {c : S → O A} {d : S → O B} (g : A → B → C) → Reason s c → Reason s d → Reason s (λ s. bind (c s) (λ x s'. bind (d s') (λ y s''. gave (g x y) s'')))
  two-reasons g (reading q h e) p = read-both g q (h, e) (unchanging-keeps q p)
  two-reasons g (steady ξ e i k) (reading q h f) = read-both g q (unchanging-keeps q (steady ξ e i k)) (h, f)
  two-reasons g (steady ξ e i k) (steady ξ' e' i' k') =
      steady (λ s. g (ξ s) (ξ' s)) (λ s. rw (e s) (unfold bind in rw (e' s))) (λ a s. ap₂ g (i a s) (i' a s))
      (ends-map (ends_and k k') (λ x s' p. ap₂ g p.0 p.1) (λ s' p. p) (λ p. p))

  caught_stable : {w : Value} {o : O (List (Given Value))} → Stable w o → Stable w (caught o)
  unfolding caught
  caught_stable (gives p) = gives p
  caught_stable (cuts p) = gives p
  caught_stable (halts p) = halts p

  pub caught_reason : {s : S} {c : S → O (List (Given Value))} → Reason s c → Reason s (λ s. caught (c s))
  caught_reason {c = c} (reading q h e) = reading q (λ a s. rw (h a s) (caught-on _ (c s))) (λ s. caught_stable (e s))
  caught_reason (steady ξ d i k) = steady ξ (λ s. rw (d s) (unfold caught in refl)) i k

  -- r gives the same at every state
  pub constant-unchanging : (x : Given Value) → ((s : S) → go r s ≡ gave x s) → Unchanging × ((s s' : Store Value Rest) → worth s ≡ worth s')
  unfolding worth value_of
  constant-unchanging x h = ((λ s. (x, (h s), rw (h (fresh s.store)))), λ s s'. rw (h (fresh s), h (fresh s')))

  alone : {s : S} {o : O (Given Value)} → Ends (λ x s'. s' ≡ s) (λ s'. s' ≡ s) ⊥ o → Ends (λ x (s : S). Unit {0}) (λ s. ⊥) (Unit {0}) o → (x : Given Value) × (o ≡ gave x s)
  alone (gives {a = x} p) (gives q) = (x, ap (gave x) p)
  alone (cuts p) (cuts q) = absurd q
  alone (halts p) (halts q) = absurd p

  -- r has no effect
  pub quiet-unchanging : may_have_side_effects r ≡ false → Unchanging
  unfolding worth value_of
  quiet-unchanging e s =
      let s₀ : S = fresh s.store in
      let (x, h) = alone (still file.names m s₀ r e value) (whole file.names m r well chained value s₀) in
      (x, (unfold shifted moved Tail in (frame file.names m v (Tail s.log) (tail_unseen m v s.log) r free unaimed value s₀ ∙ ap (shifted (Tail s.log)) h)), ap value_of (sym h))
