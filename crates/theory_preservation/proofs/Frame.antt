-- What a run does to a part of the state that it doesn't look at: nothing.
use Prim.Native.Nat.{ℕ}
use native.Mathlib.Omega.{arith}
use mathlib.Core.Bool.{Bool, true, false, cond, ◌&&◌}
use mathlib.Core.List.{List, [], ◌∷◌}
use mathlib.Core.Path.{◌≡◌, refl, sym}
use lib.Dec.{eqb}
use Rattle.records.specs.Tree.{Node, Tree, Trees, node, none, more}
use Rattle.records.specs.Count.{uses_in}
use Rattle.records.specs.declared.layout.NameFacts.{NameFacts}
use Rattle.theory_runs.specs.Store.{Store}
use Rattle.theory_runs.specs.Hand.{Given}
use Rattle.theory_runs.specs.Step.{Role, value, Step}
use Rattle.theory_runs.specs.Meaning.{Act, done, stops, Meaning}
use Rattle.theory_runs.specs.Form.{is, cleared, is_marked, Choice, never, logical, conditional, optionally, Form, constant, name, target_name, leaf, chain, property, importing, sequence, assignment, stepping, form, childless, is_chain, choice_of, first_role}
use Rattle.theory_runs.specs.State.{Log, State, Out, gave, cut, stop, bind}
use Rattle.theory_runs.specs.Run.{Turn, all, skipped, second, third, takes, then, resolved, is_read, kept, listed, acted, caught, gathered, chosen, in_turn, stepped, queued, held, after_first, own, finished, run_node, run, run_children, run_others}
use Rattle.theory_runs.specs.Facts.{through, is_of_node}
use Rattle.theory_preservation.proofs.Words.{within}
use Rattle.theory_preservation.proofs.Tables.{kinds_of, kinds}
use Rattle.theory_preservation.proofs.Ends.{Ends, gives, cuts, halts, First, step_of, gathered-ends}
use Rattle.theory_preservation.proofs.Uses.{reads, all_reads, targets, all_targets, Off, kept_off, first_off, off-read, off-target, off-through, gives-off, hand-off, of_node_lem}

-- a change of the state
pub record Shift (Value Rest : Type 0) : Type 0 where
  pub on : Store Value Rest → Store Value Rest
  pub to : Log Value → Log Value

module _ {Value Rest : Type 0} where
  unfoldable pub moved : Shift Value Rest → State Value Rest → State Value Rest
  moved φ s = record { store = φ.on s.store; log = φ.to s.log }

  unfoldable pub shifted : {A : Type 0} → Shift Value Rest → Out Value Rest A → Out Value Rest A
  shifted φ (gave a s) = gave a (moved φ s)
  shifted φ (cut s) = cut (moved φ s)
  shifted φ (stop l) = stop (φ.to l)

  pub shifted-bind : {A B : Type 0} (φ : Shift Value Rest) (o : Out Value Rest A) (f : A → State Value Rest → Out Value Rest B) → ((a : A) (s : State Value Rest) → f a (moved φ s) ≡ shifted φ (f a s)) → bind (shifted φ o) f ≡ shifted φ (bind o f)
  unfolding bind shifted
  shifted-bind φ (gave a s) f h = h a s
  shifted-bind φ (cut s) f h = refl
  shifted-bind φ (stop l) f h = refl

  -- the same, of what the first part can give
  pub shifted-ends : {A B : Type 0} {P : A → State Value Rest → Type 0} {C : State Value Rest → Type 0} {Q : Type 0} (φ : Shift Value Rest) {o : Out Value Rest A} (f : A → State Value Rest → Out Value Rest B) → Ends P C Q o → ((a : A) (s : State Value Rest) → P a s → f a (moved φ s) ≡ shifted φ (f a s)) → bind (shifted φ o) f ≡ shifted φ (bind o f)
  unfolding bind shifted
  shifted-ends φ f (gives p) h = h _ _ p
  shifted-ends φ f (cuts p) h = refl
  shifted-ends φ f (halts p) h = refl

  pub gave-on : {A : Type 0} {a : A} (φ : Shift Value Rest) (s : State Value Rest) → gave a (moved φ s) ≡ shifted φ (gave a s)
  unfolding shifted
  gave-on φ s = refl

  pub caught-on : (φ : Shift Value Rest) (o : Out Value Rest (List (Given Value))) → caught (shifted φ o) ≡ shifted φ (caught o)
  unfolding caught shifted
  caught-on φ (gave a s) = refl
  caught-on φ (cut s) = refl
  caught-on φ (stop l) = refl

  both : {A : Type 0} (φ : Shift Value Rest) (t : Bool) {x y : Out Value Rest A} (x' y' : Out Value Rest A) → x ≡ shifted φ x' → y ≡ shifted φ y' → cond t x y ≡ shifted φ (cond t x' y')
  both φ true x' y' p q = p
  both φ false x' y' p q = q

  pub gathered-on : (φ : Shift Value Rest) (f : Form) (o : Out Value Rest (List (Given Value))) (s : State Value Rest) → gathered f (shifted φ o) (moved φ s) ≡ shifted φ (gathered f o s)
  unfolding gathered
  gathered-on φ f o s = both φ (childless f) _ _ (gave-on φ s) (both φ (is_chain f) _ _ (caught-on φ o) refl)

  pub in_turn_on : (φ : Shift Value Rest) (c : State Value Rest → Out Value Rest (Given Value)) (cs : State Value Rest → Out Value Rest (List (Given Value))) (s : State Value Rest) → ((s : State Value Rest) → c (moved φ s) ≡ shifted φ (c s)) → ((s : State Value Rest) → cs (moved φ s) ≡ shifted φ (cs s)) → in_turn c cs (moved φ s) ≡ shifted φ (in_turn c cs s)
  unfolding in_turn
  in_turn_on φ c cs s h g = rw (h s) (shifted-bind φ (c s) _ (λ x s'. rw (g s') (shifted-bind φ (cs s') _ (λ hs s''. gave-on φ s''))))

  pub chosen_on : (φ : Shift Value Rest) (c : Choice) (b : Bool) (others : Turn → State Value Rest → Out Value Rest (List (Given Value))) (s : State Value Rest) → ((w : Turn) → others w (moved φ s) ≡ shifted φ (others w s)) → chosen c b others (moved φ s) ≡ shifted φ (chosen c b others s)
  unfolding chosen
  chosen_on φ never b others s h = h all
  chosen_on φ logical true others s h = h all
  chosen_on φ logical false others s h = h skipped
  chosen_on φ conditional true others s h = h second
  chosen_on φ conditional false others s h = h third
  chosen_on φ optionally true others s h = h all
  chosen_on φ optionally false others s h = unfold shifted in refl

-- but through v, nothing tells the shifted state from the other
pub record Unseen {Value Rest : Type 0} (m : Meaning Value Rest) (v : ℕ) (φ : Shift Value Rest) : Type 0 where
  pub names : (n : ℕ) (s : Store Value Rest) → eqb n v ≡ false → (φ.on s).names n ≡ s.names n
  pub steps : (x : Step Value) (l : Log Value) → φ.to (listed x l) ≡ listed x (φ.to l)
  pub reads : (x : Step Value) → through v x ≡ false → (s : Store Value Rest) → m.reads x (φ.on s) ≡ m.reads x s
  pub chooses : (x : Step Value) → through v x ≡ false → (s : Store Value Rest) → m.chooses x (φ.on s) ≡ m.chooses x s
  pub acts : (x : Step Value) → is_of_node x.origin ≡ true → through v x ≡ false → (s : Store Value Rest) → m.acts x (φ.on s) ≡ within φ.on (m.acts x s)

module _ {Value Rest : Type 0} (names : List NameFacts) (m : Meaning Value Rest) (v : ℕ) (φ : Shift Value Rest) (b : Unseen m v φ) where
  acted-on : (l l' : Log Value) (a a' : Act Value Rest) → l ≡ φ.to l' → a ≡ within φ.on a' → acted l a ≡ shifted φ (acted l' a')
  unfolding acted shifted within moved
  acted-on l l' a (done w s) p q = rw (p, q)
  acted-on l l' a stops p q = rw (p, q)

  stepped-on : (t : Bool) (x : Step Value) (s : State Value Rest) → is_of_node x.origin ≡ true → through v x ≡ false → stepped m t x (moved φ s) ≡ shifted φ (stepped m t x s)
  unfolding stepped moved
  stepped-on true x s i h = acted-on _ _ _ _ (sym (b.steps _ _)) (b.acts x i h s.store)
  stepped-on false x s i h = unfold shifted in rw (b.reads x h s.store)

  queued-on : (x : Step Value) (s : State Value Rest) → through v x ≡ false → queued m x (moved φ s) ≡ shifted φ (queued m x s)
  unfolding queued moved shifted
  queued-on x s h = rw (b.reads x h s.store, b.steps x s.log)

  held_on : (t : Bool) (n : Node) (x : Step Value) (s : State Value Rest) → is_of_node x.origin ≡ true → eqb n.label v ≡ false → through v x ≡ false → held m t n x (moved φ s) ≡ shifted φ (held m t n x s)
  unfolding held
  held_on true n x s i e h = unfold moved shifted in rw (b.names n.label s.store e)
  held_on false n x s i e h = stepped-on (is_marked n) x s i h

  -- a node's own step, where neither the node nor what is in hand is of v
  own_on : (f : Form) (n : Node) (role : Role) (x : Step Value) (s : State Value Rest) → is_of_node x.origin ≡ true → kinds_of f n ≡ true → (is 4 n ≡ true → eqb n.label v ≡ false) → (is 29 n ≡ true → eqb n.label v ≡ false) → through v x ≡ false → own names m f n role x (moved φ s) ≡ shifted φ (own names m f n role x s)
  unfolding own kinds_of
  own_on constant n role x s i k e g h = gave-on φ s
  own_on name n role x s i k e g h = held_on (resolved names n.label) n x s i (e k) h
  own_on target_name n role x s i k e g h = held_on (resolved names n.label && is_read role) n x s i (g k) h
  own_on leaf n role x s i k e g h = stepped-on (is_marked n) x s i h
  own_on chain n role x s i k e g h = gave-on φ s
  own_on property n role x s i k e g h = gave-on φ s
  own_on importing n role x s i k e g h = queued-on x s h
  own_on sequence n role x s i k e g h = gave-on φ s
  own_on (assignment c) n role x s i k e g h = stepped-on true x s i h
  own_on (stepping c) n role x s i k e g h = stepped-on (is_marked n) x s i h

  pub finished_on : (f : Form) (n : Node) (role : Role) (hs : List (Given Value)) (s : State Value Rest) → kinds_of f n ≡ true → (is 4 n ≡ true → eqb n.label v ≡ false) → (is 29 n ≡ true → eqb n.label v ≡ false) → First (Off v) hs → finished names m f n role hs (moved φ s) ≡ shifted φ (finished names m f n role hs s)
  unfolding finished
  finished_on f n role hs s k e g h =
      rw (own_on f n role (step_of n role hs) s (of_node_lem n role) k e g (off-through v n role hs e g (first_off v hs h)))
      (shifted-bind φ (own names m f n role (step_of n role hs) s) _ (λ w s'. gave-on φ s'))

  pub after_first-on : (f : Form) (n : Node) (role : Role) (others : Turn → State Value Rest → Out Value Rest (List (Given Value))) (x : Given Value) (s : State Value Rest) → (is 4 n ≡ true → eqb n.label v ≡ false) → (is 29 n ≡ true → eqb n.label v ≡ false) → Off v x.beside
      → ((w : Turn) (s : State Value Rest) → others w (moved φ s) ≡ shifted φ (others w s)) → after_first m f n role others x (moved φ s) ≡ shifted φ (after_first m f n role others x s)
  unfolding after_first
  after_first-on f n role others x s e g h i =
      let h₁ : Given Value = record { value = x.value; beside = kept f n x.beside } in
      let z : m.chooses (step_of n role (h₁ ∷ [])) (moved φ s).store ≡ m.chooses (step_of n role (h₁ ∷ [])) s.store = (unfold moved in b.chooses (step_of n role (h₁ ∷ [])) (off-through v n role (h₁ ∷ []) e g (first_off v (h₁ ∷ []) (kept_off v f n x.beside h))) s.store) in
      rw (z, chosen_on φ (choice_of f) (m.chooses (step_of n role (h₁ ∷ [])) s.store) others s (λ w. i w s)) (shifted-bind φ _ _ (λ hs s'. gave-on φ s'))

  mutual
    unfolding run run_node uses_in

    -- a tree that doesn't use v, run in the changed state, comes out as before, with the state changed
    pub frame : (t : Tree) → reads v t ≡ 0 → targets v t ≡ 0 → (role : Role) (s : State Value Rest) → run names m t role (moved φ s) ≡ shifted φ (run names m t role s)
    frame (node n ts) h g role s =
        rw (frame-children ts (form (cleared n)) (cleared n) role (off-read v n ts h) (off-target v n ts g) (omega arith) (omega arith) s, gathered-on φ (form (cleared n)) (run_children names m ts (form (cleared n)) (cleared n) role s) s)
        (shifted-ends φ _ (gathered-ends _ (form (cleared n)) _ s tt (hand-off names m v ts (form (cleared n)) (cleared n) role (omega arith) s)) (λ hs s' p. finished_on (form (cleared n)) (cleared n) role hs s' (kinds (cleared n)) (off-read v n ts h) (off-target v n ts g) p.0))

    pub frame-children : (ts : Trees) (f : Form) (n : Node) (role : Role) → (is 4 n ≡ true → eqb n.label v ≡ false) → (is 29 n ≡ true → eqb n.label v ≡ false) → all_reads v ts ≡ 0 → all_targets v ts ≡ 0 → (s : State Value Rest) → run_children names m ts f n role (moved φ s) ≡ shifted φ (run_children names m ts f n role s)
    frame-children none f n role e i h g s = gave-on φ s
    frame-children (more t ts) f n role e i h g s =
        rw (frame t (omega arith) (omega arith) (first_role f n role) s)
        (shifted-ends φ _ (gives-off names m v t (omega arith) (first_role f n role) s) (λ x s' p. after_first-on f n role _ x s' e i p.0 (λ w s''. frame-others ts w (omega arith) (omega arith) s'')))

    pub frame-others : (ts : Trees) (w : Turn) → all_reads v ts ≡ 0 → all_targets v ts ≡ 0 → (s : State Value Rest) → run_others names m ts w (moved φ s) ≡ shifted φ (run_others names m ts w s)
    frame-others none w h g s = gave-on φ s
    frame-others (more t ts) w h g s =
        both φ (takes w) _ _ (in_turn_on φ _ _ s (λ s'. frame t (omega arith) (omega arith) value s') (λ s'. frame-others ts (then w) (omega arith) (omega arith) s')) (frame-others ts (then w) (omega arith) (omega arith) s)
