-- What holds at the end of a run: an invariant of the steps is an invariant of the run.
use mathlib.Core.Bool.{Bool, true, false, cond}
use mathlib.Core.List.{List, [], ◌∷◌}
use mathlib.Core.Path.{◌≡◌, refl}
use Rattle.records.specs.Tree.{Node, Tree, Trees, node, none, more}
use Rattle.records.specs.declared.layout.NameFacts.{NameFacts}
use Rattle.theory_runs.specs.Hand.{Beside, nothing, Given}
use Rattle.theory_runs.specs.Step.{Role, value, Step}
use Rattle.theory_runs.specs.Meaning.{Meaning}
use Rattle.theory_runs.specs.Form.{cleared, Choice, never, logical, conditional, optionally, Form, form, childless, is_chain, choice_of, first_role, origin_of}
use Rattle.theory_runs.specs.State.{Log, State, Out, gave, cut, stop, bind}
use Rattle.theory_runs.specs.Run.{Turn, all, skipped, second, third, takes, then, kept, caught, gathered, chosen, in_turn, after_first, own, beside, finished, run_node, run, run_children, run_others}

-- what holds: P of what is given and the state that is left; C of the state where the chain is cut short; Q if the run stops
pub data Ends {Value Rest A : Type 0} (P : A → State Value Rest → Type 0) (C : State Value Rest → Type 0) (Q : Type 0) : Out Value Rest A → Type 0 where
  gives : {a : A} {s : State Value Rest} → P a s → Ends P C Q (gave a s)
  cuts : {s : State Value Rest} → C s → Ends P C Q (cut s)
  halts : {l : Log Value} → Q → Ends P C Q (stop l)

module _ {Value Rest A B : Type 0} {P : A → State Value Rest → Type 0} {P' : B → State Value Rest → Type 0} {C : State Value Rest → Type 0} {Q : Type 0} where
  pub ends-bind : {o : Out Value Rest A} {f : A → State Value Rest → Out Value Rest B} → Ends P C Q o → ((a : A) (s : State Value Rest) → P a s → Ends P' C Q (f a s)) → Ends P' C Q (bind o f)
  unfolding bind
  ends-bind (gives h) g = g _ _ h
  ends-bind (cuts h) g = cuts h
  ends-bind (halts h) g = halts h

module _ {Value Rest A : Type 0} where
  pub ends_cond : {P : A → State Value Rest → Type 0} {C : State Value Rest → Type 0} {Q : Type 0} (t : Bool) {x y : Out Value Rest A} → Ends P C Q x → Ends P C Q y → Ends P C Q (cond t x y)
  ends_cond true p q = p
  ends_cond false p q = q

  pub ends-any : {P : A → State Value Rest → Type 0} {C : State Value Rest → Type 0} (o : Out Value Rest A) → ((a : A) (s : State Value Rest) → P a s) → ((s : State Value Rest) → C s) → Ends P C (Unit {0}) o
  ends-any (gave a s) p c = gives (p a s)
  ends-any (cut s) p c = cuts (c s)
  ends-any (stop l) p c = halts tt

  pub ends-map : {P P' : A → State Value Rest → Type 0} {C C' : State Value Rest → Type 0} {Q Q' : Type 0} {o : Out Value Rest A} → Ends P C Q o → ((a : A) (s : State Value Rest) → P a s → P' a s) → ((s : State Value Rest) → C s → C' s) → (Q → Q') → Ends P' C' Q' o
  ends-map (gives p) f g h = gives (f _ _ p)
  ends-map (cuts p) f g h = cuts (g _ p)
  ends-map (halts p) f g h = halts (h p)

  pub ends_and : {P P' : A → State Value Rest → Type 0} {C : State Value Rest → Type 0} {Q : Type 0} {o : Out Value Rest A} → Ends P C Q o → Ends P' C Q o → Ends (λ a s. P a s × P' a s) C Q o
  ends_and (gives p) (gives p') = gives (p, p')
  ends_and (cuts p) (cuts p') = cuts p
  ends_and (halts p) (halts p') = halts p

  pub ends_same : {B : Type 0} {P : A → State Value Rest → Type 0} {C : State Value Rest → Type 0} {Q : Type 0} {o : Out Value Rest A} {f g : A → State Value Rest → Out Value Rest B} → Ends P C Q o → ((a : A) (s : State Value Rest) → P a s → f a s ≡ g a s) → bind o f ≡ bind o g
  unfolding bind
  ends_same (gives p) h = h _ _ p
  ends_same (cuts p) h = refl
  ends_same (halts p) h = refl

-- what is in hand of the first child
abbrev pub First : {Value : Type 0} → (Beside Value → Type 0) → List (Given Value) → Type 0
First B [] = Unit {0}
First B (h ∷ hs) = B h.beside

-- the step of a node
abbrev pub step_of : {Value : Type 0} → Node → Role → List (Given Value) → Step Value
step_of n role hs = record { origin = origin_of n role; hand = hs }

-- what is in hand when the children have run
module _ {Value Rest : Type 0} (B : Beside Value → Type 0) {P : State Value Rest → Type 0} {Q : Type 0} where
  caught-ends : {o : Out Value Rest (List (Given Value))} → Ends (λ hs s. First B hs × P s) P Q o → Ends (λ hs s. First B hs × P s) P Q (caught o)
  unfolding caught
  caught-ends (gives h) = gives h
  caught-ends (cuts h) = gives (tt, h)
  caught-ends (halts h) = halts h

  pub gathered-ends : (f : Form) (o : Out Value Rest (List (Given Value))) (s : State Value Rest) → P s → Ends (λ hs s. First B hs × P s) P Q o → Ends (λ hs s. First B hs × P s) P Q (gathered f o s)
  unfolding gathered
  gathered-ends f o s p h = ends_cond (childless f) (gives (tt, p)) (ends_cond (is_chain f) (caught-ends h) h)

-- B is kept by what children give beside their values, and P by the steps of the trees that H is true of.
module _ {Value Rest : Type 0} (names : List NameFacts) (m : Meaning Value Rest) (B : Beside Value → Type 0) (P : State Value Rest → Type 0) (Q : Type 0) where
  abbrev pub Given-ends : Out Value Rest (Given Value) → Type 0
  Given-ends o = Ends (λ x s. B x.beside × P s) P Q o

  abbrev pub Hand-ends : Out Value Rest (List (Given Value)) → Type 0
  Hand-ends o = Ends (λ hs s. First B hs × P s) P Q o

  module _ (H : Tree → Type 0) (Hs : Trees → Type 0) (kids : (n : Node) (ts : Trees) → H (node n ts) → Hs ts)
      (head : (t : Tree) (ts : Trees) → Hs (more t ts) → H t) (tail : (t : Tree) (ts : Trees) → Hs (more t ts) → Hs ts)
      (bare : B nothing) (along : (f : Form) (n : Node) (b : Beside Value) → B b → B (kept f n b))
      (aside : (n : Node) (ts : Trees) (hs : List (Given Value)) → H (node n ts) → First B hs → B (beside names m.undefined (form (cleared n)) (cleared n) hs))
      (step : (n : Node) (ts : Trees) (role : Role) (hs : List (Given Value)) (s : State Value Rest) → H (node n ts) → First B hs → P s → Ends (λ w s'. P s') P Q (own names m (form (cleared n)) (cleared n) role (step_of (cleared n) role hs) s)) where
    finished-ends : (n : Node) (ts : Trees) (role : Role) (hs : List (Given Value)) (s : State Value Rest) → H (node n ts) → First B hs → P s → Given-ends (finished names m (form (cleared n)) (cleared n) role hs s)
    unfolding finished
    finished-ends n ts role hs s h b p = ends-bind (step n ts role hs s h b p) (λ w s' p'. gives (aside n ts hs h b, p'))

    abbrev Left : Out Value Rest (List (Given Value)) → Type 0
    Left o = Ends (λ hs s. P s) P Q o

    chosen-ends : (c : Choice) (b : Bool) (others : Turn → State Value Rest → Out Value Rest (List (Given Value))) (s : State Value Rest) → P s → ((w : Turn) → Left (others w s)) → Left (chosen c b others s)
    unfolding chosen
    chosen-ends never b others s p h = h all
    chosen-ends logical true others s p h = h all
    chosen-ends logical false others s p h = h skipped
    chosen-ends conditional true others s p h = h second
    chosen-ends conditional false others s p h = h third
    chosen-ends optionally true others s p h = h all
    chosen-ends optionally false others s p h = cuts p

    after_first-ends : (f : Form) (n : Node) (role : Role) (others : Turn → State Value Rest → Out Value Rest (List (Given Value))) (x : Given Value) (s : State Value Rest) → B x.beside → P s → ((w : Turn) → Left (others w s)) → Hand-ends (after_first m f n role others x s)
    unfolding after_first
    after_first-ends f n role others x s b p h = ends-bind (chosen-ends (choice_of f) _ others s p h) (λ hs s' p'. gives (along f n x.beside b, p'))

    mutual
      unfolding run run_node in_turn

      -- what every step of a tree's nodes keeps, its run keeps
      pub ends : (t : Tree) → H t → (role : Role) (s : State Value Rest) → P s → Given-ends (run names m t role s)
      ends (node n ts) h role s p = ends-bind (gathered-ends B (form (cleared n)) _ s p (ends-children ts (form (cleared n)) (cleared n) role (kids n ts h) s p)) (λ hs s' g. finished-ends n ts role hs s' h g.0 g.1)

      pub ends-children : (ts : Trees) (f : Form) (n : Node) (role : Role) → Hs ts → (s : State Value Rest) → P s → Hand-ends (run_children names m ts f n role s)
      ends-children none f n role h s p = gives (tt, p)
      ends-children (more t ts) f n role h s p =
          ends-bind (ends t (head t ts h) (first_role f n role) s p) (λ x s' g. after_first-ends f n role _ x s' g.0 g.1 (λ w. ends-others ts w (tail t ts h) s' g.1))

      pub ends-others : (ts : Trees) (w : Turn) → Hs ts → (s : State Value Rest) → P s → Left (run_others names m ts w s)
      ends-others none w h s p = gives p
      ends-others (more t ts) w h s p =
          ends_cond (takes w)
          (ends-bind (ends t (head t ts h) value s p) (λ x s' g. ends-bind (ends-others ts (then w) (tail t ts h) s' g.1) (λ hs s'' p''. gives p'')))
          (ends-others ts (then w) (tail t ts h) s p)
