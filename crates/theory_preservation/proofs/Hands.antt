-- What a run has in hand at a node is what it can have there (InHand).
use mathlib.Core.Bool.{Bool, true, false, cond, ◌&&◌, ◌||◌}
use mathlib.Core.List.{List, [], ◌∷◌}
use mathlib.Core.Path.{◌≡◌, refl, ◌∙◌}
use borrow.Author.Tests.{eqb-true}
use Rattle.records.specs.Tree.{Node, Tree, Trees, node, none, more}
use Rattle.records.specs.Place.{root}
use Rattle.records.specs.declared.layout.NameFacts.{NameFacts}
use Rattle.records.proofs.Tests.{clash, both}
use Rattle.theory_runs.specs.Hand.{Beside, Given, Hand, only, first_or}
use Rattle.theory_runs.specs.Step.{Role, value}
use Rattle.theory_runs.specs.Meaning.{Meaning}
use Rattle.theory_runs.specs.Form.{is, cleared, Choice, never, logical, conditional, optionally, form, order, childless, is_name, is_chain, choice_of, first_role}
use Rattle.theory_runs.specs.State.{State, Out, gave}
use Rattle.theory_runs.specs.Run.{Turn, all, skipped, second, third, takes, then, kept, caught, gathered, chosen, in_turn, after_first, own, beside, finished, run_node, run, run_children, run_others}
use Rattle.theory_runs.specs.InHand.{sort_of, same_beside, is_nothing, beside_of, first_of, may_keep, are_values, may_have}
use Rattle.theory_runs.specs.Makes.{Asked, choice, step, some_turn}
use Rattle.theory_preservation.proofs.Tests.{by_or, or_left, or_right}
use Rattle.theory_preservation.proofs.Besides.{same_sort, sort_same, kept_like, nothing-kept, beside_like}
use Rattle.theory_preservation.proofs.ByKind.{chain-form, chain-test}
use Rattle.theory_preservation.proofs.Ends.{Ends, gives, cuts, halts, ends-bind, ends-any, ends-map, First}
use Rattle.theory_preservation.proofs.Same.{hand_of}

-- a test of turns that holds of more of them, and of all
pub turn_on : (d : Asked) (c : Choice) (test test' : Turn → Bool) → ((w : Turn) → test w ≡ true → test' w ≡ true) → some_turn d c test ≡ true → some_turn d c test' ≡ true
unfolding some_turn
turn_on choice c test test' h e = h skipped e
turn_on (step k) never test test' h e = h all e
turn_on (step k) logical test test' h e = by_or (test all) (test skipped) (λ q. or_left _ _ (h all q)) (λ q. or_right (test' all) _ (h skipped q)) e
turn_on (step k) conditional test test' h e = by_or (test second) (test third) (λ q. or_left _ _ (h second q)) (λ q. or_right (test' second) _ (h third q)) e
turn_on (step k) optionally test test' h e = h all e

turn-any : (d : Asked) (c : Choice) (test : Turn → Bool) → ((w : Turn) → test w ≡ true) → some_turn d c test ≡ true
unfolding some_turn
turn-any choice c test h = h skipped
turn-any (step k) never test h = h all
turn-any (step k) logical test h = or_left _ _ (h all)
turn-any (step k) conditional test h = or_left _ _ (h second)
turn-any (step k) optionally test h = h all

module _ (Value : Type 0) (names : List NameFacts) where
  abbrev B : Type 0
  B = Beside Value

  -- what a tree may give beside its value
  abbrev Gives : Tree → B → Type 0
  Gives t b = (same_beside (beside_of names t) b || is 13 (root t) && is_nothing b) ≡ true

  -- what a node keeps of it, it may keep
  keeps : (n : Node) (t : Tree) (b : B) → Gives t b → may_keep names n t (kept (form n) n b) ≡ true
  unfolding may_keep
  keeps n t b e =
      by_or (same_beside (beside_of names t) b) (is 13 (root t) && is_nothing b) (λ q. or_left _ _ (same_sort (kept (form n) n (beside_of names t)) (kept (form n) n b) (kept_like (form n) n (beside_of names t) b (sort_same (beside_of names t) b q))))
      (λ q. let (x, y) = both (is 13 (root t)) (is_nothing b) q in or_right (same_beside (kept (form n) n (beside_of names t)) (kept (form n) n b)) _ (rw (x, nothing-kept (form n) n b y))) e

  module _ {Rest : Type 0} (m : Meaning Value Rest) where
    abbrev Keeps : Node → Trees → Hand Value → Type 0
    Keeps n none hs = First (λ b. ⊥) hs
    Keeps n (more t ts) hs = First (λ b. may_keep names n t b ≡ true) hs

    -- What a node gives beside its value, it may give. A chain:
    chain-beside : (n : Node) (hs : Hand Value) → is 13 n ≡ true → beside names m.undefined (form (cleared n)) (cleared n) hs ≡ (first_or m.undefined hs).beside
    unfolding beside cleared is_name is_chain order
    chain-beside n hs e = rw (chain-form n e, eqb-true n.kind 13 e)

    chain-gives : (n : Node) (ts : Trees) (hs : Hand Value) → is 13 n ≡ true → Keeps (cleared n) ts hs → Gives (node n ts) (beside names m.undefined (form (cleared n)) (cleared n) hs)
    unfolding may_keep beside_of
    chain-gives n ts [] e h = or_right (same_beside (beside_of names (node n ts)) _) _ (rw (e, chain-beside n [] e) (unfold first_or is_nothing sort_of in refl))
    chain-gives n none (x ∷ hs) e h = absurd h
    chain-gives n (more t ts) (x ∷ hs) e h =
        by_or (same_beside (kept (form (cleared n)) (cleared n) (beside_of names t)) x.beside) (is 13 (root t) && is_nothing x.beside)
        (λ q. or_left _ _ (same_sort (beside_of names (node n (more t ts))) _ (beside_like names tt m.undefined (form (cleared n)) (cleared n) (first_of names (cleared n) (more t ts)) (x ∷ hs) (λ z. first_like n t ts x hs q))))
        (λ q. or_right (same_beside (beside_of names (node n (more t ts))) _) _ (rw (e, chain-beside n (x ∷ hs) e) (unfold first_or in (both (is 13 (root t)) (is_nothing x.beside) q).1))) h
      where
        first_like : (n : Node) (t : Tree) (ts : Trees) (x : Given Value) (hs : Hand Value) → same_beside (kept (form (cleared n)) (cleared n) (beside_of names t)) x.beside ≡ true → sort_of (first_or tt (first_of names (cleared n) (more t ts))).beside ≡ sort_of (first_or m.undefined (x ∷ hs)).beside
        first_like n t ts x hs q = unfold first_or beside_of in sort_same (kept (form (cleared n)) (cleared n) (beside_of names t)) x.beside q

    other-gives : (n : Node) (ts : Trees) (hs : Hand Value) → is 13 n ≡ false → Gives (node n ts) (beside names m.undefined (form (cleared n)) (cleared n) hs)
    unfolding beside_of
    other-gives n ts hs e =
        or_left _ _ (same_sort (beside_of names (node n ts)) _ (beside_like names tt m.undefined (form (cleared n)) (cleared n) (first_of names (cleared n) ts) hs (λ q. clash (is_chain (form (cleared n))) (chain-test n ∙ e) q)))

    gives-by : (b : Bool) (n : Node) (ts : Trees) (hs : Hand Value) → is 13 n ≡ b → Keeps (cleared n) ts hs → Gives (node n ts) (beside names m.undefined (form (cleared n)) (cleared n) hs)
    gives-by true n ts hs e h = chain-gives n ts hs e h
    gives-by false n ts hs e h = other-gives n ts hs e

    gives-beside : (n : Node) (ts : Trees) (hs : Hand Value) → Keeps (cleared n) ts hs → Gives (node n ts) (beside names m.undefined (form (cleared n)) (cleared n) hs)
    gives-beside n ts hs h = gives-by (is 13 n) n ts hs refl h

    -- how parts come out: a tree; children behind the first; the children of a node
    abbrev pub Given-fits : Tree → Out Value Rest (Given Value) → Type 0
    Given-fits t o = Ends (λ x s. Gives t x.beside) (λ s. Unit {0}) (Unit {0}) o

    abbrev Stands : Node → Trees → Hand Value → Type 0
    Stands n ts hs = is_chain (form n) ≡ false → (marked : Bool) → some_turn (step marked) (choice_of (form n)) (λ w. may_have names n w ts hs) ≡ true

    abbrev pub Hand-fits : Node → Trees → Out Value Rest (Hand Value) → Type 0
    Hand-fits n ts o = Ends (λ hs s. Keeps n ts hs × Stands n ts hs) (λ s. Unit {0}) (Unit {0}) o

    abbrev Any : {A : Type 0} → Out Value Rest A → Type 0
    Any o = Ends (λ x s. Unit {0}) (λ s. Unit {0}) (Unit {0}) o

    any : {A : Type 0} (o : Out Value Rest A) → Any o
    any o = ends-any o (λ x s. tt) (λ s. tt)

    abbrev Values : Turn → Trees → Out Value Rest (Hand Value) → Type 0
    Values w ts o = Ends (λ hs s. are_values w ts hs ≡ true) (λ s. Unit {0}) (Unit {0}) o

    -- children behind the first
    values_skip : (w : Turn) (t : Tree) (ts : Trees) (hs : Hand Value) → takes w ≡ false → are_values (then w) ts hs ≡ true → are_values w (more t ts) hs ≡ true
    unfolding are_values
    values_skip w t ts [] e h = rw (e, h)
    values_skip w t ts (x ∷ hs) e h = rw (e, h)

    values-take : (w : Turn) (t : Tree) (ts : Trees) (u : Value) (hs : Hand Value) → takes w ≡ true → are_values (then w) ts hs ≡ true → are_values w (more t ts) (only u ∷ hs) ≡ true
    unfolding are_values is_nothing sort_of
    values-take w t ts u hs e h = rw (e, h)

    turn-fits : (b : Bool) (w : Turn) (t : Tree) (ts : Trees) (child : State Value Rest → Out Value Rest (Given Value)) (others : State Value Rest → Out Value Rest (Hand Value)) (s : State Value Rest) → takes w ≡ b → ((s : State Value Rest) → Values (then w) ts (others s)) → Values w (more t ts) (cond b (in_turn child others s) (others s))
    unfolding in_turn
    turn-fits true w t ts child others s e h = ends-bind (any (child s)) (λ x s' u. ends-bind (h s') (λ hs s'' g. gives (values-take w t ts x.value hs e g)))
    turn-fits false w t ts child others s e h = ends-map (h s) (λ hs s' g. values_skip w t ts hs e g) (λ s' u. tt) (λ u. tt)

    no_trees : (w : Turn) → are_values {Value = Value} w none [] ≡ true
    unfolding are_values
    no_trees w = refl

    others-fit : (ts : Trees) (w : Turn) (s : State Value Rest) → Values w ts (run_others names m ts w s)
    unfolding run
    others-fit none w s = gives (no_trees w)
    others-fit (more t ts) w s = turn-fits (takes w) w t ts (λ s'. run names m t value s') (λ s'. run_others names m ts (then w) s') s refl (λ s'. others-fit ts (then w) s')

    -- as they are chosen
    abbrev Chosen : Choice → Trees → Out Value Rest (Hand Value) → Type 0
    Chosen c ts o = Ends (λ hs s. (marked : Bool) → some_turn (step marked) c (λ w. are_values w ts hs) ≡ true) (λ s. Unit {0}) (Unit {0}) o

    chosen-fit : (ts : Trees) (c : Choice) (b : Bool) (others : Turn → State Value Rest → Out Value Rest (Hand Value)) (s : State Value Rest) → ((w : Turn) → Values w ts (others w s)) → Chosen c ts (chosen c b others s)
    unfolding chosen some_turn
    chosen-fit ts never b others s h = ends-map (h all) (λ hs s' e k. e) (λ s' u. tt) (λ u. tt)
    chosen-fit ts logical true others s h = ends-map (h all) (λ hs s' e k. or_left _ _ e) (λ s' u. tt) (λ u. tt)
    chosen-fit ts logical false others s h = ends-map (h skipped) (λ hs s' e k. or_right (are_values all ts hs) _ e) (λ s' u. tt) (λ u. tt)
    chosen-fit ts conditional true others s h = ends-map (h second) (λ hs s' e k. or_left _ _ e) (λ s' u. tt) (λ u. tt)
    chosen-fit ts conditional false others s h = ends-map (h third) (λ hs s' e k. or_right (are_values second ts hs) _ e) (λ s' u. tt) (λ u. tt)
    chosen-fit ts optionally true others s h = ends-map (h all) (λ hs s' e k. e) (λ s' u. tt) (λ u. tt)
    chosen-fit ts optionally false others s h = cuts tt

    -- with what the first child gave
    keeps-first : (n : Node) (w : Turn) (t : Tree) (ts : Trees) (x : Given Value) (hs : Hand Value) → Gives t x.beside → are_values w ts hs ≡ true → may_have names n w (more t ts) (hand_of (form n) n x ∷ hs) ≡ true
    unfolding may_have
    keeps-first n w t ts x hs e h = rw (keeps n t x.beside e, h)

    none-skipped : (ts : Trees) → are_values {Value = Value} skipped ts [] ≡ true
    unfolding are_values takes then
    none-skipped none = refl
    none-skipped (more t ts) = none-skipped ts

    pub choice-fits : (n : Node) (t : Tree) (ts : Trees) (x : Given Value) → Gives t x.beside → some_turn choice (choice_of (form n)) (λ w. may_have names n w (more t ts) (hand_of (form n) n x ∷ [])) ≡ true
    unfolding some_turn
    choice-fits n t ts x e = keeps-first n skipped t ts x [] e (none-skipped ts)

    after_first-fits : (n : Node) (t : Tree) (ts : Trees) (role : Role) (others : Turn → State Value Rest → Out Value Rest (Hand Value)) (x : Given Value) (s : State Value Rest) → Gives t x.beside → ((w : Turn) → Values w ts (others w s)) → Hand-fits n (more t ts) (after_first m (form n) n role others x s)
    unfolding after_first
    after_first-fits n t ts role others x s e h =
        ends-bind (chosen-fit ts (choice_of (form n)) _ others s h) (λ hs s' g.
        gives (keeps n t x.beside e, λ q k. turn_on (step k) (choice_of (form n)) (λ w. are_values w ts hs) (λ w. may_have names n w (more t ts) (hand_of (form n) n x ∷ hs)) (λ w z. keeps-first n w t ts x hs e z) (g k)))

    -- no child has run
    no_keeps : (n : Node) (ts : Trees) → Keeps n ts []
    no_keeps n none = tt
    no_keeps n (more t ts) = tt

    none-hand : (n : Node) (w : Turn) (ts : Trees) → childless (form n) ≡ true → may_have {Value = Value} names n w ts [] ≡ true
    unfolding may_have
    none-hand n w none e = refl
    none-hand n w (more t ts) e = e

    gathered-by : (b c : Bool) (n : Node) (ts : Trees) (o : Out Value Rest (Hand Value)) (s : State Value Rest) → childless (form n) ≡ b → is_chain (form n) ≡ c → Hand-fits n ts o → Hand-fits n ts (cond b (gave [] s) (cond c (caught o) o))
    unfolding caught
    gathered-by true c n ts o s e g h = gives (no_keeps n ts, λ q k. turn-any (step k) (choice_of (form n)) (λ w. may_have names n w ts []) (λ w. none-hand n w ts e))
    gathered-by false true n ts o s e g (gives h) = gives h
    gathered-by false true n ts o s e g (cuts h) = gives (no_keeps n ts, λ q. clash (is_chain (form n)) q g)
    gathered-by false true n ts o s e g (halts h) = halts tt
    gathered-by false false n ts o s e g h = h

    pub gathered-fits : (n : Node) (ts : Trees) (o : Out Value Rest (Hand Value)) (s : State Value Rest) → Hand-fits n ts o → Hand-fits n ts (gathered (form n) o s)
    unfolding gathered
    gathered-fits n ts o s h = gathered-by (childless (form n)) (is_chain (form n)) n ts o s refl refl h

    finished-fits : (n : Node) (ts : Trees) (role : Role) (hs : Hand Value) (s : State Value Rest) → Keeps (cleared n) ts hs → Given-fits (node n ts) (finished names m (form (cleared n)) (cleared n) role hs s)
    unfolding finished
    finished-fits n ts role hs s h = ends-bind (any (own names m (form (cleared n)) (cleared n) role _ s)) (λ w s' u. gives (gives-beside n ts hs h))

    no_children : (n : Node) (w : Turn) → may_have {Value = Value} names n w none [] ≡ true
    unfolding may_have
    no_children n w = refl

    mutual
      unfolding run run_node

      pub given-fits : (t : Tree) (role : Role) (s : State Value Rest) → Given-fits t (run names m t role s)
      given-fits (node n ts) role s = ends-bind (gathered-fits (cleared n) ts _ s (hand-fits ts (cleared n) role s)) (λ hs s' h. finished-fits n ts role hs s' h.0)

      pub hand-fits : (ts : Trees) (n : Node) (role : Role) (s : State Value Rest) → Hand-fits n ts (run_children names m ts (form n) n role s)
      hand-fits none n role s = gives (tt, λ q k. turn-any (step k) (choice_of (form n)) (λ w. may_have names n w none []) (λ w. no_children n w))
      hand-fits (more t ts) n role s = ends-bind (given-fits t (first_role (form n) n role) s) (λ x s' e. after_first-fits n t ts role _ x s' e (λ w. others-fit ts w s'))
