-- Trees without an effect change nothing; what no step changes is kept by every run; only a chain is cut short.
use Prim.Native.Nat.{ℕ, ◌+◌}
use native.Mathlib.Omega.{arith}
use mathlib.Core.Bool.{Bool, true, false, cond, ◌&&◌, ◌||◌, not}
use mathlib.Core.List.{List, []}
use mathlib.Core.Path.{◌≡◌, refl, sym, ◌∙◌}
use lib.Dec.{eqb}
use borrow.Author.Tests.{eqb-true, ne_eqb}
use Rattle.records.specs.Flags.{marked, optional}
use Rattle.records.specs.Node.{is_chain_element}
use Rattle.records.specs.Tree.{Node, Tree, Trees, node, none, more}
use Rattle.records.specs.Place.{root, may_stand, chains, unchained, unchained_first, may_be_unchained, stand_under, placed, all_placed}
use Rattle.records.specs.declared.layout.NameFacts.{NameFacts}
use Rattle.records.proofs.Tests.{clash, both, neither}
use Rattle.walk_rules.specs.Effect.{has_effect, may_have_side_effects, any_has_side_effects}
use Rattle.theory_runs.specs.Store.{Store}
use Rattle.theory_runs.specs.Hand.{Given}
use Rattle.theory_runs.specs.Step.{Role, value, Step}
use Rattle.theory_runs.specs.Meaning.{Act, done, stops, Meaning}
use Rattle.theory_runs.specs.Form.{is, cleared, is_marked, Choice, never, logical, conditional, optionally, Form, constant, name, target_name, leaf, chain, property, importing, sequence, assignment, stepping, form, order, childless, is_chain, choice_of, first_role, origin_of}
use Rattle.theory_runs.specs.State.{Log, State, Out, gave, cut, stop}
use Rattle.theory_runs.specs.Run.{Turn, all, skipped, second, third, takes, then, resolved, acted, caught, gathered, chosen, in_turn, stepped, queued, held, after_first, own, finished, run_node, run, run_children, run_others}
use Rattle.theory_runs.specs.Facts.{through, is_of_node}
use Rattle.theory_preservation.proofs.Tables.{kinds_of, kinds, marked-cleared, link_cleared, name-form}
use Rattle.theory_preservation.proofs.Ends.{Ends, gives, halts, ends-bind, ends_cond, ends-map, First, step_of, ends, ends-children}
use Rattle.theory_preservation.proofs.Uses.{targets, all_targets, Off, nothing-off, kept_off, first_off, off-target, off-through, aside-off, kids-targets, head_targets, tail-targets, of_node_lem}

-- Without an effect.
module _ {Value Rest : Type 0} (names : List NameFacts) (m : Meaning Value Rest) (s₀ : State Value Rest) where
  abbrev pub Still : {A : Type 0} → Out Value Rest A → Type 0
  Still o = Ends (λ x s. s ≡ s₀) (λ s. s ≡ s₀) ⊥ o

  stepped-still : (t : Bool) (x : Step Value) (s : State Value Rest) → t ≡ false → s ≡ s₀ → Still (stepped m t x s)
  unfolding stepped
  stepped-still true x s e p = clash true e refl
  stepped-still false x s e p = gives p

  held-still : (t : Bool) (n : Node) (x : Step Value) (s : State Value Rest) → is_marked n ≡ false → s ≡ s₀ → Still (held m t n x s)
  unfolding held
  held-still true n x s e p = gives p
  held-still false n x s e p = stepped-still (is_marked n) x s e p

  own-still : (f : Form) (n : Node) (role : Role) (x : Step Value) (s : State Value Rest) → kinds_of f n ≡ true → is_marked n ≡ false → is 8 n ≡ false → is 20 n ≡ false → s ≡ s₀ → Still (own names m f n role x s)
  unfolding own kinds_of
  own-still constant n role x s k e g h p = gives p
  own-still name n role x s k e g h p = held-still _ n x s e p
  own-still target_name n role x s k e g h p = held-still _ n x s e p
  own-still leaf n role x s k e g h p = stepped-still (is_marked n) x s e p
  own-still chain n role x s k e g h p = gives p
  own-still property n role x s k e g h p = gives p
  own-still importing n role x s k e g h p = clash (is 8 n) g k
  own-still sequence n role x s k e g h p = gives p
  own-still (assignment c) n role x s k e g h p = clash (is 20 n) h k
  own-still (stepping c) n role x s k e g h p = stepped-still (is_marked n) x s e p

  unmarked : (n : Node) → has_effect n ≡ false → (is_marked (cleared n) ≡ false) × (is 8 (cleared n) ≡ false) × (is 20 (cleared n) ≡ false)
  unfolding has_effect is_marked cleared
  unmarked n e =
      let (a, b) = neither (marked n.flags || is 6 n || is 7 n || is 8 n) (is 20 n) e in
      let (c, d) = neither (marked n.flags || is 6 n || is 7 n) (is 8 n) a in
      (rw (marked-cleared n) c, d, b)

  kids-still : (n : Node) (ts : Trees) → may_have_side_effects (node n ts) ≡ false → any_has_side_effects ts ≡ false
  unfolding may_have_side_effects
  kids-still n ts e = (neither (has_effect n) (any_has_side_effects ts) e).1

  head_still : (t : Tree) (ts : Trees) → any_has_side_effects (more t ts) ≡ false → may_have_side_effects t ≡ false
  unfolding may_have_side_effects
  head_still t ts e = (neither (may_have_side_effects t) (any_has_side_effects ts) e).0

  tail-still : (t : Tree) (ts : Trees) → any_has_side_effects (more t ts) ≡ false → any_has_side_effects ts ≡ false
  unfolding may_have_side_effects
  tail-still t ts e = (neither (may_have_side_effects t) (any_has_side_effects ts) e).1

  step-still : (n : Node) (ts : Trees) (role : Role) (hs : List (Given Value)) (s : State Value Rest) → may_have_side_effects (node n ts) ≡ false → First (λ b. Unit {0}) hs → s ≡ s₀ → Still (own names m (form (cleared n)) (cleared n) role (step_of (cleared n) role hs) s)
  unfolding may_have_side_effects
  step-still n ts role hs s e b p =
      let (x, y, z) = unmarked n (neither (has_effect n) (any_has_side_effects ts) e).0 in
      own-still (form (cleared n)) (cleared n) role _ s (kinds (cleared n)) x y z p

  -- a tree without effects leaves the state as it is, and doesn't stop
  pub still : (t : Tree) → may_have_side_effects t ≡ false → (role : Role) → Still (run names m t role s₀)
  still t e role =
      ends-map (ends names m (λ b. Unit {0}) (λ s. s ≡ s₀) ⊥ (λ t. may_have_side_effects t ≡ false) (λ ts. any_has_side_effects ts ≡ false) kids-still head_still tail-still tt (λ f n b u. tt) (λ n ts hs h u. tt) step-still t e role s₀ refl)
      (λ x s p. p.1) (λ s p. p) (λ q. q)

  pub still-children : (ts : Trees) (f : Form) (n : Node) (role : Role) → any_has_side_effects ts ≡ false → Still (run_children names m ts f n role s₀)
  still-children ts f n role e =
      ends-map (ends-children names m (λ b. Unit {0}) (λ s. s ≡ s₀) ⊥ (λ t. may_have_side_effects t ≡ false) (λ ts. any_has_side_effects ts ≡ false) kids-still head_still tail-still tt (λ f n b u. tt) (λ n ts hs h u. tt) step-still ts f n role e s₀ refl)
      (λ x s p. p.1) (λ s p. p) (λ q. q)

-- What no step of a node changes, but through a resolved name, is kept by a tree that has that name for no target.
module _ {Value Rest : Type 0} (names : List NameFacts) (m : Meaning Value Rest) (a : ℕ) (there : resolved names a ≡ true) (K : Store Value Rest → Type 0)
    (keeps : (x : Step Value) → is_of_node x.origin ≡ true → through a x ≡ false → (s s' : Store Value Rest) (w : Value) → m.acts x s ≡ done w s' → K s → K s') where
  abbrev pub Keeps : {A : Type 0} → Out Value Rest A → Type 0
  Keeps o = Ends (λ x s. K s.store) (λ s. K s.store) (Unit {0}) o

  acted-keeps : (l : Log Value) (o : Act Value Rest) → ((w : Value) (s : Store Value Rest) → o ≡ done w s → K s) → Keeps (acted l o)
  unfolding acted
  acted-keeps l (done w s) h = gives (h w s refl)
  acted-keeps l stops h = halts tt

  stepped-keeps : (t : Bool) (x : Step Value) (s : State Value Rest) → is_of_node x.origin ≡ true → through a x ≡ false → K s.store → Keeps (stepped m t x s)
  unfolding stepped
  stepped-keeps true x s i e p = acted-keeps _ _ (λ w s' h. keeps x i e s.store s' w h p)
  stepped-keeps false x s i e p = gives p

  held_keeps : (t : Bool) (n : Node) (x : Step Value) (s : State Value Rest) → is_of_node x.origin ≡ true → through a x ≡ false → K s.store → Keeps (held m t n x s)
  unfolding held
  held_keeps true n x s i e p = gives p
  held_keeps false n x s i e p = stepped-keeps (is_marked n) x s i e p

  own-keeps : (f : Form) (n : Node) (role : Role) (x : Step Value) (s : State Value Rest) → is_of_node x.origin ≡ true → through a x ≡ false → K s.store → Keeps (own names m f n role x s)
  unfolding own queued
  own-keeps constant n role x s i e p = gives p
  own-keeps name n role x s i e p = held_keeps _ n x s i e p
  own-keeps target_name n role x s i e p = held_keeps _ n x s i e p
  own-keeps leaf n role x s i e p = stepped-keeps (is_marked n) x s i e p
  own-keeps chain n role x s i e p = gives p
  own-keeps property n role x s i e p = gives p
  own-keeps importing n role x s i e p = gives p
  own-keeps sequence n role x s i e p = gives p
  own-keeps (assignment c) n role x s i e p = stepped-keeps true x s i e p
  own-keeps (stepping c) n role x s i e p = stepped-keeps (is_marked n) x s i e p

  -- a name makes a step only if it isn't resolved, so that it is another one
  name-keeps : (t : Bool) (n : Node) (role : Role) (hs : List (Given Value)) (s : State Value Rest) → resolved names n.label ≡ t → is_of_node (origin_of n role) ≡ true → (eqb n.label a ≡ false → through a (step_of n role hs) ≡ false) → K s.store → Keeps (held m t n (step_of n role hs) s)
  name-keeps true n role hs s e i h p = unfold held in gives p
  name-keeps false n role hs s e i h p = held_keeps false n (step_of n role hs) s i (h (ne_eqb n.label a (λ q. other q))) p
    where
      other : n.label ≡ a → ⊥
      other q = let z : resolved names n.label ≡ true = rw q there in clash (resolved names n.label) e z

  node-keeps : (b : Bool) (n : Node) (role : Role) (hs : List (Given Value)) (s : State Value Rest) → is 4 n ≡ b → is_of_node (origin_of n role) ≡ true → (is 29 n ≡ true → eqb n.label a ≡ false) → First (Off a) hs → K s.store → Keeps (own names m (form n) n role (step_of n role hs) s)
  node-keeps true n role hs s e i h g p = rw (name-form n e) (unfold own in name-keeps (resolved names n.label) n role hs s refl i (λ q. off-through a n role hs (λ z. q) h (first_off a hs g)) p)
  node-keeps false n role hs s e i h g p = own-keeps (form n) n role (step_of n role hs) s i (off-through a n role hs (λ z. clash (is 4 n) e z) h (first_off a hs g)) p

  step_keeps : (n : Node) (ts : Trees) (role : Role) (hs : List (Given Value)) (s : State Value Rest) → targets a (node n ts) ≡ 0 → First (Off a) hs → K s.store → Keeps (own names m (form (cleared n)) (cleared n) role (step_of (cleared n) role hs) s)
  step_keeps n ts role hs s h g p = node-keeps (is 4 (cleared n)) (cleared n) role hs s refl (of_node_lem (cleared n) role) (off-target a n ts h) g p

  -- what node steps keep of the store, but those through a, the run of a tree keeps in which a is no target
  pub kept_by : (t : Tree) → targets a t ≡ 0 → (role : Role) (s : State Value Rest) → K s.store → Keeps (run names m t role s)
  kept_by t h role s p =
      ends-map (ends names m (Off a) (λ s. K s.store) (Unit {0}) (λ t. targets a t ≡ 0) (λ ts. all_targets a ts ≡ 0) (kids-targets a) (head_targets a) (tail-targets a) (nothing-off a) (kept_off a) (aside-off names m a) step_keeps t h role s p)
      (λ x s p. p.1) (λ s p. p) (λ q. q)

-- what stands under a node
pub under : (n : Node) (ts : Trees) → placed (node n ts) ≡ true → (stand_under n 0 ts ≡ true) × (all_placed ts ≡ true)
unfolding placed
under n ts h = both (stand_under n 0 ts) (all_placed ts) h

pub in_row : (t : Tree) (ts : Trees) → all_placed (more t ts) ≡ true → (placed t ≡ true) × (all_placed ts ≡ true)
unfolding placed
in_row t ts h = both (placed t) (all_placed ts) h

pub stands : (p : Node) (i : ℕ) (t : Tree) (ts : Trees) → stand_under p i (more t ts) ≡ true → (may_stand p.kind p.flags i (root t).kind ≡ true) × ((not (unchained t) || may_be_unchained p.kind i) ≡ true) × (stand_under p (i + 1) ts ≡ true)
unfolding stand_under
stands p i t ts h =
    let (a, b) = both (may_stand p.kind p.flags i (root t).kind && (not (unchained t) || may_be_unchained p.kind i)) (stand_under p (i + 1) ts) h in
    let (c, d) = both (may_stand p.kind p.flags i (root t).kind) (not (unchained t) || may_be_unchained p.kind i) a in
    (c, d, b)

-- Chains.
unfoldable cutting : Choice → Bool
cutting never = false
cutting logical = false
cutting conditional = false
cutting optionally = true

module _ {Value Rest : Type 0} (names : List NameFacts) (m : Meaning Value Rest) where
  abbrev pub Whole : {A : Type 0} → Out Value Rest A → Type 0
  Whole o = Ends (λ x (s : State Value Rest). Unit {0}) (λ s. ⊥) (Unit {0}) o

  acted-whole : (l : Log Value) (a : Act Value Rest) → Whole (acted l a)
  unfolding acted
  acted-whole l (done u s) = gives tt
  acted-whole l stops = halts tt

  stepped-whole : (t : Bool) (x : Step Value) (s : State Value Rest) → Whole (stepped m t x s)
  unfolding stepped
  stepped-whole true x s = acted-whole _ _
  stepped-whole false x s = gives tt

  held_whole : (t : Bool) (n : Node) (x : Step Value) (s : State Value Rest) → Whole (held m t n x s)
  unfolding held
  held_whole true n x s = gives tt
  held_whole false n x s = stepped-whole (is_marked n) x s

  own-whole : (f : Form) (n : Node) (role : Role) (x : Step Value) (s : State Value Rest) → Whole (own names m f n role x s)
  unfolding own queued
  own-whole constant n role x s = gives tt
  own-whole name n role x s = held_whole _ n x s
  own-whole target_name n role x s = held_whole _ n x s
  own-whole leaf n role x s = stepped-whole (is_marked n) x s
  own-whole chain n role x s = gives tt
  own-whole property n role x s = gives tt
  own-whole importing n role x s = gives tt
  own-whole sequence n role x s = gives tt
  own-whole (assignment c) n role x s = stepped-whole true x s
  own-whole (stepping c) n role x s = stepped-whole (is_marked n) x s

  finished-whole : (f : Form) (n : Node) (role : Role) (hs : List (Given Value)) (s : State Value Rest) → Whole (finished names m f n role hs s)
  unfolding finished
  finished-whole f n role hs s = ends-bind (own-whole f n role _ s) (λ w s' p. gives tt)

  caught-whole : (o : Out Value Rest (List (Given Value))) → Whole (caught o)
  unfolding caught
  caught-whole (gave a s) = gives tt
  caught-whole (cut s) = gives tt
  caught-whole (stop l) = halts tt

  gathered-whole : (l c : Bool) (o : Out Value Rest (List (Given Value))) (s : State Value Rest) → (c ≡ false → Whole o) → Whole (cond l (gave [] s) (cond c (caught o) o))
  gathered-whole true c o s h = gives tt
  gathered-whole false true o s h = caught-whole o
  gathered-whole false false o s h = h refl

  chosen-whole : (c : Choice) (b : Bool) (others : Turn → State Value Rest → Out Value Rest (List (Given Value))) (s : State Value Rest) → cutting c ≡ false → ((w : Turn) → Whole (others w s)) → Whole (chosen c b others s)
  unfolding chosen cutting
  chosen-whole never b others s e h = h all
  chosen-whole logical true others s e h = h all
  chosen-whole logical false others s e h = h skipped
  chosen-whole conditional true others s e h = h second
  chosen-whole conditional false others s e h = h third
  chosen-whole optionally b others s e h = clash true e refl

  after_first-whole : (f : Form) (n : Node) (role : Role) (others : Turn → State Value Rest → Out Value Rest (List (Given Value))) (x : Given Value) (s : State Value Rest) → cutting (choice_of f) ≡ false → ((w : Turn) → Whole (others w s)) → Whole (after_first m f n role others x s)
  unfolding after_first
  after_first-whole f n role others x s e h = ends-bind (chosen-whole (choice_of f) _ others s e h) (λ hs s' p. gives tt)

  -- an optional node is unchained
  uncut-by : (f : Form) (n : Node) → kinds_of f n ≡ true → (is_chain_element n.kind && optional n.flags) ≡ false → cutting (choice_of f) ≡ false
  unfolding kinds_of choice_of cutting
  uncut-by constant n k e = refl
  uncut-by name n k e = refl
  uncut-by target_name n k e = refl
  uncut-by leaf n k e = refl
  uncut-by chain n k e = refl
  uncut-by property n k e = refl
  uncut-by importing n k e = refl
  uncut-by sequence n k e = refl
  uncut-by (assignment true) n k e = refl
  uncut-by (assignment false) n k e = refl
  uncut-by (stepping never) n k e = refl
  uncut-by (stepping logical) n k e = refl
  uncut-by (stepping conditional) n k e = refl
  uncut-by (stepping optionally) n k e = clash _ e k

  left_of : (x y z : Bool) → (x && (y || z)) ≡ false → (x && y) ≡ false
  left_of true true z e = e
  left_of true false z e = refl
  left_of false y z e = refl

  uncut : (n : Node) (ts : Trees) → unchained (node n ts) ≡ false → cutting (choice_of (form (cleared n))) ≡ false
  unfolding unchained
  uncut n ts e = uncut-by (form (cleared n)) (cleared n) (kinds (cleared n)) (unfold cleared in (link_cleared n ∙ left_of (is_chain_element n.kind) (optional n.flags) (unchained_first ts) e))

  chain-form : (n : Node) → is 13 n ≡ true → is_chain (form n) ≡ true
  unfolding form is_chain order
  chain-form n e = rw (eqb-true n.kind 13 e)

  no_chain : (n : Node) → is_chain (form (cleared n)) ≡ false → is 13 n ≡ false
  no_chain n e = by (is 13 n) refl
    where
      by : (b : Bool) → is 13 n ≡ b → is 13 n ≡ false
      by true q = clash (is_chain (form (cleared n))) e (chain-form (cleared n) (unfold cleared in q))
      by false q = q

  -- where no chain begins, the first child is no more unchained than the node
  chained-by : (c l o x : Bool) → c ≡ false → (l && (o || x)) ≡ false → (not x || (true && (c || l))) ≡ true → x ≡ false
  chained-by c l o false e g h = refl
  chained-by true l o true e g h = e
  chained-by false true true true e g h = g
  chained-by false true false true e g h = g
  chained-by false false o true e g h = sym h

  first-chained : (n : Node) (ts : Trees) → is 13 n ≡ false → unchained (node n ts) ≡ false → stand_under n 0 ts ≡ true → unchained_first ts ≡ false
  unfolding unchained may_be_unchained
  first-chained n none e g h = refl
  first-chained n (more t ts) e g h = chained-by (is 13 n) (is_chain_element n.kind) (optional n.flags) (unchained t) e g (stands n 0 t ts h).1

  next-chained : (p : Node) (i : ℕ) (t : Tree) (ts : Trees) → stand_under p (i + 1) (more t ts) ≡ true → all_placed (more t ts) ≡ true → (placed t ≡ true) × (unchained t ≡ false) × (stand_under p (i + 1 + 1) ts ≡ true) × (all_placed ts ≡ true)
  unfolding placed may_be_unchained
  next-chained p i t ts h g =
      let (a, b) = both (placed t) (all_placed ts) g in
      let (c, d, e) = stands p (i + 1) t ts h in
      (a, not_unchained (unchained t) (eqb (i + 1) 0) (chains p.kind) (ne_eqb (i + 1) 0 (λ q. omega arith)) d, e, b)
    where
      not_unchained : (x y z : Bool) → y ≡ false → (not x || (y && z)) ≡ true → x ≡ false
      not_unchained true true z q r = q
      not_unchained true false z q r = sym r
      not_unchained false y z q r = refl

  after_first_lem : (p : Node) (t : Tree) (ts : Trees) → stand_under p 0 (more t ts) ≡ true → all_placed (more t ts) ≡ true → (placed t ≡ true) × (stand_under p (0 + 1) ts ≡ true) × (all_placed ts ≡ true)
  unfolding placed
  after_first_lem p t ts h g =
      let (a, b) = both (placed t) (all_placed ts) g in
      (a, (stands p 0 t ts h).2, b)

  firstly : (t : Tree) (ts : Trees) → unchained_first (more t ts) ≡ false → unchained t ≡ false
  unfolding unchained
  firstly t ts e = e

  mutual
    unfolding run run_node gathered in_turn

    -- a tree that stands well, and isn't unchained, is never cut short
    pub whole : (t : Tree) → placed t ≡ true → unchained t ≡ false → (role : Role) (s : State Value Rest) → Whole (run names m t role s)
    whole (node n ts) h g role s =
        let (a, b) = under n ts h in
        ends-bind (gathered-whole (childless (form (cleared n))) (is_chain (form (cleared n))) _ s (λ e. whole-children ts (form (cleared n)) (cleared n) role n (uncut n ts g) a b (first-chained n ts (no_chain n e) g a) s)) (λ hs s' p. finished-whole (form (cleared n)) (cleared n) role hs s')

    whole-children : (ts : Trees) (f : Form) (n : Node) (role : Role) (p : Node) → cutting (choice_of f) ≡ false → stand_under p 0 ts ≡ true → all_placed ts ≡ true → unchained_first ts ≡ false → (s : State Value Rest) → Whole (run_children names m ts f n role s)
    whole-children none f n role p c h g l s = gives tt
    whole-children (more t ts) f n role p c h g l s =
        let (a, b, d) = after_first_lem p t ts h g in
        ends-bind (whole t a (firstly t ts l) (first_role f n role) s) (λ x s' u. after_first-whole f n role _ x s' c (λ w. whole-others ts w p 0 b d s'))

    whole-others : (ts : Trees) (w : Turn) (p : Node) (i : ℕ) → stand_under p (i + 1) ts ≡ true → all_placed ts ≡ true → (s : State Value Rest) → Whole (run_others names m ts w s)
    whole-others none w p i h g s = gives tt
    whole-others (more t ts) w p i h g s =
        let (a, b, c, d) = next-chained p i t ts h g in
        ends_cond (takes w)
        (ends-bind (whole t a b value s) (λ x s' u. ends-bind (whole-others ts (then w) p (i + 1) c d s') (λ hs s'' u'. gives tt)))
        (whole-others ts (then w) p (i + 1) c d s)
