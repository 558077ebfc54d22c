-- The run of a tree and of a row of children.
use Rattle.std.specs.Prelude.{ℕ, Bool, true, false, cond, ◌&&◌, ◌||◌, not, List, [], ◌∷◌}
use Rattle.records.specs.Flags.{unresolved, is_eval}
use Rattle.records.specs.Script.{flags_of}
use Rattle.records.specs.Tree.{Node, Tree, Trees, node, none, more}
use Rattle.records.specs.declared.layout.NameFacts.{NameFacts}
use Rattle.theory_runs.specs.Hand.{static, private, computed, Beside, nothing, bare_eval, target_name as aTarget, opaque_target, member, Given, Hand, only, first_or, last_or}
use Rattle.theory_runs.specs.Step.{Role, value, target, deleted, Step}
use Rattle.theory_runs.specs.Meaning.{Act, done, stops, Meaning}
use Rattle.theory_runs.specs.Form.{is, cleared, is_marked, is_delete, Choice, never, logical, conditional, optionally, Form, constant, name, target_name, leaf, chain, property, importing, sequence, assignment, stepping, form, childless, is_name, is_chain, is_assignment, choice_of, first_role, origin_of}
use Rattle.theory_runs.specs.State.{Log, Out, gave, cut, stop, Part, bind}

-- Which of the children behind the first run: all; none; the second child; the third.
pub data Turn : Type 0 where
  all skipped second third : Turn

-- whether the next child runs, and which of those behind it
unfoldable pub takes : Turn → Bool
takes all = true
takes skipped = false
takes second = true
takes third = false

unfoldable pub then : Turn → Turn
then all = all
then skipped = skipped
then second = skipped
then third = all

-- a name that isn't unresolved
abbrev pub resolved : List NameFacts → ℕ → Bool
resolved names a = not (unresolved (flags_of names a))

-- whether a target name is read: not where a plain assignment is made to it
unfoldable pub is_read : Role → Bool
is_read value = true
is_read target = false
is_read deleted = true

-- What a node has in hand of its first child beside its value. "A call step depends on whether its callee is a member, bare
-- `eval`, or neither; a tag step, on whether its tag is a member" (ECMA-262 13.3.6.1 and 13.3.6.2, 13.3.11.1). An assignment:
-- its target name or opaque target (13.15.2). "A member called, tagged, deleted or assigned to": its object and key (13.5.1.2
-- for `delete`), which a chain over it hands on (13.2.9.2: parentheses keep the reference).
unfoldable pub kept : {Value : Type 0} → Form → Node → Beside Value → Beside Value
kept f n nothing = nothing
kept f n bare_eval = cond (is 14 n) bare_eval nothing
kept f n (aTarget a) = cond (is_assignment f) (aTarget a) nothing
kept f n (opaque_target l) = cond (is_assignment f) (opaque_target l) nothing
kept f n (member o k) = cond (is 14 n || is 24 n || is_delete n || is_assignment f || is_chain f) (member o k) nothing

-- what a node gives beside its value, with this in hand; this value stands where nothing is in hand
unfoldable pub beside : {Value : Type 0} → List NameFacts → Value → Form → Node → Hand Value → Beside Value
beside names w f n hs =
    cond (is_name f) (cond (is_eval (flags_of names n.label)) bare_eval nothing)
    (cond (is 29 n) (aTarget n.label)
    (cond (is 30 n) (opaque_target n.label)
    (cond (is 10 n) (member (first_or w hs).value (static n.label))
    (cond (is 11 n) (member (first_or w hs).value (private n.label))
    (cond (is 12 n) (member (first_or w hs).value (computed (last_or w hs)))
    (cond (is_chain f) (first_or w hs).beside
    nothing))))))

-- the list with one step more
unfoldable pub listed : {Value : Type 0} → Step Value → Log Value → Log Value
listed x l = record { steps = x ∷ l.steps; values = l.values }

unfoldable pub acted : {Value Rest : Type 0} → Log Value → Act Value Rest → Out Value Rest Value
acted l (done w s) = gave w (record { store = s; log = l })
acted l stops = stop l

-- a chain that is cut short has nothing in hand
unfoldable pub caught : {Value Rest : Type 0} → Out Value Rest (Hand Value) → Out Value Rest (Hand Value)
caught (gave hs s) = gave hs s
caught (cut s) = gave [] s
caught (stop l) = stop l

-- what a node's children gave; a kind without children runs none
unfoldable pub gathered : {Value Rest : Type 0} → Form → Out Value Rest (Hand Value) → Part Value Rest (Hand Value)
gathered f o s = cond (childless f) (gave [] s) (cond (is_chain f) (caught o) o)

-- "logical, conditional and optional forms run what the standard runs": ECMA-262 13.13.1, 13.14.1, 13.3.9.1 with 13.3.9.2,
-- and 13.15.2 for compound assignments. Cut short, a node and those above it up to the chain make no step and run no further
-- child.
unfoldable pub chosen : {Value Rest : Type 0} → Choice → Bool → (Turn → Part Value Rest (Hand Value)) → Part Value Rest (Hand Value)
chosen never b others s = others all s
chosen logical true others s = others all s
chosen logical false others s = others skipped s
chosen conditional true others s = others second s
chosen conditional false others s = others third s
chosen optionally true others s = others all s
chosen optionally false others s = cut s

-- a child, of which its value is in hand and no more, and then others
unfoldable pub in_turn : {Value Rest : Type 0} → Part Value Rest (Given Value) → Part Value Rest (Hand Value) → Part Value Rest (Hand Value)
in_turn child others s = bind (child s) (λ x s'. bind (others s') (λ hs s''. gave (only x.value ∷ hs) s''))

module _ {Value Rest : Type 0} (m : Meaning Value Rest) where
  -- "A marked step may change the store or stop; an unmarked one reads only."
  unfoldable pub stepped : Bool → Step Value → Part Value Rest Value
  stepped true x s = acted (listed x s.log) (m.acts x s.store)
  stepped false x s = gave (m.reads x s.store) s

  -- "An import's step, marked or not, is compared as a marked one but only queues a load that no read sees." (ECMA-262
  -- 13.3.10.1 also converts what is imported to a string, which this leaves out.)
  unfoldable pub queued : Step Value → Part Value Rest Value
  queued x s = gave (m.reads x s.store) (record { store = s.store; log = listed x s.log })

  -- what the store holds for a name (ECMA-262 13.1.3, 9.4.2); else the node's step
  unfoldable pub held : Bool → Node → Step Value → Part Value Rest Value
  held true n x s = gave (s.store.names n.label) s
  held false n x s = stepped (is_marked n) x s

  -- when the first child has run: the choice, then the other children
  unfoldable pub after_first : Form → Node → Role → (Turn → Part Value Rest (Hand Value)) → Given Value → Part Value Rest (Hand Value)
  after_first f n role others x s =
      let h : Given Value = record { value = x.value; beside = kept f n x.beside } in
      bind (chosen (choice_of f) (m.chooses (record { origin = origin_of n role; hand = h ∷ [] }) s.store) others s)
      (λ hs s'. gave (h ∷ hs) s')

module _ {Value Rest : Type 0} (names : List NameFacts) (m : Meaning Value Rest) where
  -- A node's own step, when its children have run. "A resolved name gives what the store holds for it, a sequence its last
  -- child's value, a chain its child's", or `undefined` if it was cut short (ECMA-262 13.3.9.1). A compound assignment
  -- "reads its target first", so that a resolved target name gives what the store holds too.
  unfoldable pub own : Form → Node → Role → Step Value → Part Value Rest Value
  own constant n role x s = gave (m.constant x) s
  own name n role x s = held m (resolved names n.label) n x s
  own target_name n role x s = held m (resolved names n.label && is_read role) n x s
  own leaf n role x s = stepped m (is_marked n) x s
  own chain n role x s = gave (first_or m.undefined x.hand).value s
  own property n role x s = gave (m.constant x) s
  own importing n role x s = queued m x s
  own sequence n role x s = gave (last_or m.undefined x.hand) s
  own (assignment c) n role x s = stepped m true x s
  own (stepping c) n role x s = stepped m (is_marked n) x s

  -- a node's step, and what the node gives
  unfoldable pub finished : Form → Node → Role → Hand Value → Part Value Rest (Given Value)
  finished f n role hs s =
      bind (own f n role (record { origin = origin_of n role; hand = hs }) s)
      (λ w s'. gave (record { value = w; beside = beside names m.undefined f n hs }) s')

  -- "Children run left to right, then the node's own step" (ECMA-262: arrays 13.2.4.2, objects 13.2.5.4, templates 13.2.8.6,
  -- members 13.3.2.1, new 13.3.5.1, calls 13.3.6.1, their arguments and spreads 13.3.8.1, import calls 13.3.10.1, tagged
  -- templates 13.3.11.1, unary operators 13.5, binary ones 13.15.4, private-in 13.10.1, await 15.8.5, yield 15.5.5, sequences
  -- 13.16.1; "a plain member assignment evaluates object and key, then the value": 13.15.2). A property's computed key is
  -- converted by the property's step, behind the value; 13.2.5.5 converts it before.
  unfoldable pub run_node : Form → Node → Role → Part Value Rest (Hand Value) → Part Value Rest (Given Value)
  run_node f n role children s = bind (gathered f (children s) s) (finished f n role)

  -- The run of a tree; of a node's children; of those behind the first.
  unfoldable mutual
    pub run : Tree → Role → Part Value Rest (Given Value)
    run (node n ts) role s =
        run_node (form (cleared n)) (cleared n) role (λ s'. run_children ts (form (cleared n)) (cleared n) role s') s

    pub run_children : Trees → Form → Node → Role → Part Value Rest (Hand Value)
    run_children none f n role s = gave [] s
    run_children (more t ts) f n role s = bind (run t (first_role f n role) s) (after_first m f n role (λ w s'. run_others ts w s'))

    pub run_others : Trees → Turn → Part Value Rest (Hand Value)
    run_others none w s = gave [] s
    run_others (more t ts) w s =
        cond (takes w) (in_turn (λ s'. run t value s') (λ s'. run_others ts (then w) s') s) (run_others ts (then w) s)
