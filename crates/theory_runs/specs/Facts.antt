-- The facts that are true of a meaning: document 01's "Facts are true of a meaning when ..", and what it says of settled
-- names and of `this`.
use Rattle.std.specs.Prelude.{ℕ, Bool, true, false, ◌&&◌, ◌||◌, not, List, [], ◌∷◌, ◌≡◌, eqb, leb}
use Rattle.records.specs.Flags.{recorded, marked}
use Rattle.records.specs.Tree.{Tree, Trees, node, none, more}
use Rattle.records.specs.Place.{root}
use Rattle.records.specs.Count.{reads_of, targets_of}
use Rattle.records.specs.File.{File, all_trees}
use Rattle.records.specs.declared.layout.NameFacts.{NameFacts}
use Rattle.theory_runs.specs.Store.{Store}
use Rattle.theory_runs.specs.Hand.{Beside, nothing, bare_eval, target_name, opaque_target, member, Given, Hand}
use Rattle.theory_runs.specs.Step.{value, target, Origin, of_node, of_declarator, of_other, Step}
use Rattle.theory_runs.specs.Meaning.{Act, done, stops, Meaning}
use Rattle.theory_runs.specs.Form.{Form, form, cleared, is_plain}
use Rattle.theory_runs.specs.State.{State, gave}
use Rattle.theory_runs.specs.Run.{run}
use Rattle.theory_runs.specs.Script.{run_statements, begin}
use Rattle.theory_runs.specs.Settled.{facts_of, settled, this_blocks}
use Rattle.theory_runs.specs.Shapes.{declared, some_node}
use Rattle.theory_runs.specs.Makes.{makes_read, makes_choice, makes_act}
use Rattle.statements_rules.specs.Trace.{Fold}

-- "a recorded name whose stated reads all stand in the file"
unfoldable pub reads_stand : File → ℕ → Bool
reads_stand f a = recorded (facts_of f a).flags && eqb (reads_of a (all_trees f.statements)) (facts_of f a).reads

-- "a declared one whose stated writes all do"
unfoldable pub writes_stand : File → ℕ → Bool
writes_stand f a =
    declared f a && recorded (facts_of f a).flags && eqb (targets_of a (all_trees f.statements)) (facts_of f a).writes

-- "the position of any node in the file leaves it unblocked"
unfoldable pub this_unblocked : File → Bool
this_unblocked f = some_node f (λ n kids. not (this_blocks f n.position))

-- an assignment has this name for its target in hand
unfoldable pub is_target_of : {Value : Type 0} → ℕ → Beside Value → Bool
is_target_of a nothing = false
is_target_of a bare_eval = false
is_target_of a (target_name b) = eqb b a
is_target_of a (opaque_target l) = false
is_target_of a (member o k) = false

unfoldable pub aims : {Value : Type 0} → ℕ → Hand Value → Bool
aims a [] = false
aims a (h ∷ hs) = is_target_of a h.beside

-- A step or choice is made through a "name node, target name or declarator" of a name: by such a node or declarator, or by
-- an assignment to that target.
unfoldable pub through_by : {Value : Type 0} → ℕ → Origin → Hand Value → Bool
through_by a (of_node kind label flags role) hs = (eqb kind 4 || eqb kind 29) && eqb label a || eqb kind 20 && aims a hs
through_by a (of_declarator k name) hs = eqb name a
through_by a of_other hs = false

abbrev pub through : {Value : Type 0} → ℕ → Step Value → Bool
through a x = through_by a x.origin x.hand

-- A node's step. Those of declarators and of kind 6 statements "may also bind names"; no fact limits what they write.
unfoldable pub is_of_node : Origin → Bool
is_of_node (of_node kind label flags role) = true
is_of_node (of_declarator k name) = false
is_of_node of_other = false

-- stores that differ at most at one name
pub record AgreeBut {Value Rest : Type 0} (a : ℕ) (s s' : Store Value Rest) : Type 0 where
  pub names : (n : ℕ) → eqb n a ≡ false → s.names n ≡ s'.names n
  pub rest : s.rest ≡ s'.rest

-- marked steps that do the same, where stores may differ at that name
pub data ActsAlike {Value Rest : Type 0} (a : ℕ) : Act Value Rest → Act Value Rest → Type 0 where
  both-done : {w : Value} {s s' : Store Value Rest} → AgreeBut a s s' → ActsAlike a (done w s) (done w s')
  both-stop : ActsAlike a stops stops

-- true of each
abbrev pub Each : {A : Type 0} → (A → Type 0) → List A → Type 0
Each P [] = Unit {0}
Each P (x ∷ xs) = P x × Each P xs

module _ {Value Rest : Type 0} (names : List NameFacts) (m : Meaning Value Rest) where
  -- a target gives the same value in two states (the facts on settled names and on `this` keep its object and key)
  abbrev pub GivesSame : Tree → State Value Rest → State Value Rest → Type 0
  GivesSame t s s' =
      (x x' : Given Value) (u u' : State Value Rest)
      → run names m t target s ≡ gave x u
      → run names m t target s' ≡ gave x' u'
      → x.value ≡ x'.value

  -- so does the unmarked target of a plain assignment whose value reads this name
  abbrev pub TargetSame : Form → Trees → ℕ → State Value Rest → State Value Rest → Type 0
  TargetSame f none a s s' = Unit {0}
  TargetSame f (more t ts) a s s' =
      is_plain f ≡ true → marked (root t).flags ≡ false → leb 1 (reads_of a ts) ≡ true → GivesSame t s s'

  -- and each such target in a tree
  abbrev mutual
    pub TargetsSame : Tree → ℕ → State Value Rest → State Value Rest → Type 0
    TargetsSame (node n ts) a s s' = TargetSame (form (cleared n)) ts a s s' × AllTargetsSame ts a s s'

    pub AllTargetsSame : Trees → ℕ → State Value Rest → State Value Rest → Type 0
    AllTargetsSame none a s s' = Unit {0}
    AllTargetsSame (more t ts) a s s' = TargetsSame t a s s' × AllTargetsSame ts a s s'

  -- "no marked step that folding brings into a plain assignment's value changes what that assignment's unmarked target
  -- gave": where the run comes to the folded initializer in one state and out of it in another, the target gives the same
  -- in both
  abbrev pub FoldKeeps : Store Value Rest → Fold → Type 0
  FoldKeeps start φ =
      (s s' : State Value Rest) (x : Given Value)
      → run_statements names m φ.before (begin start) ≡ gave tt s
      → run names m φ.initializer value s ≡ gave x s'
      → TargetsSame φ.into φ.name s s'

-- the step of `this`, of a node with this label and these flags
abbrev pub this_step : {Value : Type 0} → ℕ → ℕ → Step Value
this_step label flags = record { origin = of_node 5 label flags value; hand = [] }

-- The facts of a file are true of a meaning. They are asked of the steps and choices that the file can make, and of no others;
-- the last one of the folds made in it, or in what earlier folds left of it, on the run from a starting store.
pub record Facts {Value Rest : Type 0} (f : File) (trace : List Fold) (m : Meaning Value Rest) (start : Store Value Rest) : Type 0 where
  -- "no hidden part reads a recorded name whose stated reads all stand in the file": on stores that differ at this name
  -- alone, every step and choice of the file does the same, but those through it
  pub reads_hidden : (a : ℕ) → reads_stand f a ≡ true → (x : Step Value) → makes_read f x ≡ true → through a x ≡ false
      → (s s' : Store Value Rest) → AgreeBut a s s' → m.reads x s ≡ m.reads x s'
  pub chooses_hidden : (a : ℕ) → reads_stand f a ≡ true → (x : Step Value) → makes_choice f x ≡ true → through a x ≡ false
      → (s s' : Store Value Rest) → AgreeBut a s s' → m.chooses x s ≡ m.chooses x s'
  pub acts_hidden : (a : ℕ) → reads_stand f a ≡ true → (x : Step Value) → makes_act f x ≡ true → through a x ≡ false
      → (s s' : Store Value Rest) → AgreeBut a s s' → ActsAlike a (m.acts x s) (m.acts x s')
  -- "or writes a declared one whose stated writes all do"
  pub writes_hidden : (a : ℕ) → writes_stand f a ≡ true → (x : Step Value) → makes_act f x ≡ true → is_of_node x.origin ≡ true
      → through a x ≡ false → (s s' : Store Value Rest) (w : Value) → m.acts x s ≡ done w s' → s'.names a ≡ s.names a
  -- "settled names keep their value"
  pub settled-kept : (a : ℕ) → settled f a ≡ true → (x : Step Value) → makes_act f x ≡ true → is_of_node x.origin ≡ true
      → through a x ≡ false → (s s' : Store Value Rest) (w : Value) → m.acts x s ≡ done w s' → s'.names a ≡ s.names a
  -- "and so does `this` if the position of any node in the file leaves it unblocked"
  pub this-kept : this_unblocked f ≡ true → (x : Step Value) → makes_act f x ≡ true → is_of_node x.origin ≡ true
      → (s s' : Store Value Rest) (w : Value) → m.acts x s ≡ done w s' → (label flags : ℕ)
      → makes_read f (this_step {Value = Value} label flags) ≡ true → m.reads (this_step label flags) s' ≡ m.reads (this_step label flags) s
  -- "and no marked step that folding brings into a plain assignment's value changes what that assignment's unmarked target
  -- gave"
  pub targets-kept : Each (FoldKeeps f.names m start) trace
