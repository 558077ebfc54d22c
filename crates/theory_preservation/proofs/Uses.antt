-- Trees that don't use a name: no step of theirs is made through it, and what they give names it as no target.
use Prim.Native.Nat.{ℕ, ◌+◌, ◌≤◌}
use native.Mathlib.Omega.{arith}
use mathlib.Core.Bool.{Bool, true, false, cond, ◌&&◌, ◌||◌}
use mathlib.Core.List.{List, [], ◌∷◌}
use mathlib.Core.Path.{◌≡◌, refl}
use lib.Dec.{eqb}
use borrow.Author.Tests.{eqb-true, eq-eqb}
use Rattle.walk_rules.specs.Substitute.{is_specific_id}
use Rattle.records.specs.Flags.{is_eval}
use Rattle.records.specs.Script.{flags_of}
use Rattle.records.specs.Tree.{Node, Tree, Trees, node, more}
use Rattle.records.specs.Count.{target_name as aim_of, name_read, uses_in, uses_of}
use Rattle.records.specs.declared.layout.NameFacts.{NameFacts}
use Rattle.records.proofs.Tests.{both}
use Rattle.theory_runs.specs.Hand.{Key, Beside, nothing, bare_eval, target_name, opaque_target, member, Given, first_or}
use Rattle.theory_runs.specs.Step.{Role}
use Rattle.theory_runs.specs.Meaning.{Meaning}
use Rattle.theory_runs.specs.Form.{is, cleared, is_delete, Form, form, is_name, is_chain, is_assignment, origin_of}
use Rattle.theory_runs.specs.State.{State, Out}
use Rattle.theory_runs.specs.Run.{kept, own, beside, run, run_children}
use Rattle.theory_runs.specs.Facts.{is_target_of, aims, through_by, through, is_of_node}
use Rattle.theory_preservation.proofs.Tests.{and_off}
use Rattle.theory_preservation.proofs.Ends.{Ends, ends-any, First, step_of, Given-ends, Hand-ends, ends, ends-children}

-- the step of a node is one
pub of_node_lem : (n : Node) (role : Role) → is_of_node (origin_of n role) ≡ true
unfolding is_of_node origin_of
of_node_lem n role = refl

-- how often a tree reads a name, and how often the name is a target in it
abbrev pub reads : ℕ → Tree → ℕ
reads v t = uses_in name_read v t

abbrev pub all_reads : ℕ → Trees → ℕ
all_reads v ts = uses_of name_read v ts

abbrev pub targets : ℕ → Tree → ℕ
targets v t = uses_in (λ n kids. aim_of n) v t

abbrev pub all_targets : ℕ → Trees → ℕ
all_targets v ts = uses_of (λ n kids. aim_of n) v ts

-- what a count of none says of a node
unused : (a b : ℕ) (k : ℕ) → cond (eqb a b) 1 0 + k ≡ 0 → eqb a b ≡ false
unused a b k e = by (eqb a b) refl
  where
    by : (x : Bool) → eqb a b ≡ x → eqb a b ≡ false
    by true g = let z : ◌≡◌ {A = ℕ} (cond (eqb a b) 1 0) 1 = rw g in absurd (omega arith)
    by false g = g

pub off-read : (v : ℕ) (n : Node) (ts : Trees) → reads v (node n ts) ≡ 0 → is 4 (cleared n) ≡ true → eqb (cleared n).label v ≡ false
unfolding uses_in name_read cleared
off-read v n ts h e = unused n.label v (all_reads v ts) (rw e at h)

pub off-target : (v : ℕ) (n : Node) (ts : Trees) → targets v (node n ts) ≡ 0 → is 29 (cleared n) ≡ true → eqb (cleared n).label v ≡ false
unfolding uses_in aim_of cleared
off-target v n ts h e = unused n.label v (all_targets v ts) (rw e at h)

and_by : (x y : Bool) → (x ≡ true → y ≡ false) → (x && y) ≡ false
and_by true y h = h refl
and_by false y h = refl

or_and_by : (x y z : Bool) → (x ≡ true → z ≡ false) → (y ≡ true → z ≡ false) → ((x || y) && z) ≡ false
or_and_by true y z h g = h refl
or_and_by false y z h g = and_by y z g

-- the name that is searched for, and that it is read there
pub specific : (v : ℕ) (n : Node) → is_specific_id v n ≡ true → (n.kind ≡ 4) × (n.label ≡ v)
unfolding is_specific_id
specific v n e = let (p, q) = both (is 4 n) (eqb n.label v) e in (eqb-true n.kind 4 p, eqb-true n.label v q)

pub specific-read : (v : ℕ) (n : Node) (ts : Trees) → is_specific_id v n ≡ true → 1 ≤ reads v (node n ts)
unfolding uses_in name_read
specific-read v n ts e = let (p, q) = specific v n e in let z : ◌≡◌ {A = ℕ} (cond (eqb (name_read n ts) v) 1 0) 1 = rw (p, q, eq-eqb v v refl) in omega arith

or_off : (x y : Bool) → x ≡ false → y ≡ false → (x || y) ≡ false
or_off x y e g = rw (e, g)

-- a node's step is made through no name that the node doesn't name and doesn't have in hand
pub off-through : {Value : Type 0} (v : ℕ) (n : Node) (role : Role) (hs : List (Given Value)) → (is 4 n ≡ true → eqb n.label v ≡ false) → (is 29 n ≡ true → eqb n.label v ≡ false) → aims v hs ≡ false → through v (step_of n role hs) ≡ false
unfolding through_by origin_of
off-through v n role hs h g a = or_off _ _ (or_and_by (is 4 n) (is 29 n) (eqb n.label v) h g) (and_off (is 20 n) (aims v hs) a)

-- What is given beside a value.
pub data Off {Value : Type 0} (v : ℕ) (b : Beside Value) : Type 0 where
  off : is_target_of v b ≡ false → Off v b

module _ {Value : Type 0} (v : ℕ) where
  cond_off : (b : Bool) {x y : Beside Value} → (b ≡ true → Off v x) → Off v y → Off v (cond b x y)
  cond_off true h g = h refl
  cond_off false h g = g

  pub nothing-off : Off {Value = Value} v nothing
  unfolding is_target_of
  nothing-off = off refl

  eval_off : Off {Value = Value} v bare_eval
  unfolding is_target_of
  eval_off = off refl

  opaque_off : (l : ℕ) → Off {Value = Value} v (opaque_target l)
  unfolding is_target_of
  opaque_off l = off refl

  member-off : (o : Value) (k : Key Value) → Off v (member o k)
  unfolding is_target_of
  member-off o k = off refl

  target-off : (a : ℕ) → eqb a v ≡ false → Off {Value = Value} v (target_name a)
  unfolding is_target_of
  target-off a e = off e

  pub kept_off : (f : Form) (n : Node) (b : Beside Value) → Off v b → Off v (kept f n b)
  unfolding kept
  kept_off f n nothing e = nothing-off
  kept_off f n bare_eval e = cond_off (is 14 n) (λ g. e) nothing-off
  kept_off f n (target_name a) e = cond_off (is_assignment f) (λ g. e) nothing-off
  kept_off f n (opaque_target l) e = cond_off (is_assignment f) (λ g. e) nothing-off
  kept_off f n (member o k) e = cond_off (is 14 n || is 24 n || is_delete n || is_assignment f || is_chain f) (λ g. e) nothing-off

  off-is : {b : Beside Value} → Off v b → is_target_of v b ≡ false
  off-is (off e) = e

  pub first_off : (hs : List (Given Value)) → First (Off v) hs → aims v hs ≡ false
  unfolding aims
  first_off [] h = refl
  first_off (x ∷ hs) h = off-is h

  first_or_off : (w : Value) (hs : List (Given Value)) → First (Off v) hs → Off v (first_or w hs).beside
  unfolding first_or
  first_or_off w [] h = nothing-off
  first_or_off w (x ∷ hs) h = h

  pub beside-off : {Rest : Type 0} (names : List NameFacts) (m : Meaning Value Rest) (f : Form) (n : Node) (hs : List (Given Value)) → (is 29 n ≡ true → eqb n.label v ≡ false) → First (Off v) hs → Off v (beside names m.undefined f n hs)
  unfolding beside
  beside-off names m f n hs h g =
      cond_off (is_name f) (λ e. cond_off (is_eval (flags_of names n.label)) (λ e. eval_off) nothing-off)
      (cond_off (is 29 n) (λ e. target-off n.label (h e)) (cond_off (is 30 n) (λ e. opaque_off _) (cond_off (is 10 n) (λ e. member-off _ _) (cond_off (is 11 n) (λ e. member-off _ _)
      (cond_off (is 12 n) (λ e. member-off _ _) (cond_off (is_chain f) (λ e. first_or_off m.undefined hs g) nothing-off))))))

pub kids-targets : (v : ℕ) (n : Node) (ts : Trees) → targets v (node n ts) ≡ 0 → all_targets v ts ≡ 0
unfolding uses_in
kids-targets v n ts e = omega arith

pub head_targets : (v : ℕ) (t : Tree) (ts : Trees) → all_targets v (more t ts) ≡ 0 → targets v t ≡ 0
unfolding uses_in
head_targets v t ts e = omega arith

pub tail-targets : (v : ℕ) (t : Tree) (ts : Trees) → all_targets v (more t ts) ≡ 0 → all_targets v ts ≡ 0
unfolding uses_in
tail-targets v t ts e = omega arith

module _ {Value Rest : Type 0} (names : List NameFacts) (m : Meaning Value Rest) (v : ℕ) where
  pub aside-off : (n : Node) (ts : Trees) (hs : List (Given Value)) → targets v (node n ts) ≡ 0 → First (Off v) hs → Off v (beside names m.undefined (form (cleared n)) (cleared n) hs)
  unfolding cleared
  aside-off n ts hs h g = beside-off v names m (form (cleared n)) (cleared n) hs (λ e. off-target v n ts h e) g

  abbrev pub Gives-off : Out Value Rest (Given Value) → Type 0
  Gives-off o = Given-ends names m (Off v) (λ s. Unit {0}) (Unit {0}) o

  abbrev pub Hand-off : Out Value Rest (List (Given Value)) → Type 0
  Hand-off o = Hand-ends names m (Off v) (λ s. Unit {0}) (Unit {0}) o

  any_step : (n : Node) (ts : Trees) (role : Role) (hs : List (Given Value)) (s : State Value Rest) → targets v (node n ts) ≡ 0 → First (Off v) hs → Unit {0} → Ends (λ w s'. Unit {0}) (λ s'. Unit {0}) (Unit {0}) (own names m (form (cleared n)) (cleared n) role (step_of (cleared n) role hs) s)
  any_step n ts role hs s h g p = ends-any _ (λ w s'. tt) (λ s'. tt)

  -- a tree in which v is no target gives no such target
  pub gives-off : (t : Tree) → targets v t ≡ 0 → (role : Role) (s : State Value Rest) → Gives-off (run names m t role s)
  gives-off t h role s = ends names m (Off v) (λ s. Unit {0}) (Unit {0}) (λ t. targets v t ≡ 0) (λ ts. all_targets v ts ≡ 0) (kids-targets v) (head_targets v) (tail-targets v) (nothing-off v) (kept_off v) aside-off any_step t h role s tt

  pub hand-off : (ts : Trees) (f : Form) (n : Node) (role : Role) → all_targets v ts ≡ 0 → (s : State Value Rest) → Hand-off (run_children names m ts f n role s)
  hand-off ts f n role h s = ends-children names m (Off v) (λ s. Unit {0}) (Unit {0}) (λ t. targets v t ≡ 0) (λ ts. all_targets v ts ≡ 0) (kids-targets v) (head_targets v) (tail-targets v) (nothing-off v) (kept_off v) aside-off any_step ts f n role h s tt
