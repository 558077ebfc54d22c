-- Whatever the search goes past has a reason.
use mathlib.Core.Bool.{true, false, ◌&&◌, ◌||◌, not}
use mathlib.Core.List.{List, []}
use mathlib.Core.Path.{◌≡◌, refl, ap, ◌∙◌}
use lib.ListN.{length}
use lib.Dec.{eqb, ltb}
use borrow.Author.Tests.{eqb-true, not-true}
use Rattle.records.specs.Flags.{computed}
use Rattle.records.specs.Tree.{Node, Tree, Trees, node}
use Rattle.records.specs.File.{first_tree}
use Rattle.records.specs.declared.layout.NameFacts.{NameFacts}
use Rattle.records.proofs.Tests.{clash, both}
use Rattle.walk_rules.specs.Context.{context_of}
use Rattle.walk_rules.specs.Unsettled.{unsettled}
use Rattle.walk_rules.specs.Effect.{may_have_side_effects, any_has_side_effects, is_literal_value}
use Rattle.walk_rules.specs.Shape.{Shape, constant as literal, identifier, target_name as aim, leaf as lone, chain as links, import, delete, sequence as row, property as pair, stopping, assignment as assigning, steps}
use Rattle.walk_rules.specs.Substitute.{can_reorder, stops_at_target, may_pass}
use Rattle.theory_runs.specs.Store.{set}
use Rattle.theory_runs.specs.Hand.{Given, first_or}
use Rattle.theory_runs.specs.Step.{Role, value}
use Rattle.theory_runs.specs.Form.{is, cleared, Form, constant, name, chain, property, importing, form, order, childless, is_chain}
use Rattle.theory_runs.specs.State.{State, Out, gave, bind}
use Rattle.theory_runs.specs.Run.{resolved, gathered, queued, held, own, beside, finished, run_node, run, run_children}
use Rattle.theory_runs.specs.Settled.{settled}
use Rattle.theory_preservation.proofs.Tests.{by_or}
use Rattle.theory_preservation.proofs.Tables.{form_of}
use Rattle.theory_preservation.proofs.Ends.{gives, ends-bind, ends-any, ends-map, step_of}
use Rattle.theory_preservation.proofs.Uses.{reads, targets}
use Rattle.theory_preservation.proofs.Kept.{still-children, kept_by}
use Rattle.theory_preservation.proofs.Setting.{Setting, settled-resolved}
use Rattle.theory_preservation.proofs.Waiting.{free-frame, unchanging, by-unchanging}
use Rattle.theory_preservation.proofs.Passing.{Framed, worth, Reason, reading, steady, constant-unchanging, one_reason, caught_reason}

module _ {Value Rest : Type 0} (σ : Setting Value Rest) where
  open σ use {file, m, v, r, settled-kept, apart}

  abbrev S : Type 0
  S = State Value Rest

  abbrev O : Type 0 → Type 0
  O A = Out Value Rest A

  abbrev Why : {A : Type 0} → S → (S → O A) → Type 0
  Why s c = Reason σ s c

  abbrev names : List NameFacts
  names = file.names

  -- r is literal
  constant-run : (n : Node) (role : Role) (cs : S → O (List (Given Value))) (s : S) → run_node names m constant n role cs s ≡ gave (record { value = m.constant (step_of n role []); beside = beside names m.undefined constant n [] }) s
  unfolding run_node gathered childless order finished own bind
  constant-run n role cs s = refl

  constant-form : (n : Node) → (is 1 n || (true && is 2 n)) ≡ true → form (cleared n) ≡ constant
  unfolding form cleared
  constant-form n = by_or (is 1 n) (true && is 2 n) (λ e. rw (eqb-true n.kind 1 e)) (λ e. rw (eqb-true n.kind 2 e))

  constant-at : (f : Form) (n : Node) (role : Role) (cs : S → O (List (Given Value))) → f ≡ constant → (x : Given Value) × ((s : S) → run_node names m f n role cs s ≡ gave x s)
  constant-at f n role cs e = (record { value = m.constant (step_of n role []); beside = beside names m.undefined constant n [] }, λ s. rw e (constant-run n role cs s))

  literal-is : (t : Tree) → is_literal_value true t ≡ true → (x : Given Value) × ((s : S) → run names m t value s ≡ gave x s)
  unfolding is_literal_value run
  literal-is (node n ts) e = constant-at (form (cleared n)) (cleared n) value _ (constant-form n e)

  pub by-literal : {A : Type 0} {s : S} (c : S → O A) → Framed σ c → is_literal_value true r ≡ true → Why s c
  by-literal c h e = let (x, g) = literal-is r e in let (q, k) = constant-unchanging σ x g in reading q h (λ u. ends-any (c u) (λ x s'. k _ _) (λ s'. k _ _))

  pub by-still : {s : S} (t : Tree) (role : Role) → reads v t ≡ 0 → targets v t ≡ 0 → may_have_side_effects r ≡ false → may_have_side_effects t ≡ false → Why s (run names m t role)
  by-still t role h g e e' = by-unchanging σ t role h g (unchanging σ e) e'

  -- what the Rust's last rule lets pass
  pub by_reorder : {s : S} (t : Tree) (role : Role) → reads v t ≡ 0 → targets v t ≡ 0 → can_reorder r t ≡ true → Why s (run names m t role)
  unfolding can_reorder
  by_reorder t role h g =
      by_or _ (is_literal_value true r)
      (λ e. let (p, q) = both (not (may_have_side_effects r)) (not (may_have_side_effects t)) e in by-still t role h g (not-true _ p) (not-true _ q))
      (λ e. by-literal (run names m t role) (free-frame σ t h g role) e)

  -- A node, by its form.
  pub by-constant : {s : S} (n : Node) (role : Role) (cs : S → O (List (Given Value))) → Why s (run_node names m constant n role cs)
  by-constant n role cs = steady (λ s. record { value = m.constant (step_of n role []); beside = beside names m.undefined constant n [] }) (λ s. constant-run n role cs s) (λ a s. refl) (ends-any _ (λ x s'. refl) (λ s'. tt))

  name-run : (n : Node) (role : Role) (cs : S → O (List (Given Value))) (s : S) → resolved names n.label ≡ true → run_node names m name n role cs s ≡ gave (record { value = s.store.names n.label; beside = beside names m.undefined name n [] }) s
  unfolding run_node gathered childless order finished own bind held
  name-run n role cs s e = rw e

  pub by-settled : {s : S} (n : Node) (role : Role) (cs : S → O (List (Given Value))) → eqb n.label v ≡ false → settled file n.label ≡ true → Why s (run_node names m name n role cs)
  unfolding set
  by-settled {s = s} n role cs h e =
      steady (λ s. record { value = s.names n.label; beside = beside names m.undefined name n [] }) (λ s. name-run n role cs s (settled-resolved file n.label e)) (λ a s. rw h)
      (ends-map (kept_by names m n.label (settled-resolved file n.label e) (λ u. u.names n.label ≡ s.store.names n.label) (λ x i q u u' w g p. settled-kept n.label e x i q u u' w g ∙ p) r (apart _ e) value s refl)
      (λ x s' p. ap (λ w. record { value = w; beside = beside names m.undefined name n [] }) p) (λ s' p. tt) (λ p. p))

  by_chain : {s : S} (n : Node) (role : Role) (cs : S → O (List (Given Value))) → Why s cs → Why s (run_node names m chain n role cs)
  unfolding run_node gathered childless is_chain order finished own bind
  by_chain n role cs y = one_reason σ (λ hs. record { value = (first_or m.undefined hs).value; beside = beside names m.undefined chain n hs }) (caught_reason σ y)

  by-property : {s : S} (n : Node) (role : Role) (cs : S → O (List (Given Value))) → Why s cs → Why s (run_node names m property n role cs)
  unfolding run_node gathered childless is_chain order finished own bind
  by-property n role cs y = one_reason σ (λ hs. record { value = m.constant (step_of n role hs); beside = beside names m.undefined property n hs }) y

  by-import : {s : S} (n : Node) (role : Role) (ts : Trees) → Framed σ (run_node names m importing n role (run_children names m ts importing n role)) → may_have_side_effects r ≡ false → any_has_side_effects ts ≡ false → Why s (run_node names m importing n role (run_children names m ts importing n role))
  unfolding run_node gathered childless is_chain order finished own queued bind
  by-import n role ts h e e' =
      reading (unchanging σ e) h (λ u. ends-bind (ends-map (still-children names m u ts importing n role e') (λ x s' p. p) (λ s' p. ap (λ (s : S). worth σ s.store) p) absurd) (λ hs s' p. gives (ap (λ (s : S). worth σ s.store) p)))

  -- the run of a node of this shape, and what is passed of it: the children of a chain or a property are passed
  abbrev pub node_run : Shape → Node → Trees → S → O (Given Value)
  node_run sh n ts s = run_node names m (form_of sh) n value (run_children names m ts (form_of sh) n value) s

  settled_in : (n : Node) → not (unsettled (context_of file) n.label) ≡ true → ltb n.label (length names) ≡ true → settled file n.label ≡ true
  unfolding settled
  settled_in n e g = rw (e, g)

  -- what the search passes by the table of shapes
  pub by_shape : {s : S} (sh : Shape) (n₀ n : Node) (ts : Trees) → may_pass (context_of file) v r sh n₀ ts ≡ true → (can_reorder r (node n₀ ts) ≡ true → Why s (node_run sh n ts)) → Framed σ (node_run sh n ts)
      → n₀.label ≡ n.label → (sh ≡ identifier → (eqb n.label v ≡ false) × (ltb n.label (length names) ≡ true)) → (sh ≡ links → Why s (run_children names m ts (form_of sh) n value)) → (sh ≡ pair → computed n₀.flags ≡ false → Why s (run_children names m ts (form_of sh) n value)) → Why s (node_run sh n ts)
  unfolding may_pass form_of
  by_shape literal n₀ n ts e h g l o c p = by-constant n value _
  by_shape identifier n₀ n ts e h g l o c p = by_or (not (unsettled (context_of file) n₀.label)) _ (λ q. by-settled n value _ (o refl).0 (settled_in n (rw l at q) (o refl).1)) h e
  by_shape aim n₀ n ts e h g l o c p = h e
  by_shape lone n₀ n ts e h g l o c p = h e
  by_shape links n₀ n ts e h g l o c p = by_chain n value _ (c refl)
  by_shape import n₀ n ts e h g l o c p =
      by_or (not (may_have_side_effects r) && not (any_has_side_effects ts)) _
      (λ q. let (x, y) = both (not (may_have_side_effects r)) (not (any_has_side_effects ts)) q in by-import n value ts g (not-true _ x) (not-true _ y)) h e
  by_shape delete n₀ n ts e h g l o c p = h e
  by_shape row n₀ n ts e h g l o c p = h e
  by_shape pair n₀ n ts e h g l o c p = by-property n value _ (p refl (not-true _ e))
  by_shape stopping n₀ n ts e h g l o c p = clash false refl e
  by_shape (assigning x) n₀ n ts e h g l o c p = h (both (not (stops_at_target (context_of file) r x (first_tree ts))) _ e).1
  by_shape (steps x) n₀ n ts e h g l o c p = h e
