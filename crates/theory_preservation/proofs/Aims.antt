-- The target of an assignment into whose value the initializer goes: it gives the same before and after the initializer.
use Prim.Native.Nat.{ℕ}
use native.Mathlib.Omega.{arith}
use mathlib.Core.Bool.{Bool, true, false, cond, ◌&&◌, ◌||◌, not}
use mathlib.Core.List.{List, [], ◌∷◌}
use mathlib.Core.Path.{◌≡◌, refl, sym, ap, ◌∙◌, subst}
use lib.ListN.{length}
use lib.Dec.{eqb, ltb}
use borrow.Author.Tests.{eqb-true}
use Rattle.records.specs.Flags.{marked, optional}
use Rattle.records.specs.Node.{is_chain_element}
use Rattle.records.specs.Tree.{Node, Tree, Trees, node, none, more, count, others}
use Rattle.records.specs.File.{first_tree}
use Rattle.records.specs.Place.{unchained, unchained_first}
use Rattle.records.specs.Count.{uses_in}
use Rattle.records.specs.declared.layout.NameFacts.{NameFacts}
use Rattle.records.proofs.Tests.{clash, neither}
use Rattle.walk_rules.specs.Context.{context_of}
use Rattle.walk_rules.specs.Unsettled.{unsettled}
use Rattle.walk_rules.specs.This.{this_blocks as thisBlocksAt}
use Rattle.walk_rules.specs.Effect.{has_effect, may_have_side_effects, any_has_side_effects, is_literal_value}
use Rattle.walk_rules.specs.Target.{member_part_blocks_reorder, computed_key_blocks_reorder, may_depend_on_side_effect}
use Rattle.theory_runs.specs.Hand.{Given, only}
use Rattle.theory_runs.specs.Step.{Role, value, target, Step}
use Rattle.theory_runs.specs.Form.{is, cleared, is_marked, is_member, is_delete, Form, constant, name, target_name, leaf, stepping, never, form, order, childless, is_chain, is_plain, choice_of, first_role, origin_of}
use Rattle.theory_runs.specs.State.{State, Out, gave, cut, stop, bind}
use Rattle.theory_runs.specs.Run.{all, takes, then, resolved, is_read, gathered, in_turn, stepped, held, own, beside, finished, run_node, run, run_children, run_others}
use Rattle.theory_runs.specs.Settled.{settled, this_blocks}
use Rattle.theory_runs.specs.Shapes.{some_in, some_of}
use Rattle.theory_runs.specs.Facts.{aims, through_by, through, this_unblocked, this_step}
use Rattle.theory_preservation.proofs.Tests.{by_or, and_off, or_left, or_right}
use Rattle.theory_preservation.proofs.Tables.{marked-cleared, name-form}
use Rattle.theory_preservation.proofs.Ends.{Ends, gives, cuts, halts, ends-any, ends-map, ends_and, step_of}
use Rattle.theory_preservation.proofs.Uses.{reads, all_reads, targets, all_targets, off-read, off-target, off-through}
use Rattle.theory_preservation.proofs.Kept.{kept_by}
use Rattle.theory_preservation.proofs.Setting.{Setting}
use Rattle.theory_preservation.proofs.Passing.{Unchanging, Reason, reading, steady, two-reasons}
use Rattle.theory_preservation.proofs.WellMade.{well_made, all_well_made, well-node, well-more, named_in, one_child, two-children}
use Rattle.theory_preservation.proofs.Open.{by-constant, by-settled}
use Rattle.theory_preservation.proofs.Waiting.{by-unchanging}
use Rattle.theory_preservation.proofs.BeforeAndAfter as B
use Rattle.theory_preservation.proofs.ByKind.{other-kind}
use Rattle.theory_preservation.proofs.Children.{Other, straight_why}

module _ {Value Rest : Type 0} (σ : Setting Value Rest) where
  open σ use {file, m, v, r, nothing_hidden, there, unaimed, this-kept}

  abbrev S : Type 0
  S = State Value Rest

  abbrev O : Type 0 → Type 0
  O A = Out Value Rest A

  abbrev names : List NameFacts
  names = file.names

  abbrev go : Tree → S → O (Given Value)
  go t s = run names m t value s

  abbrev Why : {A : Type 0} → S → (S → O A) → Type 0
  Why s c = Reason σ s c

  -- a node at which `this` doesn't block
  unfoldable pub unblocked : Node → Trees → Bool
  unblocked n kids = not (this_blocks file n.position)

  -- where it stands in a tree, it stands in the file
  abbrev pub ThisKnown : Tree → Type 0
  ThisKnown t = some_in unblocked t ≡ true → this_unblocked file ≡ true

  abbrev pub AllThisKnown : Trees → Type 0
  AllThisKnown ts = some_of unblocked ts ≡ true → this_unblocked file ≡ true

  pub known-here : (n : Node) (ts : Trees) → ThisKnown (node n ts) → unblocked n ts ≡ true → this_unblocked file ≡ true
  unfolding some_in
  known-here n ts h e = h (or_left _ (some_of unblocked ts) e)

  pub known-kids : (n : Node) (ts : Trees) → ThisKnown (node n ts) → AllThisKnown ts
  unfolding some_in
  known-kids n ts h = λ e. h (or_right (unblocked n ts) _ e)

  pub known_head : (t : Tree) (ts : Trees) → AllThisKnown (more t ts) → ThisKnown t
  unfolding some_in
  known_head t ts h = λ e. h (or_left _ (some_of unblocked ts) e)

  pub known-tail : (t : Tree) (ts : Trees) → AllThisKnown (more t ts) → AllThisKnown ts
  unfolding some_in
  known-tail t ts h = λ e. h (or_right (some_in unblocked t) _ e)

  -- What is asked of a target and its parts.
  abbrev pub Quiet : Tree → Type 0
  Quiet t = (well_made names t ≡ true) × (reads v t ≡ 0) × (targets v t ≡ 0) × (may_have_side_effects t ≡ false) × ThisKnown t

  abbrev AllQuiet : Trees → Type 0
  AllQuiet ts = (all_well_made names ts ≡ true) × (all_reads v ts ≡ 0) × (all_targets v ts ≡ 0) × (any_has_side_effects ts ≡ false) × AllThisKnown ts

  quiet-kids : (n : Node) (ts : Trees) → Quiet (node n ts) → AllQuiet ts
  unfolding uses_in may_have_side_effects
  quiet-kids n ts (a, b, c, d, e) = ((well-node names n ts a).1, omega arith, omega arith, (neither (has_effect n) (any_has_side_effects ts) d).1, known-kids n ts e)

  quiet_head : (t : Tree) (ts : Trees) → AllQuiet (more t ts) → Quiet t
  unfolding uses_in may_have_side_effects
  quiet_head t ts (a, b, c, d, e) = ((well-more names t ts a).0, omega arith, omega arith, (neither (may_have_side_effects t) (any_has_side_effects ts) d).0, known_head t ts e)

  quiet-tail : (t : Tree) (ts : Trees) → AllQuiet (more t ts) → AllQuiet ts
  unfolding uses_in may_have_side_effects
  quiet-tail t ts (a, b, c, d, e) = ((well-more names t ts a).1, omega arith, omega arith, (neither (may_have_side_effects t) (any_has_side_effects ts) d).1, known-tail t ts e)

  quiet-marked : (n : Node) (ts : Trees) → Quiet (node n ts) → is_marked (cleared n) ≡ false
  unfolding may_have_side_effects has_effect is_marked cleared
  quiet-marked n ts (a, b, c, d, e) =
      let h = (neither (has_effect n) (any_has_side_effects ts) d).0 in
      let i = (neither (marked n.flags || is 6 n || is 7 n || is 8 n) (is 20 n) h).0 in
      rw (marked-cleared n) (neither (marked n.flags || is 6 n || is 7 n) (is 8 n) i).0

  quiet-other : (n : Node) (ts : Trees) → Quiet (node n ts) → Other σ (cleared n)
  quiet-other n ts (a, b, c, d, e) = (off-read v n ts b, off-target v n ts c)

  -- `this`
  leaf-run : (n : Node) (cs : S → O (List (Given Value))) (u : S) → is_marked n ≡ false → run_node names m leaf n value cs u ≡ gave (record { value = m.reads (step_of n value []) u.store; beside = beside names m.undefined leaf n [] }) u
  unfolding run_node gathered childless order finished own bind
  leaf-run n cs u e = rw e (unfold stepped in refl)

  this-step : (n : Node) → is 5 n ≡ true → step_of {Value = Value} n value [] ≡ this_step n.label n.flags
  unfolding origin_of is_member
  this-step n e = rw (eqb-true n.kind 5 e)

  leaf_why : {s : S} (n : Node) (cs : S → O (List (Given Value))) → is_marked n ≡ false → is 5 n ≡ true → this_unblocked file ≡ true → Why s (run_node names m leaf n value cs)
  unfolding aims
  leaf_why {s = s} n cs e g h =
      let x : Step Value = step_of n value [] in
      let x₅ : Step Value = this_step n.label n.flags in
      let z : x ≡ x₅ = this-step n g in
      steady (λ u. record { value = m.reads x u; beside = beside names m.undefined leaf n [] }) (λ u. leaf-run n cs u e)
      (λ a u. ap (λ w. record { value = w; beside = beside names m.undefined leaf n [] }) (nothing_hidden.reads x (off-through v n value [] (λ q. clash (is 4 n) (other-kind n 5 4 g refl) q) (λ q. clash (is 29 n) (other-kind n 5 29 g refl) q) refl) u a))
      (ends-map (kept_by names m v there (λ u. m.reads x₅ u ≡ m.reads x₅ s.store) (λ y i q u u' w k p. this-kept h y i u u' w k n.label n.flags ∙ p) r unaimed value s refl)
      (λ y s' p. ap (λ w. record { value = w; beside = beside names m.undefined leaf n [] }) (ap (λ x. m.reads x s'.store) z ∙ p ∙ ap (λ x. m.reads x s.store) (sym z))) (λ s' p. tt) (λ p. p))

  as_leaf : {s : S} (f : Form) (n : Node) (cs : S → O (List (Given Value))) → f ≡ leaf → Why s (run_node names m leaf n value cs) → Why s (run_node names m f n value cs)
  as_leaf f n cs e y = rw e y

  this-form : (n : Node) → is 5 n ≡ true → form (cleared n) ≡ leaf
  unfolding form cleared
  this-form n e = rw (eqb-true n.kind 5 e)

  this_why : {s : S} (n : Node) (ts : Trees) → Quiet (node n ts) → is 5 n ≡ true → this_unblocked file ≡ true → Why s (go (node n ts))
  unfolding run
  this_why n ts q e h = as_leaf (form (cleared n)) (cleared n) _ (this-form n e) (leaf_why (cleared n) _ (quiet-marked n ts q) (unfold cleared in e) h)

  -- a settled name
  as_name : {s : S} (f : Form) (n : Node) (cs : S → O (List (Given Value))) → f ≡ name → eqb n.label v ≡ false → settled file n.label ≡ true → Why s (run_node names m f n value cs)
  as_name f n cs e g h = rw e (by-settled σ n value cs g h)

  settled-by : (a : ℕ) → unsettled (context_of file) a ≡ false → ltb a (length names) ≡ true → settled file a ≡ true
  unfolding settled
  settled-by a e g = rw (e, g)

  name_why : {s : S} (n : Node) (ts : Trees) → Quiet (node n ts) → is 4 n ≡ true → unsettled (context_of file) n.label ≡ false → Why s (go (node n ts))
  unfolding run cleared
  name_why n ts q e h =
      as_name (form (cleared n)) (cleared n) _ (name-form (cleared n) e) (off-read v n ts q.1 e) (settled-by n.label h (named_in names n (count ts) (well-node names n ts q.0).0 e))

  -- an object, a key
  part_by : {s : S} (n : Node) (ts : Trees) (x y : Bool) → is 4 n ≡ x → is 5 n ≡ y → Quiet (node n ts) → cond x (unsettled (context_of file) n.label) (cond y (thisBlocksAt (context_of file).this_scope (context_of file).frames n.position) true) ≡ false → Why s (go (node n ts))
  part_by n ts true y e g q h = name_why n ts q e h
  part_by n ts false true e g q h = this_why n ts q g (known-here n ts q.4 (unfold unblocked context_of in rw h))
  part_by n ts false false e g q h = clash true h refl

  part_why : {s : S} (t : Tree) → Quiet t → member_part_blocks_reorder (context_of file) t ≡ false → Why s (go t)
  unfolding member_part_blocks_reorder
  part_why (node n ts) q h = part_by n ts (is 4 n) (is 5 n) refl refl q h

  as_constant : {s : S} (f : Form) (n : Node) (cs : S → O (List (Given Value))) → f ≡ constant → Why s (run_node names m f n value cs)
  as_constant f n cs e = rw e (by-constant σ n value cs)

  literal-form : (n : Node) → (is 1 n || (false && is 2 n)) ≡ true → form (cleared n) ≡ constant
  unfolding form cleared
  literal-form n = by_or (is 1 n) false (λ e. rw (eqb-true n.kind 1 e)) (λ e. clash false refl e)

  literal_why : {s : S} (t : Tree) → is_literal_value false t ≡ true → Why s (go t)
  unfolding is_literal_value run
  literal_why (node n ts) e = as_constant (form (cleared n)) (cleared n) _ (literal-form n e)

  key_by : {s : S} (t : Tree) (x : Bool) → is_literal_value false t ≡ x → Quiet t → (not x && member_part_blocks_reorder (context_of file) t) ≡ false → Why s (go t)
  key_by t true e q h = literal_why t e
  key_by t false e q h = part_why t q h

  key_why : {s : S} (t : Tree) → Quiet t → computed_key_blocks_reorder (context_of file) t ≡ false → Why s (go t)
  unfolding computed_key_blocks_reorder
  key_why t q h = key_by t (is_literal_value false t) refl q h

  -- Forests of children.
  pub none_why : {s : S} → Why s (run_others names m none all)
  unfolding run
  none_why = steady (λ u. []) (λ u. refl) (λ a u. refl) (ends-any _ (λ x s'. refl) (λ s'. tt))

  one_why : {s : S} (t : Tree) → Why s (go t) → Why s (run_others names m (more t none) all)
  unfolding run in_turn takes then
  one_why t y = two-reasons σ (λ x hs. only x.value ∷ hs) y none_why

  member_role : (n : Node) → is 9 n ≡ false → first_role (stepping never) n target ≡ value
  unfolding first_role is_plain is_chain order is_delete
  member_role n e = rw e

  first_why : {s : S} (n : Node) (t : Tree) (ts : Trees) → is 9 n ≡ false → Why s (go t) → Why s (run_others names m ts all) → Why s (run_children names m (more t ts) (stepping never) n target)
  unfolding choice_of
  first_why {s = s} n t ts e y z = straight_why σ (stepping never) n target t ts refl (subst (λ ρ. Why s (run names m t ρ)) (sym (member_role n e)) y) z

  object_why : {s : S} (n : Node) (us : Trees) → is 9 n ≡ false → count us ≡ 1 → AllQuiet us → member_part_blocks_reorder (context_of file) (first_tree us) ≡ false → Why s (run_children names m us (stepping never) n target)
  unfolding count first_tree
  object_why n none e c q h = absurd (omega arith)
  object_why n (more t none) e c q h = first_why n t none e (part_why t (quiet_head t none q) h) none_why
  object_why n (more t (more u us)) e c q h = absurd (omega arith)

  pair_why : {s : S} (n : Node) (us : Trees) → is 9 n ≡ false → count us ≡ 2 → AllQuiet us → (member_part_blocks_reorder (context_of file) (first_tree us) || computed_key_blocks_reorder (context_of file) (first_tree (others 1 us))) ≡ false → Why s (run_children names m us (stepping never) n target)
  unfolding count first_tree others
  pair_why n none e c q h = absurd (omega arith)
  pair_why n (more t none) e c q h = absurd (omega arith)
  pair_why n (more t (more u none)) e c q h =
      let (a, b) = neither (member_part_blocks_reorder (context_of file) t) (computed_key_blocks_reorder (context_of file) u) h in
      first_why n t (more u none) e (part_why t (quiet_head t (more u none) q) a) (one_why u (key_why u (quiet_head u none (quiet-tail t (more u none) q)) b))
  pair_why n (more t (more u (more w us))) e c q h = absurd (omega arith)

  -- A target's own step reads; that it gives the same is what the facts say.
  abbrev Same-value : S → (S → O (Given Value)) → Type 0
  Same-value s c = (x : Given Value) (s' : S) → go r s ≡ gave x s' → (y y' : Given Value) (u u' : S) → c s ≡ gave y u → c s' ≡ gave y' u' → y.value ≡ y'.value

  ends-from : {A : Type 0} {P : A → S → Type 0} (o : O A) → ((x : A) (s : S) → o ≡ gave x s → P x s) → Ends P (λ s. Unit {0}) (Unit {0}) o
  ends-from (gave x s) h = gives (h x s refl)
  ends-from (cut s) h = cuts tt
  ends-from (stop l) h = halts tt

  member-run : (n : Node) (cs : S → O (List (Given Value))) (hs : List (Given Value)) (u : S) → is_marked n ≡ false → cs u ≡ gave hs u → run_node names m (stepping never) n target cs u ≡ gave (record { value = m.reads (step_of n target hs) u.store; beside = beside names m.undefined (stepping never) n hs }) u
  unfolding run_node gathered childless is_chain order finished own bind
  member-run n cs hs u e g = rw (g, e) (unfold stepped in refl)

  member_why : {s : S} (n : Node) (cs : S → O (List (Given Value))) → is_marked n ≡ false → ((hs : List (Given Value)) → through v (step_of n target hs) ≡ false) → (Unchanging σ → Why s (run_node names m (stepping never) n target cs)) → Same-value s (run_node names m (stepping never) n target cs) → Why s cs → Why s (run_node names m (stepping never) n target cs)
  member_why n cs e g c h (reading q k l) = c q
  member_why {s = s} n cs e g c h (steady ξ d i k) =
      steady (λ u. record { value = m.reads (step_of n target (ξ u)) u; beside = beside names m.undefined (stepping never) n (ξ u) }) (λ u. member-run n cs (ξ u.store) u e (d u))
      (λ a u. rw (i a u, nothing_hidden.reads (step_of n target (ξ u)) (g (ξ u)) u a))
      (ends-map (ends_and k (ends-from (go r s) (λ x s' z. h x s' z _ _ s s' (member-run n cs (ξ s.store) s e (d s)) (member-run n cs (ξ s'.store) s' e (d s')))))
      (λ x s' p. λ j. record { value = sym p.1 j; beside = beside names m.undefined (stepping never) n (p.0 j) }) (λ s' p. tt) (λ p. p))

  aim_run : (n : Node) (cs : S → O (List (Given Value))) (u : S) → is_marked n ≡ false → run_node names m target_name n target cs u ≡ gave (record { value = m.reads (step_of n target []) u.store; beside = beside names m.undefined target_name n [] }) u
  unfolding run_node gathered childless order finished own bind
  aim_run n cs u e = rw (and_off (resolved names n.label) (is_read target) (unfold is_read in refl)) (unfold held stepped in rw e)

  aim_why : {s : S} (n : Node) (cs : S → O (List (Given Value))) → is_marked n ≡ false → through {Value = Value} v (step_of n target []) ≡ false → Same-value s (run_node names m target_name n target cs) → Why s (run_node names m target_name n target cs)
  aim_why {s = s} n cs e g h =
      steady (λ u. record { value = m.reads (step_of n target []) u; beside = beside names m.undefined target_name n [] }) (λ u. aim_run n cs u e)
      (λ a u. rw (nothing_hidden.reads (step_of n target []) g u a))
      (ends-from (go r s) (λ x s' z. ap (λ w. record { value = w; beside = beside names m.undefined target_name n [] }) (sym (h x s' z _ _ s s' (aim_run n cs s e) (aim_run n cs s' e)))))

  -- the forms of targets
  aim_form : (n : Node) → is 29 n ≡ true → form (cleared n) ≡ target_name
  unfolding form cleared
  aim_form n e = rw (eqb-true n.kind 29 e)

  not_optional : (n : Node) (us : Trees) (k : ℕ) → is k n ≡ true → is_chain_element k ≡ true → unchained (node n us) ≡ false → optional n.flags ≡ false
  unfolding unchained
  not_optional n us k e g l =
      let y : (optional n.flags || unchained_first us) ≡ false = rw (eqb-true n.kind k e, g) at l in
      (neither (optional n.flags) (unchained_first us) y).0

  form_10 : (n : Node) → is 10 n ≡ true → optional n.flags ≡ false → form (cleared n) ≡ stepping never
  unfolding form cleared
  form_10 n e g = rw (eqb-true n.kind 10 e, g)

  form_11 : (n : Node) → is 11 n ≡ true → optional n.flags ≡ false → form (cleared n) ≡ stepping never
  unfolding form cleared
  form_11 n e g = rw (eqb-true n.kind 11 e, g)

  form_12 : (n : Node) → is 12 n ≡ true → optional n.flags ≡ false → form (cleared n) ≡ stepping never
  unfolding form cleared
  form_12 n e g = rw (eqb-true n.kind 12 e, g)

  object-form : (n : Node) (us : Trees) → (is 11 n || is 10 n) ≡ true → unchained (node n us) ≡ false → form (cleared n) ≡ stepping never
  object-form n us e l = by_or (is 11 n) (is 10 n) (λ q. form_11 n q (not_optional n us 11 q refl l)) (λ q. form_10 n q (not_optional n us 10 q refl l)) e

  object_not : (n : Node) (k : ℕ) → (is 11 n || is 10 n) ≡ true → eqb 11 k ≡ false → eqb 10 k ≡ false → is k n ≡ false
  object_not n k e g h = by_or (is 11 n) (is 10 n) (λ q. other-kind n 11 k q g) (λ q. other-kind n 10 k q h) e

  -- no step of a node that is no assignment is made through what it has in hand
  off-hand : (n : Node) (role : Role) (hs : List (Given Value)) → Other σ n → is 20 n ≡ false → through v (step_of n role hs) ≡ false
  unfolding through_by origin_of
  off-hand n role hs (e, g) h = rw h (off-left (is 4 n) (is 29 n) (eqb n.label v) e g)
    where
      off-left : (x y z : Bool) → (x ≡ true → z ≡ false) → (y ≡ true → z ≡ false) → ((x || y) && z || false) ≡ false
      off-left true y z p q = rw (p refl)
      off-left false true z p q = rw (q refl)
      off-left false false z p q = refl

  as_step : {s : S} (f : Form) (n : Node) (us : Trees) → f ≡ stepping never → is_marked n ≡ false → ((hs : List (Given Value)) → through v (step_of n target hs) ≡ false) → (Unchanging σ → Why s (run_node names m f n target (run_children names m us f n target))) → Same-value s (run_node names m f n target (run_children names m us f n target)) → Why s (run_children names m us (stepping never) n target) → Why s (run_node names m f n target (run_children names m us f n target))
  as_step {s = s} f n us e g h c k y = subst (λ f. (Unchanging σ → Why s (run_node names m f n target (run_children names m us f n target))) → Same-value s (run_node names m f n target (run_children names m us f n target)) → Why s (run_node names m f n target (run_children names m us f n target))) (sym e) (λ c k. member_why n _ g h c k y) c k

  as_aim : {s : S} (f : Form) (n : Node) (cs : S → O (List (Given Value))) → f ≡ target_name → is_marked n ≡ false → through {Value = Value} v (step_of n target []) ≡ false → Same-value s (run_node names m f n target cs) → Why s (run_node names m f n target cs)
  as_aim {s = s} f n cs e g h k = subst (λ f. Same-value s (run_node names m f n target cs) → Why s (run_node names m f n target cs)) (sym e) (λ k. aim_why n cs g h k) k

  abbrev Same-given : S → Tree → Type 0
  Same-given s t = B.Same-given σ s t

  quiet-unchanging : {s : S} (t : Tree) → Quiet t → Unchanging σ → Why s (run names m t target)
  quiet-unchanging t (a, b, c, d, e) q = by-unchanging σ t target b c q d

  target-by : {s : S} (n : Node) (us : Trees) (x y z : Bool) → is 29 n ≡ x → is 12 n ≡ y → (is 11 n || is 10 n) ≡ z → Quiet (node n us) → unchained (node n us) ≡ false → Same-given s (node n us)
      → cond x false (cond y (member_part_blocks_reorder (context_of file) (first_tree us) || computed_key_blocks_reorder (context_of file) (first_tree (others 1 us))) (cond z (member_part_blocks_reorder (context_of file) (first_tree us)) true)) ≡ false → Why s (run names m (node n us) target)
  unfolding run cleared
  target-by n us true y z e g h q l k d =
      as_aim (form (cleared n)) (cleared n) _ (aim_form n e) (quiet-marked n us q) (off-hand (cleared n) target [] (quiet-other n us q) (other-kind n 29 20 e refl)) (λ x s' w y y' u u' i j. k x s' w y y' u u' i j)
  target-by n us false true z e g h q l k d =
      as_step (form (cleared n)) (cleared n) us (form_12 n g (not_optional n us 12 g refl l)) (quiet-marked n us q) (λ hs. off-hand (cleared n) target hs (quiet-other n us q) (other-kind n 12 20 g refl)) (quiet-unchanging (node n us) q) (λ x s' w y y' u u' i j. k x s' w y y' u u' i j)
      (pair_why (cleared n) us (other-kind n 12 9 g refl) (two-children names n (count us) (well-node names n us q.0).0 g) (quiet-kids n us q) d)
  target-by n us false false true e g h q l k d =
      as_step (form (cleared n)) (cleared n) us (object-form n us h l) (quiet-marked n us q) (λ hs. off-hand (cleared n) target hs (quiet-other n us q) (object_not n 20 h refl refl)) (quiet-unchanging (node n us) q) (λ x s' w y y' u u' i j. k x s' w y y' u u' i j)
      (object_why (cleared n) us (object_not n 9 h refl refl) (one_child names n (count us) (well-node names n us q.0).0 h) (quiet-kids n us q) d)
  target-by n us false false false e g h q l k d = clash true d refl

  -- a target that doesn't depend on what r may do
  pub target_why : {s : S} (t : Tree) → Quiet t → unchained t ≡ false → Same-given s t → may_depend_on_side_effect (context_of file) t ≡ false → Why s (run names m t target)
  unfolding may_depend_on_side_effect
  target_why (node n us) q l k d = target-by n us (is 29 n) (is 12 n) (is 11 n || is 10 n) refl refl refl q l k d
