-- One fold of a tree: what each plan may count on, and the induction over trees.
use Prim.Native.Nat.{ℕ, ◌+◌, ◌≤◌}
use native.Mathlib.Omega.{arith}
use mathlib.Core.Bool.{Bool, true, false, cond, ◌&&◌, ◌||◌, not}
use mathlib.Core.List.{List, []}
use mathlib.Core.Path.{◌≡◌, refl, sym, ap, ◌∙◌, subst, fun_ext}
use lib.Dec.{eqb}
use borrow.Author.Tests.{eqb-true, le-leb, eq-eqb}
use Rattle.records.specs.Flags.{marked, computed}
use Rattle.records.specs.Tree.{Node, Tree, Trees, node, none, more, count}
use Rattle.records.specs.File.{first_tree}
use Rattle.records.specs.Place.{root, may_be_unchained, unchained, stand_under}
use Rattle.records.specs.Count.{uses_in}
use Rattle.records.specs.declared.layout.NameFacts.{NameFacts}
use Rattle.records.proofs.Tests.{clash, both, neither}
use Rattle.walk_rules.specs.Context.{Context, context_of}
use Rattle.walk_rules.specs.Effect.{has_effect, may_have_side_effects, any_has_side_effects}
use Rattle.walk_rules.specs.Target.{may_depend_on_side_effect}
use Rattle.walk_rules.specs.Shape.{Choice as Way, never as always, skips, cuts, picks, Shape, constant as literal, identifier, target_name as aim, leaf as lone, chain as links, import, delete, sequence as row, property as pair, stopping, assignment as assigning, steps, shape}
use Rattle.walk_rules.specs.Substitute.{Answer, replaced, passed, Plan, all as every, first as leading, nothing as none_at_all, value as behind, test, tag, next, at, preserve_indirect_access, is_specific_id, keeps_callee, is_member_tag, keeps_indirect, stops_at_target, plan_for, plan, may_pass, substitute_in_expression, substitute_in_children}
use Rattle.theory_runs.specs.Hand.{Given, only, last_or}
use Rattle.theory_runs.specs.Step.{value, target}
use Rattle.theory_runs.specs.Form.{is, cleared, is_delete, Form, chain, property, importing, sequence, assignment, stepping, never, logical, conditional, optionally, form, order, childless, is_name, is_chain, is_plain, is_assignment, choice_of, first_role}
use Rattle.theory_runs.specs.State.{State, Out, gave, cut, stop, bind}
use Rattle.theory_runs.specs.Run.{Turn, all, skipped, second, third, takes, then, kept, gathered, chosen, in_turn, after_first, own, beside, finished, run_node, run, run_children}
use Rattle.theory_preservation.proofs.Tests.{and_then}
use Rattle.theory_preservation.proofs.Tables.{choosing, form_of, shape_kinds, shape-kinds}
use Rattle.theory_preservation.proofs.Ends.{cuts, ends-any}
use Rattle.theory_preservation.proofs.Uses.{reads, all_reads, targets, off-target, specific}
use Rattle.theory_preservation.proofs.Kept.{under, stands, in_row}
use Rattle.theory_preservation.proofs.Setting.{Setting}
use Rattle.theory_preservation.proofs.Passing.{bind_assoc, bind-same, gave-bind, Put, first, drop, Framed, Reason, steady}
use Rattle.theory_preservation.proofs.Frame.{moved}
use Rattle.theory_preservation.proofs.WellMade.{well_made, well-node, well-more, named_in}
use Rattle.theory_preservation.proofs.Open.{by-still, by_reorder, by_shape}
use Rattle.theory_preservation.proofs.Waiting.{unchanging, free-frame}
use Rattle.theory_preservation.proofs.Entered.{spills, Entering}
use Rattle.theory_preservation.proofs.Entering.{Enters, kept-value, value_of_value, plan-enters}
use Rattle.theory_preservation.proofs.Placing.{over, forks, is_nothing, value_only, value_only_value, plan_good}
use Rattle.theory_preservation.proofs.Placing as P
use Rattle.theory_preservation.proofs.Children.{Other, Links, Parts, part_good}
use Rattle.theory_preservation.proofs.Turns.{lets, straight, choose}
use Rattle.theory_preservation.proofs.Children as C
use Rattle.theory_preservation.proofs.Asked as A
use Rattle.theory_preservation.proofs.Nodes.{first-name, at_name, shaped, run_as, drop-over, node_good, bared}
use Rattle.theory_preservation.proofs.Aims.{ThisKnown, known-kids, known_head, known-tail, target_why, none_why}

module _ {Value Rest : Type 0} (σ : Setting Value Rest) where
  open σ use {file, m, v, r}

  abbrev S : Type 0
  S = State Value Rest

  abbrev O : Type 0 → Type 0
  O A = Out Value Rest A

  abbrev names : List NameFacts
  names = file.names

  abbrev ctx : Context
  ctx = context_of file

  abbrev D : {A : Type 0} → O A → O A
  D o = drop σ o

  abbrev F : {A : Type 0} → (S → O A) → S → O A
  F c s = first σ c s

  abbrev go : Tree → S → O (Given Value)
  go t s = run names m t value s

  abbrev Why : {A : Type 0} → S → (S → O A) → Type 0
  Why s c = Reason σ s c

  value_only_off : (t : Tree) (x : Given Value) → spills v r t ≡ false → value_only σ t x ≡ x
  unfolding value_only
  value_only_off t x e = rw e

  -- what a node keeps of the name's value it keeps of r's
  keep-by : (b : Bool) (f : Form) (n : Node) (t : Tree) → spills v r t ≡ b → Entering v r f n t → C.Searching σ f n t
  keep-by true f n t q e x =
      let (g, h) = both (is_specific_id v (root t)) (is_member_tag r) q in
      kept-value v r f n t e g h (value_only σ t x).beside ∙ sym (kept-value v r f n t e g h x.beside)
  keep-by false f n t q e x = ap (λ (x : Given Value). kept f n x.beside) (value_only_off t x q)

  search-keep : (f : Form) (n : Node) (t : Tree) → Entering v r f n t → C.Searching σ f n t
  search-keep f n t e = keep-by (spills v r t) f n t refl e

  search-value : (f : Form) (n : Node) (t : Tree) → Entering v r f n t → C.First-value σ f n
  search-value f n t e = value_of_value f n e.unassigned e.undeleted

  -- r put aside in the place of a tag
  abbrev aside : ℕ → Tree → Tree
  aside p t = node (record { kind = 28; flags = 0; label = 0; position = p }) (more (node (record { kind = 1; flags = 0; label = 65535; position = p }) none) (more t none))

  aside-case : (p : ℕ) (t : Tree) (s : S) (o : O (Given Value)) → go t s ≡ o → go (aside p t) s ≡ over bared (go t s)
  unfolding run run_node form cleared gathered childless is_chain is_name is_plain is_delete order choice_of first_role after_first chosen takes then in_turn finished own beside kept last_or bind over
  aside-case p t s (gave x s') e = rw e
  aside-case p t s (cut s') e = rw e
  aside-case p t s (stop l) e = rw e

  aside_run : (t : Tree) (s : S) → go (preserve_indirect_access t) s ≡ over bared (go t s)
  unfolding preserve_indirect_access
  aside_run (node n ts) s = aside-case n.position (node n ts) s (go (node n ts) s) refl

  bared_value_only : (t : Tree) (o : O (Given Value)) → over bared (over (value_only σ t) o) ≡ over bared o
  unfolding over bind
  bared_value_only t (gave x s) = ap (λ w. gave (only w) s) (value_only_value σ t x)
  bared_value_only t (cut s) = refl
  bared_value_only t (stop l) = refl

  named : (t : Tree) (s : S) → is_specific_id v (root t) ≡ true → F (go t) s ≡ bind (go r s) (λ x s'. gave (bared x) (moved (Put v x.value) s'))
  named (node n ts) s e = let (k, l) = specific v n e in first-name σ n ts s (eq-eqb n.kind 4 k) l

  bared-name : (s : S) → over bared (bind (go r s) (λ x s'. gave (bared x) (moved (Put v x.value) s'))) ≡ bind (go r s) (λ x s'. gave (bared x) (moved (Put v x.value) s'))
  unfolding over
  bared-name s = bind_assoc (go r s) _ _ ∙ bind-same (go r s) _ _ (λ x s'. gave-bind (bared x) (moved (Put v x.value) s') (λ x s''. gave (bared x) s''))

  first-bared : (t : Tree) (s : S) → is_specific_id v (root t) ≡ true → over bared (F (go t) s) ≡ F (go t) s
  first-bared t s e = subst (λ o. over bared o ≡ o) (sym (named t s e)) (bared-name s)

  aside_good : (t : Tree) → is_specific_id v (root t) ≡ true → C.Aside σ t
  aside_good t e t' s h =
      ap D (sym (first-bared t s e) ∙ sym (bared_value_only t (F (go t) s)))
      ∙ drop-over σ bared _ _ h
      ∙ ap D (bared_value_only t (go t' s) ∙ sym (aside_run t' s))

  -- what each plan may count on
  tag_links : (b : Bool) (n : Node) (t : Tree) (ts : Trees) → Enters v r (cond b tag every) (stepping never) (cleared n) t → Links σ (cond b tag every) (stepping never) (cleared n) t ts
  unfolding choice_of next is_plain is_assignment is_chain order
  tag_links true n t ts (e, d, a, c) = (aside_good t e, straight refl tt, value_of_value (stepping never) (cleared n) a d)
  tag_links false n t ts e = (search-keep (stepping never) (cleared n) t e, straight refl tt, search-value (stepping never) (cleared n) t e)

  unchanging_links : (x : Bool) (f : Form) (n : Node) (t : Tree) (ts : Trees) → may_have_side_effects r ≡ x → ((w : Turn) → lets (choice_of f) w ≡ true → P.Meant σ every w) → Enters v r (cond x leading every) f n t → Links σ (cond x leading every) f n t ts
  unfolding next
  unchanging_links true f n t ts e l h = (search-keep f n t h, search-value f n t h)
  unchanging_links false f n t ts e l h = (search-keep f n t h, choose (unchanging σ e) l, search-value f n t h)

  fork_links : (x : Bool) (n : Node) (t : Tree) (ts : Trees) → may_have_side_effects r ≡ x → Enters v r (cond x leading test) (stepping conditional) n t → Links σ (cond x leading test) (stepping conditional) n t ts
  unfolding choice_of next
  fork_links true n t ts e h = (search-keep (stepping conditional) n t h, search-value (stepping conditional) n t h)
  fork_links false n t ts e h = (search-keep (stepping conditional) n t h, choose (unchanging σ e) fork, search-value (stepping conditional) n t h)
    where
      fork : (w : Turn) → lets conditional w ≡ true → forks w ≡ true
      fork all l = unfold lets in clash false refl l
      fork skipped l = unfold lets in clash false refl l
      fork second l = unfold forks in refl
      fork third l = unfold forks in refl

  way_links : (w : Way) (n : Node) (t : Tree) (ts : Trees) → Enters v r (plan_for ctx v r w n (more t ts)) (stepping (choosing w)) (cleared n) t → Links σ (plan_for ctx v r w n (more t ts)) (stepping (choosing w)) (cleared n) t ts
  unfolding plan_for choosing
  way_links always n t ts h = tag_links (keeps_indirect v r n (more t ts)) n t ts h
  way_links skips n t ts h = unchanging_links (may_have_side_effects r) (stepping logical) (cleared n) t ts refl (λ w l. tt) h
  way_links cuts n t ts h = unchanging_links (may_have_side_effects r) (stepping optionally) (cleared n) t ts refl (λ w l. tt) h
  way_links picks n t ts h = fork_links (may_have_side_effects r) (cleared n) t ts refl h

  callee_links : (b : Bool) (w : Way) (n : Node) (t : Tree) (ts : Trees) → Enters v r (cond b none_at_all (plan_for ctx v r w n (more t ts))) (stepping (choosing w)) (cleared n) t → Links σ (cond b none_at_all (plan_for ctx v r w n (more t ts))) (stepping (choosing w)) (cleared n) t ts
  callee_links true w n t ts h = tt
  callee_links false w n t ts h = way_links w n t ts h

  -- An assignment: its target has a reason.
  abbrev Aimed : Tree → Type 0
  Aimed t = (well_made names t ≡ true) × (targets v t ≡ 0) × ThisKnown σ t × (unchained t ≡ false)

  unmarked : (t : Tree) → may_have_side_effects t ≡ false → marked (root t).flags ≡ false
  unfolding may_have_side_effects has_effect
  unmarked (node n ts) e =
      let a = (neither (has_effect n) (any_has_side_effects ts) e).0 in
      let b = (neither (marked n.flags || is 6 n || is 7 n || is 8 n) (is 20 n) a).0 in
      let c = (neither (marked n.flags || is 6 n || is 7 n) (is 8 n) b).0 in
      (neither (marked n.flags) (is 6 n) (neither (marked n.flags || is 6 n) (is 7 n) c).0).0

  plain-target : (x : Bool) (n : Node) (t : Tree) (ts : Trees) → may_have_side_effects r ≡ x → Aimed t → may_have_side_effects t ≡ false → (x && may_depend_on_side_effect ctx t) ≡ false
      → (s : S) → P.TargetAt σ s (assignment false) (more t ts) → 1 ≤ all_reads v ts → reads v t ≡ 0 → Why s (run names m t (first_role (assignment false) n value))
  unfolding first_role is_plain order
  plain-target true n t ts e (a, b, c, l) g d s u k z = target_why σ t (a, z, b, g, c) l (λ x s' w. u x s' w refl (unmarked t g) (le-leb 1 (all_reads v ts) k)) d
  plain-target false n t ts e (a, b, c, l) g d s u k z = by-still σ t target z b e g

  assign_by : (c x b : Bool) (n : Node) (t : Tree) (ts : Trees) → may_have_side_effects r ≡ x → Aimed t → (may_have_side_effects t || c && x || x && may_depend_on_side_effect ctx t) ≡ b → Links σ (cond b none_at_all behind) (assignment c) n t ts
  unfolding choice_of next
  assign_by c x true n t ts e a h = tt
  assign_by true true false n t ts e a h = clash (true && true) (neither (may_have_side_effects t) true (neither (may_have_side_effects t || true) _ h).0).1 refl
  assign_by true false false n t ts e a h = ((λ s u k z. by-still σ t _ z a.1 e (neither (may_have_side_effects t) false (neither (may_have_side_effects t || false) false h).0).0), choose (unchanging σ e) (λ w l. tt))
  assign_by false x false n t ts e a h =
      let (p, q) = neither (may_have_side_effects t || false) (x && may_depend_on_side_effect ctx t) h in
      ((λ s u k z. plain-target x n t ts e a (neither (may_have_side_effects t) false p).0 q s u k z), straight refl tt)

  assign_links : (c : Bool) (n : Node) (t : Tree) (ts : Trees) → Aimed t → Links σ (cond (stops_at_target ctx r c t) none_at_all behind) (assignment c) n t ts
  unfolding stops_at_target
  assign_links c n t ts a = assign_by c (may_have_side_effects r) (may_have_side_effects t || c && may_have_side_effects r || may_have_side_effects r && may_depend_on_side_effect ctx t) n t ts refl a refl

  chained-target : (n : Node) (t : Tree) (ts : Trees) → is 20 n ≡ true → stand_under n 0 (more t ts) ≡ true → unchained t ≡ false
  unfolding may_be_unchained
  chained-target n t ts e h = not_unchained (unchained t) (rw (eqb-true n.kind 20 e) at (stands n 0 t ts h).1)
    where
      not_unchained : (x : Bool) → (not x || false) ≡ true → x ≡ false
      not_unchained true e = sym e
      not_unchained false e = refl

  all_links : (f : Form) (n : Node) (t : Tree) (ts : Trees) → choice_of f ≡ never → Entering v r f n t → Links σ every f n t ts
  unfolding next
  all_links f n t ts e h = (search-keep f n t h, straight e tt, search-value f n t h)

  property_links : (b : Bool) (n : Node) (t : Tree) (ts : Trees) → Enters v r (cond b none_at_all every) property n t → Links σ (cond b none_at_all every) property n t ts
  unfolding choice_of next
  property_links true n t ts h = tt
  property_links false n t ts h = all_links property n t ts refl h

  shape_links : (sh : Shape) (n : Node) (t : Tree) (ts : Trees) → shape_kinds sh n ≡ true → stand_under n 0 (more t ts) ≡ true → well_made names t ≡ true → targets v t ≡ 0 → ThisKnown σ t
      → Enters v r (plan ctx v r sh n (more t ts)) (form_of sh) (cleared n) t → Links σ (plan ctx v r sh n (more t ts)) (form_of sh) (cleared n) t ts
  unfolding plan shape_kinds form_of choosing first_tree choice_of next
  shape_links literal n t ts k p a b c h = tt
  shape_links identifier n t ts k p a b c h = tt
  shape_links aim n t ts k p a b c h = tt
  shape_links lone n t ts k p a b c h = tt
  shape_links links n t ts k p a b c h = all_links chain (cleared n) t ts refl h
  shape_links import n t ts k p a b c h = all_links importing (cleared n) t ts refl h
  shape_links delete n t ts k p a b c h = tt
  shape_links row n t ts k p a b c h = all_links sequence (cleared n) t ts refl h
  shape_links pair n t ts k p a b c h = property_links (computed n.flags) (cleared n) t ts h
  shape_links stopping n t ts k p a b c h = (search-keep (stepping never) (cleared n) t h, search-value (stepping never) (cleared n) t h)
  shape_links (assigning x) n t ts k p a b c h = assign_links x (cleared n) t ts (a, b, c, chained-target n t ts k p)
  shape_links (steps w) n t ts k p a b c h = callee_links (keeps_callee r n (more t ts)) w n t ts h

  plan_links : (sh : Shape) (n : Node) (t : Tree) (ts : Trees) → shape_kinds sh n ≡ true → stand_under n 0 (more t ts) ≡ true → well_made names t ≡ true → targets v t ≡ 0 → ThisKnown σ t → Links σ (plan ctx v r sh n (more t ts)) (form_of sh) (cleared n) t ts
  plan_links sh n t ts k p a b c = shape_links sh n t ts k p a b c (plan-enters v r ctx sh n t ts k p)

  -- a node without children is not searched
  childless-plan : (sh : Shape) (n : Node) (ts : Trees) → childless (form_of sh) ≡ true → is_nothing (plan ctx v r sh n ts) ≡ true
  unfolding childless form_of order plan is_nothing
  childless-plan literal n ts e = refl
  childless-plan identifier n ts e = refl
  childless-plan aim n ts e = refl
  childless-plan lone n ts e = refl
  childless-plan links n ts e = clash false refl e
  childless-plan import n ts e = clash false refl e
  childless-plan delete n ts e = refl
  childless-plan row n ts e = clash false refl e
  childless-plan pair n ts e = clash false refl e
  childless-plan stopping n ts e = clash false refl e
  childless-plan (assigning true) n ts e = clash false refl e
  childless-plan (assigning false) n ts e = clash false refl e
  childless-plan (steps w) n ts e = clash false refl e

  -- a chain's or a property's children are all searched
  through : (sh : Shape) (n₀ n : Node) (ts : Trees) (s : S) → all_reads v ts ≡ 0 → Parts σ (plan ctx v r sh n₀ ts) (form_of sh) n ts passed → (sh ≡ links → Why s (run_children names m ts (form_of sh) n value)) × (sh ≡ pair → computed n₀.flags ≡ false → Why s (run_children names m ts (form_of sh) n value))
  unfolding plan form_of choice_of
  through sh n₀ n ts s z g = ((λ e. g (rw e) (rw e) z s), λ e c. g (rw (e, c)) (rw e) z s)

  same-run : (n : Node) (ts : Trees) → run names m (node n ts) value ≡ shaped σ n ts value
  same-run n ts = fun_ext (λ s. run_as σ n ts value s)

  passed-node : (n : Node) (ts : Trees) (s : S) → may_pass ctx v r (shape n) n ts ≡ true → reads v (node n ts) ≡ 0 → targets v (node n ts) ≡ 0 → Other σ (cleared n) → well_made names (node n ts) ≡ true → Parts σ (plan ctx v r (shape n) n ts) (form_of (shape n)) (cleared n) ts passed → Why s (go (node n ts))
  unfolding uses_in cleared
  passed-node n ts s e z y o w g =
      let (c, p) = through (shape n) n (cleared n) ts s (omega arith) g in
      subst (λ c. Why s c) (sym (same-run n ts))
      (by_shape σ (shape n) n (cleared n) ts e (λ q. subst (λ c. Why s c) (same-run n ts) (by_reorder σ (node n ts) value z y q)) (subst (λ c. Framed σ c) (same-run n ts) (free-frame σ (node n ts) z y value)) refl
      (λ q. let k : is 4 n ≡ true = named-shape n q in (o.0 k, named_in names n (count ts) (well-node names n ts w).0 k)) c p)
    where
      named-shape : (n : Node) → shape n ≡ identifier → is 4 n ≡ true
      named-shape n q = unfold shape_kinds in subst (λ sh. shape_kinds sh n ≡ true) q (shape-kinds n)

  name_or : (n : Node) (ts : Trees) (b : Bool) (a : Answer Tree) → is_specific_id v n ≡ b → (b ≡ false → P.Good σ (node n ts) a) → P.Good σ (node n ts) (cond b (replaced (at n.position r)) a)
  name_or n ts true a e g = at_name σ n ts e
  name_or n ts false a e g = g refl

  other : (n : Node) (ts : Trees) → is_specific_id v n ≡ false → targets v (node n ts) ≡ 0 → Other σ (cleared n)
  unfolding is_specific_id cleared
  other n ts e h = ((λ q. and_then (is 4 n) (eqb n.label v) q e), off-target v n ts h)

  nil_why : {s : S} (f : Form) (n : Node) → Why s (run_children names m none f n value)
  unfolding run
  nil_why f n = steady (λ u. []) (λ u. refl) (λ a u. refl) (ends-any _ (λ x s'. refl) (λ s'. tt))

  abbrev Asked : Tree → Type 0
  Asked t = A.Asked σ t

  abbrev AllAsked : Trees → Type 0
  AllAsked ts = A.AllAsked σ ts

  asked-kids : (n : Node) (ts : Trees) → Asked (node n ts) → AllAsked ts
  unfolding uses_in
  asked-kids n ts (a, b, c, d, e) = (omega arith, omega arith, (under n ts c).1, (well-node names n ts d).1, known-kids σ n ts e)

  asked_head : (t : Tree) (ts : Trees) → AllAsked (more t ts) → Asked t
  unfolding uses_in
  asked_head t ts (a, b, c, d, e) = (omega arith, omega arith, (in_row t ts c).0, (well-more names t ts d).0, known_head σ t ts e)

  asked-tail : (t : Tree) (ts : Trees) → AllAsked (more t ts) → AllAsked ts
  unfolding uses_in
  asked-tail t ts (a, b, c, d, e) = (omega arith, omega arith, (in_row t ts c).1, (well-more names t ts d).1, known-tail σ t ts e)

  asked-sum : (t : Tree) (ts : Trees) → AllAsked (more t ts) → reads v t + all_reads v ts ≤ 1
  unfolding uses_in
  asked-sum t ts (a, b, c, d, e) = a

  mutual
    unfolding substitute_in_expression

    -- every answer of the search does what is claimed of it
    pub sound : (t : Tree) → Asked t → P.Good σ t (substitute_in_expression ctx v r t)
    sound (node n ts) a =
        name_or n ts (is_specific_id v n) _ refl
        (λ e. node_good σ n ts (plan ctx v r (shape n) n ts) (may_pass ctx v r (shape n) n ts) (substitute_in_children ctx v r (plan ctx v r (shape n) n ts) ts) (other n ts e a.1) (asked-kids n ts a).1
        (sound-children ts n (shape n) (other n ts e a.1) (shape-kinds n) (under n ts a.2).0 (asked-kids n ts a)) (childless-plan (shape n) n ts)
        (λ q z g s. passed-node n ts s q z a.1 (other n ts e a.1) a.3 g))

    sound-children : (ts : Trees) (n : Node) (sh : Shape) → Other σ (cleared n) → shape_kinds sh n ≡ true → stand_under n 0 ts ≡ true → AllAsked ts → Parts σ (plan ctx v r sh n ts) (form_of sh) (cleared n) ts (substitute_in_children ctx v r (plan ctx v r sh n ts) ts)
    sound-children none n sh o k p a = λ e g z s. nil_why (form_of sh) (cleared n)
    sound-children (more t ts) n sh o k p a =
        part_good σ (plan ctx v r sh n (more t ts)) (form_of sh) (cleared n) t ts (substitute_in_expression ctx v r t) (substitute_in_children ctx v r (next (plan ctx v r sh n (more t ts))) ts) o (asked-sum t ts a) (asked_head t ts a).1 (asked-tail t ts a).1
        (plan_links sh n t ts k p (asked_head t ts a).3 (asked_head t ts a).1 (asked_head t ts a).4)
        (sound t (asked_head t ts a)) (sound-others ts (next (plan ctx v r sh n (more t ts))) (asked-tail t ts a))

    sound-others : (ts : Trees) (p : Plan) → AllAsked ts → P.Goods σ p ts (substitute_in_children ctx v r p ts)
    sound-others none p a = λ e z s. none_why σ
    sound-others (more t ts) p a = plan_good σ p t ts (substitute_in_expression ctx v r t) (substitute_in_children ctx v r (next p) ts) (asked-sum t ts a) (asked_head t ts a).1 (asked-tail t ts a).1 (sound t (asked_head t ts a)) (sound-others ts (next p) (asked-tail t ts a))
