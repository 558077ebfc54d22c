-- Where the search of a node's children begins: the code's tests and the rules'. Assumes nothing.
use Prim.Native.Nat.{ℕ, suc, ◌+◌, ◌-◌, ◌*◌}
use native.Mathlib.Omega.{arith}
use mathlib.Core.Bool.{Bool, true, false, cond, not, or-false}
use mathlib.Core.List.{List}
use mathlib.Core.Path.{◌≡◌, refl, sym, ap, ◌∙◌}
use lib.Dec.{eqb}
use borrow.Author.Tests.{eqb-true, ne_eqb}
use Rattle.records.specs.Record.{node_at}
use Rattle.records.specs.Tree.{Node, Tree, Trees, none, more, count, size, sizes, joined, node_of}
use Rattle.records.specs.File.{first_tree, one}
use Rattle.records.specs.declared.layout.NodeRecord.{NodeRecord}
use Rattle.records.proofs.Tests.{clash}
use Rattle.records_table.specs.Laid.{laids}
use Rattle.records_table.proofs.Laid.{first, inside}
use Rattle.walk_rules.specs.Context.{Context}
use Rattle.walk_rules.specs.Shape.{is, never, assignment, steps, shape}
use Rattle.walk_rules.specs.Effect.{has_effect, may_have_side_effects, any_has_side_effects}
use Rattle.walk_rules.specs.Substitute.{Answer as RuleAnswer, replaced, stopped, passed, nothing, value, next, in_order, by_plan, plan, keeps_indirect, stops_at_target, substitute_in_children}
use Rattle.walk_rules.specs.Looks.{enters_first, goes_on, looks_in_children}
use Rattle.walk_reorder.specs.Passes.{Passes}
use Rattle.walk_reorder.proofs.Passing.{passes-tree}
use Rattle.walk_arms.specs.declared.arms.Shape.{Shape}
use Rattle.walk_arms.specs.declared.arms.Shape.TheVariants.{Constant, Identifier, TargetName, Leaf, Chain, Import, Delete, Sequence, Property, Stopping, Assignment, CompoundAssignment, Logical, Conditional, Optional, Steps}
use Rattle.walk_arms.specs.declared.replacement.Replacement.{Replacement}
use Rattle.walk_arms.specs.declared.arms.Begun.{Begun}
use Rattle.walk_arms.specs.Arms.{shaped, planned, is_assignment, is_compound_assignment, KeepsIndirect, PlansFor, stops_in}
use Rattle.walk_arms.specs.Child.{FirstChild}
use Rattle.walk_arms.specs.Begins.{StopsAt, BeginsAt, plan_of_value, behind_forest}
use Rattle.walk_arms.proofs.Children.{node-is, children_are}

-- what is no assignment has no target
pub no_target : (ctx : Context) (replacement : Tree) (kids : Trees) (s : Shape) → is_assignment s ≡ false → false ≡ stops_in ctx replacement (shaped s) kids
no_target ctx replacement kids Constant a = refl
no_target ctx replacement kids Identifier a = refl
no_target ctx replacement kids TargetName a = refl
no_target ctx replacement kids Leaf a = refl
no_target ctx replacement kids Chain a = refl
no_target ctx replacement kids Import a = refl
no_target ctx replacement kids Delete a = refl
no_target ctx replacement kids Sequence a = refl
no_target ctx replacement kids Property a = refl
no_target ctx replacement kids Stopping a = refl
no_target ctx replacement kids Assignment a = clash true a refl
no_target ctx replacement kids CompoundAssignment a = clash true a refl
no_target ctx replacement kids Logical a = refl
no_target ctx replacement kids Conditional a = refl
no_target ctx replacement kids Optional a = refl
no_target ctx replacement kids Steps a = refl

-- an assignment is compound or not
assigns : (s : Shape) → is_assignment s ≡ true → shaped s ≡ assignment (is_compound_assignment s)
assigns Constant a = clash false refl a
assigns Identifier a = clash false refl a
assigns TargetName a = clash false refl a
assigns Leaf a = clash false refl a
assigns Chain a = clash false refl a
assigns Import a = clash false refl a
assigns Delete a = clash false refl a
assigns Sequence a = clash false refl a
assigns Property a = clash false refl a
assigns Stopping a = clash false refl a
assigns Assignment a = refl
assigns CompoundAssignment a = refl
assigns Logical a = clash false refl a
assigns Conditional a = clash false refl a
assigns Optional a = clash false refl a
assigns Steps a = clash false refl a

-- a tagged template is none
pub tag-steps : (n : Node) → is 24 n ≡ true → shape n ≡ steps never
unfolding shape
tag-steps n e = rw (eqb-true n.kind 24 e) refl

no_tag : (n : Node) (c : Bool) → shape n ≡ assignment c → is 24 n ≡ false
no_tag n c e = by (is 24 n) refl
  where
    by : (b : Bool) → is 24 n ≡ b → is 24 n ≡ false
    by true q = absurd (let z : steps never ≡ assignment c = sym (tag-steps n q) ∙ e in let y : ◌≡◌ {A = ℕ} 0 1 = cc in omega arith)
    by false q = q

-- nothing is passed before, or one tree is
behind-none : (a : RuleAnswer Trees) → a ≡ behind_forest none a
unfolding joined
behind-none (replaced ts) = refl
behind-none (stopped ts) = refl
behind-none passed = refl

behind-one : (t : Tree) (ts : Trees) (a : RuleAnswer Trees) → in_order t ts passed a ≡ behind_forest (more t none) a
unfolding joined in_order
behind-one t ts (replaced us) = refl
behind-one t ts (stopped us) = refl
behind-one t ts passed = refl

-- The search of a node that is no assignment begins at its first child.
module _ (ctx : Context) {table : List ℕ} {at : ℕ} {n : NodeRecord} (e : n ≡ node_at table (16 * at)) {known : Replacement} {g : Begun} (sh : shaped g.shape ≡ shape (node_of n)) where
  pub begins-first : is_assignment g.shape ≡ false → (child : NodeRecord) → FirstChild table at child → PlansFor g.shape n child known g.plan
      → KeepsIndirect n child known g.indirect → g.next.0 ≡ at + 1 → g.trees ≡ n.children → g.effect ≡ false → g.stops ≡ false → BeginsAt ctx table at known g
  unfolding joined sizes any_has_side_effects
  begins-first a child f p k nx l ef st R d pre m kids rest h =
      let q = f pre m kids rest h in
      let i : g.indirect ≡ keeps_indirect known.name.0 R m kids = rw (node-is e h) (k R d kids q) in
      let planned-so : g.indirect ≡ false → plan ctx known.name.0 R (shape m) m kids ≡ planned g.plan = λ j.
      rw (node-is e h, ← sh) (sym (p ctx R d kids q a (rw (← node-is e h) (sym i ∙ j)))) in (
        none,
        kids,
        record {
          shape_is = rw (node-is e h) sh;
          stops-is = st ∙ rw (node-is e h, ← sh) (no_target ctx R kids g.shape a);
          indirect_is = i;
          whole = refl;
          next-is = omega (arith, nx);
          many = l ∙ children_are e h;
          effect_is = ef;
          rule = λ j. ap (λ x. substitute_in_children ctx known.name.0 R x kids) (planned-so j) ∙ behind-none (substitute_in_children ctx known.name.0 R (planned g.plan) kids);
          looks = λ j. ap (λ x. looks_in_children ctx known.name.0 R x kids) (planned-so j);
        },
      )

-- a plan that searches nothing
module _ (ctx : Context) (x : ℕ) (R : Tree) where
  pub nothing-found : (ts : Trees) → substitute_in_children ctx x R nothing ts ≡ passed
  unfolding substitute_in_children by_plan
  nothing-found none = refl
  nothing-found (more t ts) = refl

  pub nothing-looked : (ts : Trees) → looks_in_children ctx x R nothing ts ≡ 0
  unfolding looks_in_children enters_first goes_on
  nothing-looked none = refl
  nothing-looked (more t ts) = refl

  -- behind a target, and from the target on
  found_behind_target : (t : Tree) (ts : Trees) (stops : Bool)
      → substitute_in_children ctx x R (cond stops nothing value) (more t ts) ≡ in_order t ts passed (substitute_in_children ctx x R (plan_of_value stops) ts)
  unfolding substitute_in_children by_plan in_order next
  found_behind_target t ts true = rw (nothing-found ts) refl
  found_behind_target t ts false = refl

  looked_behind_target : (t : Tree) (ts : Trees) (stops : Bool)
      → looks_in_children ctx x R (cond stops nothing value) (more t ts) ≡ looks_in_children ctx x R (plan_of_value stops) ts
  unfolding looks_in_children enters_first goes_on next
  looked_behind_target t ts true = sym (nothing-looked ts)
  looked_behind_target t ts false = omega arith

-- what the rules say of an assignment
module _ (ctx : Context) (R : Tree) (m : Node) (c : Bool) (sm : shape m ≡ assignment c) (kids : Trees) where
  stops-assigned : stops_at_target ctx R c (first_tree kids) ≡ stops_in ctx R (shape m) kids
  stops-assigned = rw sm refl

  plan-assigned : (x : ℕ) (stops : Bool) → stops ≡ stops_at_target ctx R c (first_tree kids) → plan ctx x R (shape m) m kids ≡ cond stops nothing value
  unfolding plan
  plan-assigned x stops e = rw (sm, e) refl

  not_indirect : (x : ℕ) → false ≡ keeps_indirect x R m kids
  unfolding keeps_indirect
  not_indirect x = rw (no_tag m c sm) refl

-- how many targets there are
one_of : (k many : ℕ) → many ≡ one (not (eqb k 0)) → (i : ℕ) → k ≡ suc i → many ≡ 1
one_of k many o i e = o ∙ rw (ne_eqb k 0 (λ z. omega (arith, z, e))) refl

-- The search of an assignment begins behind its target.
module _ (ctx : Context) {table : List ℕ} {at : ℕ} {n : NodeRecord} (e : n ≡ node_at table (16 * at)) {known : Replacement} {g : Begun} (sh : shaped g.shape ≡ shape (node_of n)) (a : is_assignment g.shape ≡ true) {many : ℕ} (o : many ≡ one (not (eqb n.children 0))) (p : Passes table (at + 1) many g.next.0 g.effect) (c : Bool) (k : c ≡ is_compound_assignment g.shape) (w : StopsAt ctx table (at + 1) many known c g.effect g.stops) (b : planned g.plan ≡ plan_of_value g.stops) (l : g.trees ≡ n.children - many) (i : g.indirect ≡ false) where
  pub begins-behind : BeginsAt ctx table at known g
  unfolding count sizes size joined may_have_side_effects any_has_side_effects has_effect first_tree substitute_in_children looks_in_children
  begins-behind R d pre m none rest h =
      let none-many : many ≡ 0 = o ∙ rw (children_are e h) refl in
      let sm : shape m ≡ assignment c = rw (node-is e h, k) (sym sh ∙ assigns g.shape a) in
      let over = p _ none rest (inside h) (sym none-many) in (
        none,
        none,
        record {
          shape_is = rw (node-is e h) sh;
          stops-is = w R d _ none rest (inside h) (sym none-many) over.1 ∙ stops-assigned ctx R m c sm none;
          indirect_is = i ∙ not_indirect ctx R m c sm none known.name.0;
          whole = refl;
          next-is = over.0;
          many = omega (arith, l, children_are e h);
          effect_is = over.1;
          rule = λ j. refl;
          looks = λ j. refl;
        },
      )
  begins-behind R d pre m (more t ts) rest h =
      let one-many : many ≡ 1 = one_of n.children many o (count ts) (children_are e h) in
      let sm : shape m ≡ assignment c = rw (node-is e h, k) (sym sh ∙ assigns g.shape a) in
      let over = passes-tree (rw one-many at p) (first (inside h)) in
      let st = w R d _ (more t none) (laids ts rest) (first (inside h)) (sym one-many) over.1 in
      let planned-so = plan-assigned ctx R m c sm (more t ts) known.name.0 g.stops st in (
        more t none,
        ts,
        record {
          shape_is = rw (node-is e h) sh;
          stops-is = st ∙ stops-assigned ctx R m c sm (more t ts);
          indirect_is = i ∙ not_indirect ctx R m c sm (more t ts) known.name.0;
          whole = refl;
          next-is = omega (arith, over.0);
          many = omega (arith, l, children_are e h, one-many);
          effect_is = over.1 ∙ sym (or-false (may_have_side_effects t));
          rule = λ j. rw (planned-so, b) (found_behind_target ctx known.name.0 R t ts g.stops ∙ behind-one t ts (substitute_in_children ctx known.name.0 R (plan_of_value g.stops) ts));
          looks = λ j. rw (planned-so, b) (looked_behind_target ctx known.name.0 R t ts g.stops);
        },
      )
