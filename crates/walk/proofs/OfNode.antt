-- The search of a node, from what it did of its children. Assumes nothing.
use Prim.Native.Nat.{ℕ, suc, ◌+◌, ◌*◌}
use native.Mathlib.Omega.{arith}
use mathlib.Core.Bool.{Bool, true, false, cond, ◌||◌}
use mathlib.Core.List.{List, ◌++◌}
use mathlib.Core.Path.{◌≡◌, refl, sym, ap, ◌∙◌, subst}
use lib.ListN.{set}
use Rattle.records.specs.Tree.{Node, Tree, Trees, node, count, size, record_of, node_of}
use Rattle.records.specs.declared.layout.NodeRecord.{NodeRecord}
use Rattle.records.proofs.Tests.{clash}
use Rattle.records_table.specs.Table.{work_bytes}
use Rattle.records_table.specs.Laid.{At, TreeAt}
use Rattle.records_table.proofs.Laid.{outside, flagged}
use Rattle.walk_rules.specs.Context.{Context}
use Rattle.walk_rules.specs.Shape.{shape as shape_of, cleared}
use Rattle.walk_rules.specs.Effect.{has_effect, may_have_side_effects}
use Rattle.walk_rules.specs.Looks.{own_looks}
use Rattle.walk_rules.specs.Substitute.{Answer as RuleAnswer, passed, may_pass, of_node}
use Rattle.walk_arms.specs.declared.arms.Begun.{Begun}
use Rattle.walk_arms.specs.declared.replacement.Replacement.{Replacement}
use Rattle.walk_arms.specs.declared.walked.Answer.{Answer}
use Rattle.walk_arms.specs.declared.walked.Answer.TheVariants.{Replaced, Stopped, Passed}
use Rattle.walk_arms.specs.declared.walked.Walked.{Walked}
use Rattle.walk_arms.specs.Arms.{stops_in, MayPass}
use Rattle.walk_arms.specs.Answers.{is_passed, behind, told, told_forest}
use Rattle.walk_arms.specs.Search.{Did, DidForest}
use Rattle.walk.specs.Node.{OfChildren}
use Rattle.walk.proofs.Putting.{node-besides, node-told}

-- a node's record gives the node
pub node_of_lem : (n : Node) (k : ℕ) → node_of (record_of n k) ≡ n
unfolding node_of record_of
node_of_lem n k = refl

-- the bytes of a node's record
abbrev head_of : Node → Trees → List ℕ
head_of n kids = work_bytes (record_of n (count kids))

-- a shorthand is one no longer
clear_at : {table : List ℕ} {at : ℕ} {pre rest : List ℕ} (n : Node) (kids held : Trees) → count held ≡ count kids → At table (at + 1) held (pre ++ head_of n kids) rest → TreeAt (set table (16 * at + 1) (cleared n).flags) at (node (cleared n) held) pre rest
unfolding cleared
clear_at n kids held c h = flagged (cleared n).flags (outside (count kids) c h)

-- an effect before an answer that is given changes nothing
behind-given : (effect : Bool) (w : Answer) → is_passed w ≡ false → behind effect w ≡ w
behind-given effect (Replaced place indirect) h = refl
behind-given effect Stopped h = refl
behind-given effect (Passed acts) h = clash true h refl

passed_is : (effect : Bool) (at : ℕ) (replacement : Tree) (held : Trees) {b : RuleAnswer Trees} → told_forest (Passed effect) at replacement held ≡ b → b ≡ passed
unfolding told_forest
passed_is effect at replacement held e = sym e

module _ (name : ℕ) (replacement : Tree) {table : List ℕ} {at : ℕ} {pre rest : List ℕ} (n : Node) (kids held : Trees) (b : RuleAnswer Trees) where
  -- the children gave an answer
  clearing : {w : Answer} {end : ℕ} (pass : Bool) → is_passed w ≡ false → DidForest table (at + 1) kids (pre ++ head_of n kids) rest name replacement w end b held
      → Did (set table (16 * at + 1) (cleared n).flags) at (node n kids) pre rest name replacement w end (of_node n kids pass b) (node (cleared n) held)
  unfolding size
  clearing {w} {end} pass o d = record {
    here = clear_at n kids held d.many d.here;
    says = node-told name at replacement n kids held end w o d.besides pass ∙ ap (of_node n kids pass) d.says;
    besides = node-besides name at replacement n kids held end w o d.besides;
    same = ap suc d.same;
  }

  -- they are passed
  module _ {effect : Bool} {end : ℕ} (d : DidForest table (at + 1) kids (pre ++ head_of n kids) rest name replacement (Passed effect) end b held) where
    stands : TreeAt table at (node n kids) pre rest
    stands = outside (count kids) refl (subst (λ ts. At table (at + 1) ts (pre ++ head_of n kids) rest) d.besides.0 d.here)

    passing : (pass : Bool) → pass ≡ true → (own : Bool) → own ≡ (has_effect n || effect) → Did table at (node n kids) pre rest name replacement (Passed own) end (of_node n kids pass b) (node n kids)
    unfolding of_node told size may_have_side_effects
    passing pass p own o = record {
      here = stands;
      says = rw (passed_is effect (at + 1) replacement held d.says, p) refl;
      besides = (refl, omega (arith, d.besides.1), o ∙ ap (λ x. has_effect n || x) d.besides.2);
      same = refl;
    }

    stopping : (pass : Bool) → pass ≡ false → Did table at (node n kids) pre rest name replacement Stopped end (of_node n kids pass b) (node n kids)
    unfolding of_node told size
    stopping pass p = record { here = stands; says = rw (passed_is effect (at + 1) replacement held d.says, p) refl; besides = omega (arith, d.besides.1); same = refl }

-- What the code does of a node, by its record.
module _ (ctx : Context) (table : List ℕ) (at : ℕ) (n : NodeRecord) (g : Begun) (known : Replacement) (children r : Walked) where
  pub of_answered : (flags looks : ℕ) (table' : List ℕ) → flags ≡ (cleared (node_of n)).flags → table' ≡ set table (16 * at + 1) flags → looks ≡ own_looks (node_of n) → is_passed children.answer ≡ false
      → r ≡ record { answer = children.answer; end = children.end; looks = looks + children.looks } → OfChildren ctx table table' at n g known children r
  unfolding node_of record_of
  of_answered flags looks table' f t l o e replacement d pre m kids rest b held z u v w =
      let f' : flags ≡ (cleared m).flags = subst (λ x. flags ≡ (cleared (node_of x)).flags) z f in
      let l' : looks ≡ own_looks m = subst (λ x. looks ≡ own_looks (node_of x)) z l in
      let w' = subst (λ a. DidForest table (at + 1) kids (pre ++ head_of m kids) rest known.name.0 replacement a children.end.0 b held) (behind-given g.effect children.answer o) w in
      rw (e, t, f') (node (cleared m) held, clearing known.name.0 replacement m kids held b (may_pass ctx known.name.0 replacement (shape_of m) m kids) o w', ap (λ x. x + children.looks) l')

  -- the children are passed
  pub of_passed : (acts own pass : Bool) (looks : ℕ) → children.answer ≡ Passed acts → own ≡ has_effect (node_of n) → looks ≡ own_looks (node_of n)
      → MayPass ctx g.shape n known own (g.effect || acts) g.stops pass
      → r ≡ cond pass (record { answer = Passed (own || (g.effect || acts)); end = children.end; looks = looks + children.looks }) (record { answer = Stopped; end = children.end; looks = looks + children.looks })
      → OfChildren ctx table table at n g known children r
  unfolding node_of record_of
  of_passed acts own pass looks a o l p e replacement d pre m kids rest b held z u v w =
      let o' : own ≡ has_effect m = subst (λ x. own ≡ has_effect (node_of x)) z o in
      let l' : looks ≡ own_looks m = subst (λ x. looks ≡ own_looks (node_of x)) z l in
      let w' = subst (λ a. DidForest table (at + 1) kids (pre ++ head_of m kids) rest known.name.0 replacement (behind g.effect a) children.end.0 b held) a w in
      let p' = subst (λ x. MayPass ctx g.shape x known own (g.effect || acts) g.stops pass) z p replacement d kids o' w'.besides.2 (v ∙ ap (λ x. stops_in ctx replacement x kids) (sym u)) in
      let q : may_pass ctx known.name.0 replacement (shape_of m) m kids ≡ pass = ap (λ x. may_pass ctx known.name.0 replacement x m kids) (sym u) ∙ sym p' in
      by pass q e w' o' l'
    where
      by : (pass : Bool) → may_pass ctx known.name.0 replacement (shape_of m) m kids ≡ pass
          → r ≡ cond pass (record { answer = Passed (own || (g.effect || acts)); end = children.end; looks = looks + children.looks }) (record { answer = Stopped; end = children.end; looks = looks + children.looks })
          → DidForest table (at + 1) kids (pre ++ head_of m kids) rest known.name.0 replacement (Passed (g.effect || acts)) children.end.0 b held → own ≡ has_effect m → looks ≡ own_looks m
          → (held' : Tree) × Did table at (node m kids) pre rest known.name.0 replacement r.answer r.end.0 (of_node m kids (may_pass ctx known.name.0 replacement (shape_of m) m kids) b) held' × (r.looks ≡ own_looks m + children.looks)
      by true q e w o l = rw e (node m kids, passing known.name.0 replacement m kids held b w (may_pass ctx known.name.0 replacement (shape_of m) m kids) q (own || (g.effect || acts)) (ap (λ x. x || (g.effect || acts)) o), ap (λ x. x + children.looks) l)
      by false q e w o l = rw e (node m kids, stopping known.name.0 replacement m kids held b w (may_pass ctx known.name.0 replacement (shape_of m) m kids) q, ap (λ x. x + children.looks) l)
