-- Where the plan of a search is `tag`, the first child is the name. Assumes nothing.
use Prim.Native.Nat.{ℕ}
use mathlib.Core.Path.{◌≡◌, refl}
use mathlib.Core.Bool.{Bool, true, false, cond, ◌&&◌}
use Rattle.records.specs.Flags.{computed}
use Rattle.records.specs.Tree.{Node, Tree, Trees}
use Rattle.records.specs.File.{first_tree}
use Rattle.records.specs.Place.{root}
use Rattle.records.proofs.Tests.{both}
use Rattle.walk_rules.specs.Context.{Context}
use Rattle.walk_rules.specs.Shape.{is, Choice, never, skips, cuts, picks, Shape, constant, identifier, target_name, leaf, chain, import, delete, sequence, property, stopping, assignment, steps}
use Rattle.walk_rules.specs.Effect.{may_have_side_effects}
use Rattle.walk_rules.specs.Substitute.{Plan, all, first, nothing, value, test, branches, tag, next, is_specific_id, is_member_tag, keeps_indirect, keeps_callee, stops_at_target, plan_for, plan}

module _ (searchFor : ℕ) where
  abbrev pub Tagged : Plan → Trees → Type 0
  Tagged all ts = Unit {0}
  Tagged first ts = Unit {0}
  Tagged nothing ts = Unit {0}
  Tagged value ts = Unit {0}
  Tagged test ts = Unit {0}
  Tagged branches ts = Unit {0}
  Tagged tag ts = is_specific_id searchFor (root (first_tree ts)) ≡ true

  -- no plan goes on with `tag`
  pub next-untagged : (p : Plan) (ts : Trees) → Tagged (next p) ts
  unfolding next
  next-untagged all ts = tt
  next-untagged first ts = tt
  next-untagged nothing ts = tt
  next-untagged value ts = tt
  next-untagged test ts = tt
  next-untagged branches ts = tt
  next-untagged tag ts = tt

  either-tagged : (b : Bool) (p q : Plan) (ts : Trees) → Tagged p ts → Tagged q ts → Tagged (cond b p q) ts
  either-tagged true p q ts x y = x
  either-tagged false p q ts x y = y

module _ (ctx : Context) (searchFor : ℕ) (replacement : Tree) where
  tag_or_all : (b : Bool) (n : Node) (ts : Trees) → keeps_indirect searchFor replacement n ts ≡ b → Tagged searchFor (cond b tag all) ts
  unfolding keeps_indirect
  tag_or_all true n ts e =
      let named = is_specific_id searchFor (root (first_tree ts)) in
      (both (is 24 n) named (both (is 24 n && named) (is_member_tag replacement) e).0).1
  tag_or_all false n ts e = tt

  plan_for_lem : (c : Choice) (n : Node) (ts : Trees) → Tagged searchFor (plan_for ctx searchFor replacement c n ts) ts
  unfolding plan_for
  plan_for_lem never n ts = tag_or_all (keeps_indirect searchFor replacement n ts) n ts refl
  plan_for_lem skips n ts = either-tagged searchFor (may_have_side_effects replacement) first all ts tt tt
  plan_for_lem cuts n ts = either-tagged searchFor (may_have_side_effects replacement) first all ts tt tt
  plan_for_lem picks n ts = either-tagged searchFor (may_have_side_effects replacement) first test ts tt tt

  pub tagged : (sh : Shape) (n : Node) (ts : Trees) → Tagged searchFor (plan ctx searchFor replacement sh n ts) ts
  unfolding plan
  tagged constant n ts = tt
  tagged identifier n ts = tt
  tagged target_name n ts = tt
  tagged leaf n ts = tt
  tagged chain n ts = tt
  tagged import n ts = tt
  tagged delete n ts = tt
  tagged sequence n ts = tt
  tagged property n ts = either-tagged searchFor (computed n.flags) nothing all ts tt tt
  tagged stopping n ts = tt
  tagged (assignment c) n ts = either-tagged searchFor (stops_at_target ctx replacement c (first_tree ts)) nothing value ts tt tt
  tagged (steps c) n ts = either-tagged searchFor (keeps_callee replacement n ts) nothing (plan_for ctx searchFor replacement c n ts) ts tt (plan_for_lem c n ts)
