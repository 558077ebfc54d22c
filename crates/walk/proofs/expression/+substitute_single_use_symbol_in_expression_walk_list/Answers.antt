-- The calls of the walk and of the list walk, and what both return, by the laws of `Cycle`.
use Prim.Native.Nat.{ℕ, ◌+◌, ◌-◌, ◌*◌, ◌≤◌, ◌<◌}
use native.Mathlib.Omega.{arith}
use mathlib.Core.Bool.{false}
use mathlib.Core.Path.{refl, sym, ap, ◌∙◌}
use lib.ListN.{length}
use Rattle.records.specs.File.{read}
use Rattle.records.specs.Tree.{sizes}
use Rattle.records_table.specs.Laid.{forest_at}
use Rattle.walk_arms.specs.Search.{SearchableForest}
use Rattle.walk_rules.specs.Context.{context_of}
use Rattle.walk_arms.specs.declared.arms.Plan.TheVariants.{All}
use Rattle.walk_arms.specs.Answers.{is_replaced}
use Rattle.walk.specs.declared.forest.Forest.{Forest}
use Rattle.walk.proofs.Searching.{SeeksForest, searchable-room, forest_stands, searches, searches_forest, sought_forest, here_found, tag-here, node-searched}
use Rattle.walk.proofs.Rest.{goes_further}
use Rattle.walk.specs.Forests.{GoesOn}
use Rattle.records.specs.declared.layout.NodeId.{NodeId}
use Rattle.walk_arms.specs.declared.arms.Plan.{Plan}
use Rattle.walk.proofs.Cycle.{is_one_of, one_seek, came, forest_looks-most, rest-searchable, first_child, others-searchable, list_none, list_nothing, list_replaced, list_stopped, list_branches, list_next, list_call, child_call, list_looks, next-looks}
use Rattle.walk.proofs.expression.+substitute_single_use_symbol_in_expression_walk_list.Goals as goal
use Rattle.walk.proofs.expression.+substitute_single_use_symbol_in_expression_walk_list.Goals.{
  substitute_single_use_symbol_in_expression-Joined-is_one,
  substitute_single_use_symbol_in_expression-then-is_one,
  substitute_single_use_symbol_in_expression-else-is_one,
  walk_list-After-pass_small-forest,
  walk_list-In-Stopped,
}

-- the children were searched, by the walk where there is one, else by the list walk
searched_children : (t : ℕ) (c : substitute_single_use_symbol_in_expression-Joined-is_one t)
    → SeeksForest (context_of (read c.args.file.now.bytes.now)) c.args.replacement c.args.nodes.now c.if-is_one.nodes c.begin-begun.result.next.0 c.begin-begun.result.trees c.begin-begun.result.plan c.if-is_one.children
searched_children t c =
    let ctx = context_of (read c.args.file.now.bytes.now) in
    elim c.if-is_one.branch [
      | substitute_single_use_symbol_in_expression-then-is_one w ↦
          let one = is_one_of c.begin-begun.result.trees c.begin-begun.result.plan (sym c.is_one.ensures.result ∙ w.if-is_one.true) in
          came ctx c.args.replacement c.begin-begun.result.plan w.nodes-is w.children-is
          (one_seek ctx c.args.replacement c.begin-begun.result.trees c.begin-begun.result.plan one.0 one.1 w.substitute_single_use_symbol_in_expression-children.ensures.result)
      | substitute_single_use_symbol_in_expression-else-is_one w ↦
          came ctx c.args.replacement c.begin-begun.result.plan w.nodes-is w.children-is
          (sought_forest ctx c.args.replacement _ _ _ _ c.begin-begun.result.plan _ w.walk_list-children.ensures.result)
    ]

-- what the list walk begins with
abbrev starting : NodeId → ℕ → Plan → Forest
starting at many plan = record { next = at; trees = many; plan = plan; effect = false; looks = 0 }

-- it has gone on to where the next tree isn't small
gone_on : (t : ℕ) (c : walk_list-After-pass_small-forest t)
    → GoesOn (context_of (read c.args.file.now.bytes.now)) c.args.replacement c.args.nodes.now c.loop-forest.nodes (starting c.args.at c.args.many c.args.plan) c.pass_small-forest.result
gone_on t c =
    goes_further (context_of (read c.args.file.now.bytes.now)) c.args.replacement c.args.nodes.now c.loop-forest.nodes c.loop-forest.nodes (starting c.args.at c.args.many c.args.plan) c.loop-forest.forest c.pass_small-forest.result c.loop-forest.invariant.0 c.pass_small-forest.ensures.result

-- the trees that are left can be searched, and are no more than all
rest_left : (t : ℕ) (c : walk_list-After-pass_small-forest t)
    → SearchableForest c.loop-forest.nodes c.pass_small-forest.result.next.0 c.pass_small-forest.result.trees
    × (sizes (forest_at c.loop-forest.nodes c.pass_small-forest.result.next.0 c.pass_small-forest.result.trees) ≤ sizes (forest_at c.args.nodes.now c.args.at.0 c.args.many))
rest_left t c =
    rest-searchable (context_of (read c.args.file.now.bytes.now)) c.args.replacement (starting c.args.at c.args.many c.args.plan) c.pass_small-forest.result (gone_on t c) c.requires.described c.requires.trees

-- so can those behind the first of them, and they are fewer
others_left : (t : ℕ) (c : walk_list-In-Stopped t) → SearchableForest c.loop-forest.nodes c.pass_small-forest.result.next.0 c.pass_small-forest.result.trees
    → SearchableForest c.substitute_single_use_symbol_in_expression-first.new.nodes c.substitute_single_use_symbol_in_expression-first.result.end.0 (c.pass_small-forest.result.trees - 1)
    × (sizes (forest_at c.substitute_single_use_symbol_in_expression-first.new.nodes c.substitute_single_use_symbol_in_expression-first.result.end.0 (c.pass_small-forest.result.trees - 1)) < sizes (forest_at c.loop-forest.nodes c.pass_small-forest.result.next.0 c.pass_small-forest.result.trees))
others_left t c rest =
    others-searchable (context_of (read c.args.file.now.bytes.now)) c.args.replacement c.substitute_single_use_symbol_in_expression-first.ensures.result c.requires.described c.if-forest-eq0.false
    (ap is_replaced c.in-Stopped.is) rest

pub substitute_single_use_symbol_in_expression-work_node-n-requires : goal.substitute_single_use_symbol_in_expression-work_node-n-requires
substitute_single_use_symbol_in_expression-work_node-n-requires t c =
    record { node = searchable-room c.requires.tree }

pub substitute_single_use_symbol_in_expression-returns-then-is_specific_id : goal.substitute_single_use_symbol_in_expression-returns-then-is_specific_id
substitute_single_use_symbol_in_expression-returns-then-is_specific_id t c =
    let ctx = context_of (read c.args.file.now.bytes.now) in
    record {
      result =
          searches ctx c.args.replacement c.args.nodes.now c.args.nodes.now c.args.at.0 _ c.requires.tree
          (here_found ctx c.args.replacement c.args.nodes.now c.args.at _ c.work_node-n.result c.work_node-n.ensures.result
          (sym c.is_specific_id.ensures.result ∙ c.if-is_specific_id.true) c.replaced.ensures.result);
    }

pub substitute_single_use_symbol_in_expression-returns-then-begun : goal.substitute_single_use_symbol_in_expression-returns-then-begun
substitute_single_use_symbol_in_expression-returns-then-begun t c =
    let ctx = context_of (read c.args.file.now.bytes.now) in
    record {
      result =
          searches ctx c.args.replacement c.args.nodes.now c.args.nodes.now c.args.at.0 _ c.requires.tree
          (tag-here ctx c.args.replacement c.args.nodes.now c.args.at _ _ c.work_node-n.result c.begin-begun.result c.work_node-n.ensures.result refl
          (sym c.is_specific_id.ensures.result ∙ c.if-is_specific_id.false) c.begin-begun.ensures.result c.if-begun.true c.replaced-then-begun.ensures.result);
    }

pub substitute_single_use_symbol_in_expression-substitute_single_use_symbol_in_expression-children-requires : goal.substitute_single_use_symbol_in_expression-substitute_single_use_symbol_in_expression-children-requires
substitute_single_use_symbol_in_expression-substitute_single_use_symbol_in_expression-children-requires t c =
    let ctx = context_of (read c.args.file.now.bytes.now) in
    let one = is_one_of c.begin-begun.result.trees c.begin-begun.result.plan (sym c.is_one.ensures.result ∙ c.if-is_one.true) in
    let child = child_call ctx c.begin-begun.ensures.result c.requires.described c.requires.tree one.0 in
    (omega (arith, c.decreases, child.1), (child.0, c.requires.described))

pub substitute_single_use_symbol_in_expression-walk_list-children-requires : goal.substitute_single_use_symbol_in_expression-walk_list-children-requires
substitute_single_use_symbol_in_expression-walk_list-children-requires t c =
    let ctx = context_of (read c.args.file.now.bytes.now) in
    let kids = list_call ctx c.begin-begun.ensures.result c.requires.described c.requires.tree in
    (omega (arith, c.decreases, kids.1), (kids.0, c.requires.described))

pub substitute_single_use_symbol_in_expression-of_children-requires-clause-record : goal.substitute_single_use_symbol_in_expression-of_children-requires-clause-record
substitute_single_use_symbol_in_expression-of_children-requires-clause-record t c =
    let room : 16 * c.args.at.0 + 16 ≤ length c.args.nodes.now = searchable-room c.requires.tree in
    omega (arith, c.if-is_one.auto.nodes)

pub substitute_single_use_symbol_in_expression-of_children-requires-clause-looks : goal.substitute_single_use_symbol_in_expression-of_children-requires-clause-looks
substitute_single_use_symbol_in_expression-of_children-requires-clause-looks t c =
    let ctx = context_of (read c.args.file.now.bytes.now) in
    let kids = list_call ctx c.begin-begun.ensures.result c.requires.described c.requires.tree in
    let searched = searched_children t (goal.at.substitute_single_use_symbol_in_expression-of_children-requires-clause-looks t c).Joined-is_one in
    omega (
      arith,
      forest_looks-most ctx {table' = c.if-is_one.nodes} c.begin-begun.result.plan {r = c.if-is_one.children} searched c.requires.described kids.0,
      c.well_formed,
    )

pub substitute_single_use_symbol_in_expression-returns : goal.substitute_single_use_symbol_in_expression-returns
substitute_single_use_symbol_in_expression-returns t c =
    let ctx = context_of (read c.args.file.now.bytes.now) in
    let searched = searched_children t (goal.at.substitute_single_use_symbol_in_expression-returns t c).Joined-is_one in
    record {
      result =
          searches ctx c.args.replacement c.args.nodes.now _ c.args.at.0 _ c.requires.tree
          (node-searched ctx c.args.replacement c.if-is_one.nodes _ c.args.at.0 c.if-is_one.children _ c.work_node-n.result c.work_node-n.ensures.result
          (sym c.is_specific_id.ensures.result ∙ c.if-is_specific_id.false) c.begin-begun.ensures.result c.if-begun.false searched c.of_children.ensures.result);
    }

pub walk_list-pass_small-forest-requires-clause-looks : goal.walk_list-pass_small-forest-requires-clause-looks
walk_list-pass_small-forest-requires-clause-looks t c =
    let ctx = context_of (read c.args.file.now.bytes.now) in
    let start = starting c.args.at c.args.many c.args.plan in
    omega (
      arith,
      list_looks ctx c.args.replacement start c.loop-forest.forest c.loop-forest.invariant.0 refl c.requires.described c.requires.trees,
      c.loop-forest.invariant.1,
    )

pub walk_list-returns-then-forest-eq0 : goal.walk_list-returns-then-forest-eq0
walk_list-returns-then-forest-eq0 t c =
    let ctx = context_of (read c.args.file.now.bytes.now) in
    let on = gone_on t (goal.at.walk_list-returns-then-forest-eq0 t c).After-pass_small-forest in
    record {
      result =
          searches_forest ctx c.args.replacement c.args.nodes.now c.loop-forest.nodes c.args.at.0 c.args.many c.args.plan _ c.requires.trees
          (list_none ctx c.args.replacement c.args.nodes.now c.loop-forest.nodes c.args.at c.args.many c.args.plan c.pass_small-forest.result on _ c.if-forest-eq0.true c.passed.ensures.result);
    }

pub walk_list-returns-then-is_nothing : goal.walk_list-returns-then-is_nothing
walk_list-returns-then-is_nothing t c =
    let ctx = context_of (read c.args.file.now.bytes.now) in
    let on = gone_on t (goal.at.walk_list-returns-then-is_nothing t c).After-pass_small-forest in
    record {
      result =
          searches_forest ctx c.args.replacement c.args.nodes.now c.loop-forest.nodes c.args.at.0 c.args.many c.args.plan _ c.requires.trees
          (list_nothing ctx c.args.replacement c.args.nodes.now c.loop-forest.nodes c.args.at c.args.many c.args.plan c.pass_small-forest.result on _ c.pass_forest-others.result.next c.pass_forest-others.result.effect
          (sym c.is_nothing.ensures.result ∙ c.if-is_nothing.true) c.pass_forest-others.ensures.result c.passed-then-is_nothing.ensures.result);
    }

pub walk_list-substitute_single_use_symbol_in_expression-first-requires : goal.walk_list-substitute_single_use_symbol_in_expression-first-requires
walk_list-substitute_single_use_symbol_in_expression-first-requires t c =
    let at = goal.at.walk_list-substitute_single_use_symbol_in_expression-first-requires t c in
    let rest = rest_left t at.After-pass_small-forest in
    let first = first_child c.if-forest-eq0.false rest.0 in
    (omega (arith, c.decreases, first.1, rest.1), (first.0, c.requires.described))

pub walk_list-overflow_add-looks : goal.walk_list-overflow_add-looks
walk_list-overflow_add-looks t c =
    let ctx = context_of (read c.args.file.now.bytes.now) in
    let start = starting c.args.at c.args.many c.args.plan in
    let on = gone_on t (goal.at.walk_list-overflow_add-looks t c).After-pass_small-forest in
    omega (
      arith,
      next-looks ctx c.args.replacement start c.pass_small-forest.result on refl c.requires.described c.requires.trees _ c.substitute_single_use_symbol_in_expression-first.result c.substitute_single_use_symbol_in_expression-first.ensures.result c.if-forest-eq0.false (sym c.is_nothing.ensures.result ∙ c.if-is_nothing.false),
      c.well_formed,
    )

pub walk_list-returns-in-Replaced : goal.walk_list-returns-in-Replaced
walk_list-returns-in-Replaced t c =
    let ctx = context_of (read c.args.file.now.bytes.now) in
    let on = gone_on t (goal.at.walk_list-returns-in-Replaced t c).After-pass_small-forest in
    record {
      result =
          searches_forest ctx c.args.replacement c.args.nodes.now _ c.args.at.0 c.args.many c.args.plan _ c.requires.trees
          (list_replaced ctx c.args.replacement c.args.nodes.now c.loop-forest.nodes c.args.at c.args.many c.args.plan c.pass_small-forest.result on _ c.substitute_single_use_symbol_in_expression-first.result c.substitute_single_use_symbol_in_expression-first.ensures.result c.if-forest-eq0.false
          (sym c.is_nothing.ensures.result ∙ c.if-is_nothing.false) _ _ _ c.in-Replaced.is refl);
    }

pub walk_list-walk_list-other-requires : goal.walk_list-walk_list-other-requires
walk_list-walk_list-other-requires t c =
    let at = goal.at.walk_list-walk_list-other-requires t c in
    let rest = rest_left t at.After-pass_small-forest in
    let others = others_left t at.In-Stopped rest.0 in
    (omega (arith, c.decreases, others.1, rest.1), (others.0, c.requires.described))

pub walk_list-overflow_add-result : goal.walk_list-overflow_add-result
walk_list-overflow_add-result t c =
    let ctx = context_of (read c.args.file.now.bytes.now) in
    let start = starting c.args.at c.args.many c.args.plan in
    let on = gone_on t (goal.at.walk_list-overflow_add-result t c).After-pass_small-forest in
    let at = goal.at.walk_list-overflow_add-result t c in
    let rest = rest_left t at.After-pass_small-forest in
    let others = others_left t at.In-Stopped rest.0 in
    omega (
      arith,
      next-looks ctx c.args.replacement start c.pass_small-forest.result on refl c.requires.described c.requires.trees _ c.substitute_single_use_symbol_in_expression-first.result c.substitute_single_use_symbol_in_expression-first.ensures.result c.if-forest-eq0.false (sym c.is_nothing.ensures.result ∙ c.if-is_nothing.false),
      forest_looks-most ctx All (sought_forest ctx c.args.replacement _ _ _ _ All _ c.walk_list-other.ensures.result) c.requires.described others.0,
      c.substitute_single_use_symbol_in_expression-first.auto.nodes ∙ c.loop-forest.invariant.1,
      c.well_formed,
    )

pub walk_list-returns-then-is_branches : goal.walk_list-returns-then-is_branches
walk_list-returns-then-is_branches t c =
    let ctx = context_of (read c.args.file.now.bytes.now) in
    let on = gone_on t (goal.at.walk_list-returns-then-is_branches t c).After-pass_small-forest in
    record {
      result =
          searches_forest ctx c.args.replacement c.args.nodes.now _ c.args.at.0 c.args.many c.args.plan _ c.requires.trees
          (list_branches ctx c.args.replacement c.args.nodes.now c.loop-forest.nodes c.args.at c.args.many c.args.plan c.pass_small-forest.result on _ c.substitute_single_use_symbol_in_expression-first.result c.substitute_single_use_symbol_in_expression-first.ensures.result c.if-forest-eq0.false
          (sym c.is_nothing.ensures.result ∙ c.if-is_nothing.false) c.in-Stopped.is _ _
          c.walk_list-other.result (sym c.is_branches.ensures.result ∙ c.if-is_branches.true) c.walk_list-other.ensures.result (rw c.either.ensures.result refl));
    }

pub walk_list-pass_forest-requires : goal.walk_list-pass_forest-requires
walk_list-pass_forest-requires t c =
    let at = goal.at.walk_list-pass_forest-requires t c in
    let rest = rest_left t at.After-pass_small-forest in
    let others = others_left t at.In-Stopped rest.0 in
    record { trees = forest_stands others.0 }

pub walk_list-returns-in-Stopped : goal.walk_list-returns-in-Stopped
walk_list-returns-in-Stopped t c =
    let ctx = context_of (read c.args.file.now.bytes.now) in
    let on = gone_on t (goal.at.walk_list-returns-in-Stopped t c).After-pass_small-forest in
    record {
      result =
          searches_forest ctx c.args.replacement c.args.nodes.now _ c.args.at.0 c.args.many c.args.plan _ c.requires.trees
          (list_stopped ctx c.args.replacement c.args.nodes.now c.loop-forest.nodes c.args.at c.args.many c.args.plan c.pass_small-forest.result on _ c.substitute_single_use_symbol_in_expression-first.result c.substitute_single_use_symbol_in_expression-first.ensures.result c.if-forest-eq0.false
          (sym c.is_nothing.ensures.result ∙ c.if-is_nothing.false) c.in-Stopped.is _
          c.pass_forest.result.next c.pass_forest.result.effect
          (sym c.is_branches.ensures.result ∙ c.if-is_branches.false) c.pass_forest.ensures.result c.stopped.ensures.result);
    }

pub walk_list-loop-forest-smaller : goal.walk_list-loop-forest-smaller
walk_list-loop-forest-smaller t c =
    let ctx = context_of (read c.args.file.now.bytes.now) in
    let start = starting c.args.at c.args.many c.args.plan in
    let at = goal.at.walk_list-loop-forest-smaller t c in
    let rest = rest_left t at.After-pass_small-forest in
    let before = rest-searchable ctx c.args.replacement start c.loop-forest.forest c.loop-forest.invariant.0 c.requires.described c.requires.trees in
    rw c.behind-forest.ensures.result
    (omega (
      arith,
      (others-searchable ctx c.args.replacement c.substitute_single_use_symbol_in_expression-first.ensures.result c.requires.described c.if-forest-eq0.false (ap is_replaced c.in-Passed.is) rest.0).1,
      (rest-searchable ctx c.args.replacement c.loop-forest.forest c.pass_small-forest.result c.pass_small-forest.ensures.result c.requires.described before.0).1,
    ))

pub walk_list-loop-forest-preserved : goal.walk_list-loop-forest-preserved
walk_list-loop-forest-preserved t c =
    let ctx = context_of (read c.args.file.now.bytes.now) in
    let start = starting c.args.at c.args.many c.args.plan in
    let on = gone_on t (goal.at.walk_list-loop-forest-preserved t c).After-pass_small-forest in (
      list_next ctx c.args.replacement c.loop-forest.nodes _ c.pass_small-forest.result c.substitute_single_use_symbol_in_expression-first.result _ c.substitute_single_use_symbol_in_expression-first.ensures.result (sym c.is_nothing.ensures.result ∙ c.if-is_nothing.false) c.in-Passed.is
          c.args.nodes.now start _ c.behind-forest.result.plan c.behind-forest.ensures.plan on c.if-forest-eq0.false c.behind-forest.ensures.result,
      c.substitute_single_use_symbol_in_expression-first.auto.nodes ∙ c.loop-forest.invariant.1,
    )
