use mathlib.Core.Path.{◌≡◌, refl, sym, ◌∙◌}
use mathlib.Core.Bool.{true}
use Rattle.records.proofs.Names.{node-judged}
use Rattle.records_tests.proofs.Judged.{flagged, bad_kind, bad_position, bad_zero, bad_flags, bad_children, named-judged, unnamed-judged, flagless, parent_unnamed}
use Rattle.records_tests.proofs.node.node_is_good.Goals as goal
use Rattle.records_tests.proofs.node.node_is_good.Goals.{Joined-n-gt0-2, then-n-gt0-2+else-not-flags_are_good, else-n-gt0-2}

pub returns-then-n-gt-OPAQUE_TARGET : goal.returns-then-n-gt-OPAQUE_TARGET
returns-then-n-gt-OPAQUE_TARGET c = record { result = node-judged _ _ _ c.args.n refl (bad_kind _ _ c.args.n c.if-n-gt-OPAQUE_TARGET.true) }

pub returns-then-n-eq-NO_POSITION : goal.returns-then-n-eq-NO_POSITION
returns-then-n-eq-NO_POSITION c = record { result = node-judged _ _ _ c.args.n refl (bad_position _ _ c.args.n c.if-n-eq-NO_POSITION.true) }

pub returns-then-n-gt0 : goal.returns-then-n-gt0
returns-then-n-gt0 c = record { result = node-judged _ _ _ c.args.n refl (bad_zero _ _ c.args.n c.if-n-gt0.true) }

pub returns-then-not-flags_are_good : goal.returns-then-not-flags_are_good
returns-then-not-flags_are_good c = record { result = node-judged _ _ _ c.args.n refl (bad_flags _ _ c.args.n (sym c.flags_are_good.ensures.result ∙ c.if-not-flags_are_good.true)) }

pub returns-then-not-children_are_good : goal.returns-then-not-children_are_good
returns-then-not-children_are_good c = record { result = node-judged _ _ _ c.args.n refl (bad_children _ _ c.args.n (sym c.children_are_good.ensures.result ∙ c.if-not-children_are_good.true)) }

-- the flags of a node that has passed their test
flags-good : (c : Joined-n-gt0-2) → flagged c.args.n ≡ true
flags-good c =
    elim c.if-n-gt0-2.branch [
      | then-n-gt0-2+else-not-flags_are_good w ↦ sym w.flags_are_good.ensures.result ∙ w.if-not-flags_are_good.false
      | else-n-gt0-2 w ↦ flagless c.args.n w.if-n-gt0-2.false
    ]

pub returns-then-named : goal.returns-then-named
returns-then-named c = record { result = node-judged _ _ _ c.args.n refl (named-judged _ _ c.args.n c.if-n-gt-OPAQUE_TARGET.false c.if-n-eq-NO_POSITION.false c.if-n-gt0.false (flags-good (goal.at.returns-then-named c).Joined-n-gt0-2) (sym c.children_are_good.ensures.result ∙ c.if-not-children_are_good.false) _ c.if-named.true c.label_is_good.ensures.result) }

pub returns-else-named : goal.returns-else-named
returns-else-named c = record { result = node-judged _ _ _ c.args.n refl (unnamed-judged _ _ c.args.n c.if-n-gt-OPAQUE_TARGET.false c.if-n-eq-NO_POSITION.false c.if-n-gt0.false (flags-good (goal.at.returns-else-named c).Joined-n-gt0-2) (sym c.children_are_good.ensures.result ∙ c.if-not-children_are_good.false) c.if-named.false) }

pub returns-else-n-eq0 : goal.returns-else-n-eq0
returns-else-n-eq0 c = record { result = node-judged _ _ _ c.args.n refl (unnamed-judged _ _ c.args.n c.if-n-gt-OPAQUE_TARGET.false c.if-n-eq-NO_POSITION.false c.if-n-gt0.false (flags-good (goal.at.returns-else-n-eq0 c).Joined-n-gt0-2) (sym c.children_are_good.ensures.result ∙ c.if-not-children_are_good.false) (parent_unnamed c.args.n (sym c.children_are_good.ensures.result ∙ c.if-not-children_are_good.false) c.if-n-eq0.false)) }
