use mathlib.Core.Bool.{true}
use mathlib.Core.Path.{◌≡◌}
use Rattle.records.specs.File.{read}
use Rattle.walk_rules.specs.Context.{context_of}
use Rattle.walk_arms.specs.Arms.{is_all}
use Rattle.walk.specs.Forests.{GoesOn}
use Rattle.walk.proofs.small.pass_small.Given as goal

abbrev pub invariant-loop-left : goal.invariant-loop-left
invariant-loop-left l = record {
  entered : is_all l.left.plan ≡ true;
  passed : GoesOn (context_of (read l.file.bytes.now)) l.replacement l.nodes l.nodes l.fn.forest l.left;
}

abbrev pub decreases-loop-left : goal.decreases-loop-left
decreases-loop-left l = l.left.trees
