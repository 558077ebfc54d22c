use native.Mathlib.Omega.{arith}
use mathlib.Core.Path.{refl}
use Rattle.records.specs.File.{read}
use Rattle.walk_rules.specs.Context.{context_of}
use Rattle.walk_arms.proofs.Children.{first-stands}
use Rattle.walk.proofs.Rest.{rest-stands, small-bounds, small-passed}
use Rattle.walk.proofs.small.pass_small.Goals as goal

pub small_at-requires : goal.small_at-requires
small_at-requires c = record { tree = first-stands c.loop-left-test.true (rest-stands (context_of (read c.args.file.now.bytes.now)) c.args.replacement c.args.nodes.now c.args.nodes.now c.args.forest c.loop-left.left c.loop-left.invariant.passed c.requires.described c.requires.trees) }

pub overflow_add-left : goal.overflow_add-left
overflow_add-left c = omega (arith, small-bounds (context_of (read c.args.file.now.bytes.now)) c.args.replacement c.args.nodes.now c.args.forest c.loop-left.left c.loop-left.invariant.passed c.requires.described c.requires.trees c.in-Some.t.nodes c.in-Some.t.effect c.in-Some.t.looks c.in-Some.ensures.result c.loop-left.invariant.entered c.loop-left-test.true)

pub overflow_add-left-in-loop-left : goal.overflow_add-left-in-loop-left
overflow_add-left-in-loop-left c = omega (arith, small-bounds (context_of (read c.args.file.now.bytes.now)) c.args.replacement c.args.nodes.now c.args.forest c.loop-left.left c.loop-left.invariant.passed c.requires.described c.requires.trees c.in-Some.t.nodes c.in-Some.t.effect c.in-Some.t.looks c.in-Some.ensures.result c.loop-left.invariant.entered c.loop-left-test.true)

pub loop-left-preserved : goal.loop-left-preserved
loop-left-preserved c = record {
  entered = c.loop-left.invariant.entered;
  passed = small-passed (context_of (read c.args.file.now.bytes.now)) c.args.replacement c.args.nodes.now c.args.forest c.loop-left.left c.loop-left.invariant.passed c.requires.described c.requires.trees c.in-Some.t.nodes c.in-Some.t.effect c.in-Some.t.looks c.in-Some.ensures.result c.loop-left.invariant.entered _ refl (omega (arith, c.loop-left-test.true)) refl refl refl;
}
