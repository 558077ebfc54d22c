use mathlib.Core.Path.{refl}
use Rattle.records.specs.File.{read}
use Rattle.walk_rules.specs.Context.{context_of}
use Rattle.records_table.proofs.Laid.{stands-room}
use Rattle.walk.proofs.SmallTrees.{leaf_room, leaf-at, leaf-below, one_child, small-leaf, small-over}
use Rattle.walk.proofs.small.small_at.Goals as goal

pub has_one_child-over-requires : goal.has_one_child-over-requires
has_one_child-over-requires c = record { «record» = stands-room c.requires.tree }

pub work_node-leaf-requires : goal.work_node-leaf-requires
work_node-leaf-requires c = record { node = leaf_room c.args.nodes.now c.args.at.0 c.from.result c.has_one_child-over.result c.has_one_child-over.ensures.result c.from.ensures c.requires.tree }

pub returns-then-not-over : goal.returns-then-not-over
returns-then-not-over c = record { result = small-leaf (context_of (read c.args.file.now.bytes.now)) c.args.replacement c.args.nodes.now c.args.at.0 c.has_effect-acts.result 1 c.work_node-leaf.result (leaf-at c.args.nodes.now c.args.at.0 c.from.result c.has_one_child-over.result c.if-not-over.true c.from.ensures c.work_node-leaf.ensures.result) (c.passes_leaf.ensures.result c.if-not-passes_leaf.false) c.has_effect-acts.ensures.result refl }

pub work_node-n-requires : goal.work_node-n-requires
work_node-n-requires c = record { node = stands-room c.requires.tree }

pub returns : goal.returns
returns c = record { result = small-over (context_of (read c.args.file.now.bytes.now)) c.args.replacement c.args.nodes.now c.args.at.0 _ _ c.work_node-n.result c.work_node-leaf.result c.work_node-n.ensures.result (one_child c.args.nodes.now c.args.at.0 c.has_one_child-over.result c.has_one_child-over.ensures.result c.if-not-over.false c.work_node-n.ensures.result) (leaf-below c.args.nodes.now c.args.at.0 c.from.result c.has_one_child-over.result c.if-not-over.false c.from.ensures c.work_node-leaf.ensures.result) (c.passes_leaf.ensures.result c.if-not-passes_leaf.false) (c.passes_over.ensures.result c.if-not-passes_over.false) (rw (c.has_effect-acts.ensures.result, c.has_effect-own.ensures.result) refl) (rw c.own_looks.ensures.result.0 refl) }
