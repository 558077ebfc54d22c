use mathlib.Core.Path.{ap, ◌∙◌}
use Prim.Native.Nat.{◌+◌, ◌*◌}
use native.Mathlib.Omega.{arith}
use Rattle.records.specs.declared.layout.NodeRecord.{NodeRecord}
use Rattle.walk_splice.proofs.Laws.{bounds, name-read, spliced, spliced_indirect}
use borrow.Author.Rules.{rules}
use Rattle.walk_splice.proofs.splice.Goals as goal

pub work_node-position-requires : goal.work_node-position-requires
work_node-position-requires c = record { node = omega (arith, bounds c.requires.name.6) }

pub put_position-requires : goal.put_position-requires
put_position-requires c = record { «record» = omega (arith, bounds c.requires.name.6) }

pub rotate-requires : goal.rotate-requires
rotate-requires c = record { blocks = omega (arith, bounds c.requires.name.6) }

pub rotate-requires-2 : goal.rotate-requires-2
rotate-requires-2 c = record { blocks = omega (arith, bounds c.requires.name.6) }

pub returns-then-indirect : goal.returns-then-indirect
returns-then-indirect c =
    let fits = c.requires.room c.if-indirect.true in
    let at_name = c.work_node-position.ensures.result in
    record {
      result = λ t name pre between after rest h. (_, spliced_indirect h (ap (λ (n : NodeRecord). n.position) (at_name ∙ name-read h)) c.put_position.ensures.written c.rotate.ensures.blocks c.if-indirect.true fits c.preserve_indirect_access.ensures.wrapped);
      length = search rules;
    }

pub returns : goal.returns
returns c =
    let at_name = c.work_node-position.ensures.result in
    record {
      result = λ t name pre between after rest h. (_, spliced h (ap (λ (n : NodeRecord). n.position) (at_name ∙ name-read h)) c.put_position.ensures.written c.rotate.ensures.blocks (16 * (c.args.place.0 + 1)) (omega arith) c.if-indirect.false c.rotate-2.ensures.blocks);
      length = search rules;
    }
