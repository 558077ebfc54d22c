use mathlib.Core.Path.{refl}
use native.Mathlib.Omega.{arith}
use Rattle.statements_progress.proofs.Loading.{loads_next, load_fits}
use Rattle.statements_progress.proofs.next.load_next.Goals as goal

pub overflow_add-result : goal.overflow_add-result
overflow_add-result c = omega (arith, (load_fits c.args.header c.args.p c.part_offsets-parts.ensures.result c.requires.tree c.load_tree-size.ensures.tree).0)

pub overflow_add-result-2 : goal.overflow_add-result-2
overflow_add-result-2 c = omega (arith, (load_fits c.args.header c.args.p c.part_offsets-parts.ensures.result c.requires.tree c.load_tree-size.ensures.tree).1)

pub returns : goal.returns
returns c = record { loaded = loads_next c.args.header c.args.p c.part_offsets-parts.ensures.result c.load_tree-size.ensures.tree _ refl }
