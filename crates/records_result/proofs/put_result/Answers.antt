use mathlib.Core.Path.{ap}
use mathlib.Core.List.{List}
use Prim.Native.Nat.{ℕ}
use lib.ListN.{get_or}
use Rattle.records_result.proofs.Printed.{result-put}
use Rattle.records_result.proofs.put_result.Goals as goal

pub returns : goal.returns
returns c = record { output = result-put c.args.file.now.bytes.now c.args.nodes.now c.args.declarators.now c.args.statements.now c.args.counts c.args.out.now c.args.file.now.header c.result_header-header.result (get_or c.part_offsets-parts.result 3 0) c.put_facts.ensures.small c.args.file.now.whole.0 c.args.file.now.whole.1 c.result_header-header.ensures.result (ap (λ (l : List ℕ). get_or l 3 0) c.part_offsets-parts.ensures.result) c.put_facts.ensures.output c.put_tables.ensures.output }
