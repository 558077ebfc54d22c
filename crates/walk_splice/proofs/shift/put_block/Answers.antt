use Rattle.walk_splice.proofs.Moves.{block_written}
use Rattle.walk_splice.proofs.shift.put_block.Goals as goal

pub returns : goal.returns
returns c =
    let a = c.args in
    record { written = block_written a.at a.nodes.now a.block.now _ c.copy.ensures.output }
