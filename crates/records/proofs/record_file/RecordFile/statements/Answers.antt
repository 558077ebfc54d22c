use Rattle.records.specs.File.{statements_of}
use Rattle.records.proofs.record_file.RecordFile.statements.Goals as goal

pub returns-clause-records : goal.returns-clause-records
unfolding statements_of
returns-clause-records c = rw (c.part_offsets.ensures.result, c.from.ensures, c.args.self.now.whole.0)
