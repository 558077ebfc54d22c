use Rattle.records.specs.File.{frames_of}
use Rattle.records.proofs.record_file.RecordFile.frames.Goals as goal

pub returns-clause-records : goal.returns-clause-records
unfolding frames_of
returns-clause-records c = rw (c.part_offsets.ensures.result, c.from.ensures, c.args.self.now.whole.0)
