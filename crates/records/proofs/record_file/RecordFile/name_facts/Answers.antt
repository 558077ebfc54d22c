use Rattle.records.specs.File.{names_of}
use Rattle.records.proofs.record_file.RecordFile.name_facts.Goals as goal

pub returns : goal.returns
unfolding names_of
returns c = record { records = rw (c.part_offsets.ensures.result, c.from.ensures, c.args.self.now.whole.0) }
