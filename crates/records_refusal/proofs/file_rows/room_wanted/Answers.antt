use Rattle.records.specs.Refusal.{room_wanted}
use Rattle.records_refusal.proofs.file_rows.room_wanted.Goals as goal

pub returns : goal.returns
unfolding room_wanted
returns c = record { result = rw (c.from.ensures, c.args.file.now.whole.0) }
