use Rattle.records.specs.Record.{scope_at, header_of}
use Rattle.records.specs.Facts.{bad_facts}
use Rattle.records.specs.File.{scopes_of, scopes_start}
use Rattle.records.proofs.Series.{records-length}
use Rattle.records_refusal.proofs.file_rows.facts_are_bad.Goals as goal

pub returns : goal.returns
unfolding bad_facts scopes_of
returns c = record {
  result = rw (
    c.names_are_good-good_names.ensures.result,
    c.scopes_are_good-good_scopes.ensures.result,
    c.frames_are_good-good_frames.ensures.result,
    c.name_facts.ensures.records,
    c.frames.ensures.records,
    c.part_offsets.ensures.result,
    c.args.file.now.whole.0,
    records-length (scope_at c.args.file.now.bytes.now) 4 (header_of c.args.file.now.bytes.now).scopes (scopes_start (header_of c.args.file.now.bytes.now)),
  );
}
