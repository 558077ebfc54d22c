use mathlib.Core.Path.{◌∙◌}
use native.Mathlib.Omega.{arith}
use Rattle.records.specs.File.{names_of}
use Rattle.records.specs.Record.{name_at}
use Rattle.records.proofs.Series.{records-length}
use Rattle.records_refusal.proofs.Judged.{counts-judged}
use Rattle.records_refusal.proofs.file_rows.counts_are_bad.Goals as goal

pub returns : goal.returns
unfolding names_of
returns c =
    let long = records-length (name_at c.args.file.now.bytes.now) 12 c.from.result 24 in
    record {
      result = counts-judged _ _ c.args.reads.now c.args.targets.now _ c.requires.reads c.requires.targets c.counts_are_good.ensures.result (omega (arith, long)) (omega (arith, long))
          ∙ rw (c.from.ensures, c.args.file.now.whole.0);
    }
