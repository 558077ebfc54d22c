use mathlib.Core.Path.{◌≡◌, subst}
use lib.ListN.{get_or}
use Rattle.records.specs.File.{names_of, facts_from}
use Rattle.records.specs.Script.{no_name}
use Rattle.records.specs.declared.layout.Header.{Header}
use Rattle.records.proofs.record_file.RecordFile.facts_of.Goals as goal

pub returns : goal.returns
unfolding names_of
returns c = record {
  result = subst (λ (h : Header). c.facts_of.result ≡ get_or (facts_from c.args.self.now.bytes.now 24 h.names) c.args.name.0 no_name)
      c.args.self.now.whole.0 c.facts_of.ensures.result;
}
