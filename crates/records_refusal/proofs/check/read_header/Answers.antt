use mathlib.Core.Path.{refl, sym, ◌∙◌}
use Rattle.records_refusal.specs.Passing.{header_refusal}
use Rattle.records_refusal.proofs.Limits.{long-enough, length_said}
use Rattle.records_refusal.proofs.Rows.{refused, passed, header_rows}
use Rattle.records_refusal.proofs.check.read_header.Goals as goal

pub header_of-header-requires : goal.header_of-header-requires
header_of-header-requires c = record { room = long-enough c.args.bytes.now (sym c.not_a_record_file.ensures.result ∙ c.if-not_a_record_file.false) }

pub returns-then-not_a_record_file-clause-result : goal.returns-then-not_a_record_file-clause-result
unfolding header_refusal
returns-then-not_a_record_file-clause-result c = refused 1 _ c.not_a_record_file.ensures.result c.if-not_a_record_file.true

pub returns-then-other-clause-result : goal.returns-then-other-clause-result
returns-then-other-clause-result c =
    passed 1 c.not_a_record_file.ensures.result c.if-not_a_record_file.false
    (refused 2 _ c.other_version-other.ensures.result c.if-other.true)
    ∙ header_rows _ _ c.header_of-header.ensures.result

pub returns-then-outside-clause-result : goal.returns-then-outside-clause-result
returns-then-outside-clause-result c =
    passed 1 c.not_a_record_file.ensures.result c.if-not_a_record_file.false
    (passed 2 c.other_version-other.ensures.result c.if-other.false
    (refused 3 _ c.outside_limits-outside.ensures.result c.if-outside.true))
    ∙ header_rows _ _ c.header_of-header.ensures.result

pub returns-then-other_length-clause-result : goal.returns-then-other_length-clause-result
returns-then-other_length-clause-result c =
    passed 1 c.not_a_record_file.ensures.result c.if-not_a_record_file.false
    (passed 2 c.other_version-other.ensures.result c.if-other.false
    (passed 3 c.outside_limits-outside.ensures.result c.if-outside.false
    (refused 4 _ c.other_length.ensures.result c.if-other_length.true)))
    ∙ header_rows _ _ c.header_of-header.ensures.result

pub invariant_of-file : goal.invariant_of-file
invariant_of-file c = record { whole = (c.header_of-header.ensures.result, length_said _ _ (sym c.other_length.ensures.result ∙ c.if-other_length.false)) }

pub returns-clause-result : goal.returns-clause-result
returns-clause-result c =
    passed 1 c.not_a_record_file.ensures.result c.if-not_a_record_file.false
    (passed 2 c.other_version-other.ensures.result c.if-other.false
    (passed 3 c.outside_limits-outside.ensures.result c.if-outside.false
    (passed 4 c.other_length.ensures.result c.if-other_length.false refl)))
    ∙ header_rows _ _ c.header_of-header.ensures.result
