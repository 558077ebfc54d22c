use mathlib.Core.Path.{◌∙◌}
use lib.ListN.{get_or-replicate}
use Rattle.records.specs.File.{declarators_of}
use Rattle.records_refusal.proofs.file_rows.names_are_declared_twice.Goals as goal

pub declared_twice-requires-clause-unseen : goal.declared_twice-requires-clause-unseen
declared_twice-requires-clause-unseen c k h = get_or-replicate 256 k 0 0 h

pub declared_twice-requires-clause-names : goal.declared_twice-requires-clause-names
unfolding declarators_of
declared_twice-requires-clause-names c = rw c.declarators.ensures.records c.requires.names

pub returns : goal.returns
unfolding declarators_of
returns c = record { result = c.declared_twice.ensures.result ∙ rw c.declarators.ensures.records }
