use mathlib.Core.Path.{sym, ap, ◌∙◌}
use borrow.Author.Tests.{lt-ltb}
use Rattle.records.specs.Flags.{unresolved}
use Rattle.records.specs.Script.{flags_of}
use Rattle.records.specs.declared.layout.NameFacts.{NameFacts}
use Rattle.records_tests.proofs.node.label_is_good.Goals as goal

pub returns-then-is_marked : goal.returns-then-is_marked
unfolding flags_of
returns-then-is_marked c = record { result = rw (lt-ltb _ _ c.if-names-n.false, sym c.is_marked.ensures.result ∙ c.if-is_marked.true) (c.is_unresolved.ensures.result ∙ ap (λ (n : NameFacts). unresolved n.flags) c.facts_of.ensures.result) }
