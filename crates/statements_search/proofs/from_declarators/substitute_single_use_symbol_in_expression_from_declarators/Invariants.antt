use Prim.Native.Nat.{◌+◌}
use mathlib.Core.Path.{◌≡◌}
use Rattle.records.specs.File.{read}
use Rattle.walk_rules.specs.Context.{context_of}
use Rattle.statements_search.proofs.Going.{SomeGoing}
use Rattle.statements_search.proofs.from_declarators.substitute_single_use_symbol_in_expression_from_declarators.Given as goal

abbrev pub invariant-loop-last : goal.invariant-loop-last
invariant-loop-last l =
    (l.found.folds + l.last ≡ l.fn.target.declarators_kept) × (l.found.declarators_kept ≡ l.last)
    × SomeGoing (context_of (read l.file.bytes.now)) l.literal_only l.declarators l.starts l.first l.initial.nodes l.nodes l.fn.target.declarators_kept l.fn.target.tree.0 l.fn.target.nodes_used l.last l.found.tree.0 l.found.nodes_used l.found.folds l.found.looks
