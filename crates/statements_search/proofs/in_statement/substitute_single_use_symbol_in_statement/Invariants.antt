use mathlib.Core.Path.{◌≡◌}
use Rattle.records.specs.File.{read}
use Rattle.walk_rules.specs.Context.{context_of}
use Rattle.statements_search.proofs.InStatements.{Turn}
use Rattle.statements_search.proofs.in_statement.substitute_single_use_symbol_in_statement.Given as goal

abbrev pub invariant-loop-last : goal.invariant-loop-last
invariant-loop-last l =
    Turn (context_of (read l.file.bytes.now)) l.initial.nodes l.nodes l.declarators l.starts l.initial.statements l.statements l.fn.statements_kept l.fn.target.declarators_kept l.fn.target.tree.0 l.fn.target.nodes_used l.last l.found.declarators_kept l.found.tree.0 l.found.nodes_used l.found.folds l.found.looks
    × (l.found.statements_kept ≡ l.last)
