use mathlib.Core.Path.{◌≡◌}
use Rattle.records.specs.File.{scopes_of}
use Rattle.walk_rules.specs.Unsettled.{climb, read_crosses_function_boundary}
use Rattle.walk_reorder.proofs.unsettled.read_crosses_function_boundary.Given as goal

abbrev pub invariant-loop-steps : goal.invariant-loop-steps
invariant-loop-steps l =
    let scopes = scopes_of l.file.bytes.now in climb l.steps scopes l.scope.0 l.stop_scope.0 ≡ read_crosses_function_boundary scopes l.fn.read_scope.0 l.stop_scope.0

abbrev pub decreases-loop-steps : goal.decreases-loop-steps
decreases-loop-steps l = l.steps
