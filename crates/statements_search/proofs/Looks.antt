-- The looks of a search from declarators and from statements: at most `most_in_use` for each declarator. Assumes nothing.
use Prim.Native.Nat.{◌+◌, ◌*◌, ◌≤◌}
use native.Mathlib.Omega.{arith}
use mathlib.Core.Bool.{Bool}
use mathlib.Core.List.{List}
use lib.ListN.{length}
use Rattle.records.specs.Tree.{Tree, size}
use Rattle.records.specs.File.{DeclarationKind, Declarator, Statement}
use Rattle.walk_rules.specs.Context.{Context}
use Rattle.statements_rules.specs.Declarators.{substitute_from_declarators}
use Rattle.statements_rules.specs.Statements.{Kept, substitute_in_statement}
use Rattle.statements_rules.proofs.Totals.{total, declarator_size, kept_weight, kept_declarators}
use Rattle.statements_rules.proofs.Looks.{sum-most, declarators_tried, in_statement_tried}
use Rattle.statements_search.specs.Kept.{most_in_use}

pub declarators-looks : (ctx : Context) (before : List Statement) (kind : DeclarationKind) (literal_only : Bool) (ds : List Declarator) (target : Tree) → size target + total declarator_size ds + length ds ≤ most_in_use
    → (substitute_from_declarators ctx before kind literal_only ds target).looks ≤ most_in_use * length ds
declarators-looks ctx before kind literal_only ds target l =
    let t = declarators_tried ctx before kind most_in_use literal_only ds target l in
    omega (arith, t.sought.looks, t.once, sum-most most_in_use _ t.sought.nodes)

pub in_statement-looks : (ctx : Context) (ks : List Kept) (target : Tree) → size target + total kept_weight ks ≤ most_in_use → (substitute_in_statement ctx ks target).looks ≤ most_in_use * total kept_declarators ks
in_statement-looks ctx ks target l =
    let t = in_statement_tried ctx most_in_use ks target l in
    omega (arith, t.sought.looks, t.once, sum-most most_in_use _ t.sought.nodes)
