-- The search from one declarator: whether its initializer was placed, what the tree became, and the looks.
use Rattle.std.specs.Prelude.{Bool, true, false, cond, ℕ}
use Rattle.records.specs.Tree.{Tree}
use Rattle.records.specs.File.{Initializer, bare, given}
use Rattle.walk_rules.specs.Context.{Context}
use Rattle.walk_rules.specs.Substitute.{Answer, replaced, stopped, passed, substitute_in_expression}
use Rattle.walk_rules.specs.Looks.{looks_in_expression}
use Rattle.statements_rules.specs.Declarators.{ends_search}

pub record Try : Type 0 where
  pub folds : Bool
  pub target : Tree
  pub looks : ℕ

unfoldable pub by_answer : Tree → ℕ → Answer Tree → Try
by_answer target looks (replaced t) = record { folds = true; target = t; looks = looks }
by_answer target looks (stopped t) = record { folds = false; target = t; looks = looks }
by_answer target looks passed = record { folds = false; target = target; looks = looks }

-- no search was made
abbrev pub no_try : Tree → Try
no_try target = record { folds = false; target = target; looks = 0 }

unfoldable pub try_from : Context → Bool → ℕ → Initializer → Tree → Try
try_from ctx literal_only name bare target = no_try target
try_from ctx literal_only name (given initializer) target =
    cond (ends_search ctx literal_only name initializer) (no_try target)
    (by_answer target (looks_in_expression ctx name initializer target) (substitute_in_expression ctx name initializer target))
