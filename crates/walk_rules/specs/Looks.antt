-- The looks of a search: the calls of `substitute_single_use_symbol_in_expression` that it makes
-- (src/peephole/minimize_statements.rs 1277-1876).
use Rattle.std.specs.Prelude.{ℕ, ◌+◌, Bool, true, false, cond, ◌&&◌, ◌||◌, not}
use Rattle.records.specs.Flags.{computed, proto}
use Rattle.records.specs.Tree.{Node, Tree, Trees, node, none, more}
use Rattle.records.specs.File.{one}
use Rattle.records.specs.Place.{is_expression}
use Rattle.walk_rules.specs.Context.{Context}
use Rattle.walk_rules.specs.Shape.{is, shape}
use Rattle.walk_rules.specs.Substitute.{Answer, replaced, stopped, passed, Plan, all, first, nothing, value, test, branches, tag, next, plan, substitute_in_expression}

-- 1 for an expression: "spread, property, elision and target nodes are none". The Rust also calls its function on the string key of
-- a computed `__proto__`; that key has no node, so its look is counted at the property.
unfoldable pub own_looks : Node → ℕ
own_looks n = one (is_expression n.kind || is 26 n && computed n.flags && proto n.flags)

-- whether the plan enters the first child
unfoldable pub enters_first : Plan → Bool
enters_first all = true
enters_first first = true
enters_first nothing = false
enters_first value = false
enters_first test = true
enters_first branches = true
enters_first tag = true

unfoldable pub is_replaced : Answer Tree → Bool
is_replaced (replaced t) = true
is_replaced (stopped t) = false
is_replaced passed = false

unfoldable pub is_passed : Answer Tree → Bool
is_passed (replaced t) = false
is_passed (stopped t) = false
is_passed passed = true

-- whether it goes on behind the first child, by that child's answer
unfoldable pub goes_on : Plan → Answer Tree → Bool
goes_on all a = is_passed a
goes_on first a = is_passed a
goes_on nothing a = false
goes_on value a = true
goes_on test a = is_passed a
goes_on branches a = not (is_replaced a)
goes_on tag a = is_passed a

module _ (ctx : Context) (searchFor : ℕ) (replacement : Tree) where
  unfoldable mutual
    pub looks_in_expression : Tree → ℕ
    looks_in_expression (node n kids) = own_looks n + looks_in_children (plan ctx searchFor replacement (shape n) n kids) kids

    pub looks_in_children : Plan → Trees → ℕ
    looks_in_children p none = 0
    looks_in_children p (more t ts) =
        cond (enters_first p) (looks_in_expression t) 0
        + cond (goes_on p (substitute_in_expression ctx searchFor replacement t)) (looks_in_children (next p) ts) 0
