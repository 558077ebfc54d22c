-- A search makes no more looks than its tree has nodes. Assumes nothing.
use Prim.Native.Nat.{ℕ, ◌≤◌}
use native.Mathlib.Omega.{arith}
use mathlib.Core.Bool.{Bool, true, false, cond, ◌&&◌, ◌||◌}
use Rattle.records.specs.Flags.{computed, proto}
use Rattle.records.specs.Place.{is_expression}
use Rattle.records.specs.Tree.{Node, Tree, Trees, node, none, more, size, sizes}
use Rattle.records.proofs.Tests.{one-most}
use Rattle.walk_rules.specs.Context.{Context}
use Rattle.walk_rules.specs.Shape.{is, shape}
use Rattle.walk_rules.specs.Substitute.{Plan, next, plan, substitute_in_expression}
use Rattle.walk_rules.specs.Looks.{own_looks, enters_first, goes_on, looks_in_expression, looks_in_children}

own-most : (n : Node) → own_looks n ≤ 1
unfolding own_looks
own-most n = one-most (is_expression n.kind || is 26 n && computed n.flags && proto n.flags)

cond_most : (b : Bool) (k m : ℕ) → k ≤ m → cond b k 0 ≤ m
cond_most true k m h = h
cond_most false k m h = omega arith

module _ (ctx : Context) (name : ℕ) (replacement : Tree) where
  mutual
    unfolding looks_in_expression looks_in_children size sizes

    pub looks-most : (t : Tree) → looks_in_expression ctx name replacement t ≤ size t
    looks-most (node n kids) = omega (arith, own-most n, all-looks_most (plan ctx name replacement (shape n) n kids) kids)

    pub all-looks_most : (p : Plan) (ts : Trees) → looks_in_children ctx name replacement p ts ≤ sizes ts
    all-looks_most p none = omega arith
    all-looks_most p (more t ts) =
        omega
        (arith, cond_most (enters_first p) (looks_in_expression ctx name replacement t) (size t) (looks-most t), cond_most (goes_on p (substitute_in_expression ctx name replacement t)) (looks_in_children ctx name replacement (next p) ts) (sizes ts) (all-looks_most (next p) ts))
