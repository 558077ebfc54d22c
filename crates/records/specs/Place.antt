-- Row 8 of the refusal table: trees that close, and children where their kinds may stand.
use Rattle.std.specs.Prelude.{ℕ, ◌+◌, Bool, true, false, cond, ◌&&◌, ◌||◌, not, List, [], ◌∷◌, eqb, ltb}
use Rattle.records.specs.Flags.{optional, shorthand}
use Rattle.records.specs.Node.{is_chain_element}
use Rattle.records.specs.Tree.{Node, Tree, Trees, node, none, more, count, forest_of, closed}
use Rattle.records.specs.File.{one, initializers}
use Rattle.records.specs.declared.layout.NodeRecord.{NodeRecord}
use Rattle.records.specs.declared.layout.DeclaratorRecord.{DeclaratorRecord}
use Rattle.records.specs.declared.layout.StatementRecord.{StatementRecord}

-- a kind that stands wherever an expression does: not a spread (25), property (26), elision (27) or target (29, 30)
unfoldable pub is_expression : ℕ → Bool
is_expression kind = ltb kind 25 || eqb kind 28

-- Whether a child of this kind may stand under a parent of a kind and flags, as the child of this number:
-- 22 "holds 25, 26 alone"; 13 holds "kind 10, 11, 12 or 14"; 20's target is 10, 11, 12, 29, 30; a shorthand's child is a
-- name; elisions stand in 21 alone, spreads in 21, 22 and arguments.
unfoldable pub may_stand : ℕ → ℕ → ℕ → ℕ → Bool
may_stand parent flags index kind =
    cond (eqb parent 22) (eqb kind 25 || eqb kind 26)
    (cond (eqb parent 13) (is_chain_element kind)
    (cond (eqb parent 20 && eqb index 0) (eqb kind 10 || eqb kind 11 || eqb kind 12 || eqb kind 29 || eqb kind 30)
    (cond (eqb parent 26 && shorthand flags) (eqb kind 4)
    (cond (eqb parent 21) (is_expression kind || eqb kind 25 || eqb kind 27)
    (cond ((eqb parent 14 || eqb parent 15) && not (eqb index 0)) (is_expression kind || eqb kind 25)
    (is_expression kind))))))

-- A tree is unchained if it has an optional node that isn't yet under its chain (13): one that the root reaches by first children
-- of 10, 11, 12 and 14 alone.
unfoldable mutual
  pub unchained : Tree → Bool
  unchained (node n kids) = is_chain_element n.kind && (optional n.flags || unchained_first kids)

  pub unchained_first : Trees → Bool
  unchained_first none = false
  unchained_first (more t ts) = unchained t

abbrev pub root : Tree → Node
root (node n kids) = n

-- a parent whose first child may be unchained: the chain itself (13), or a member or call under it
abbrev pub chains : ℕ → Bool
chains kind = eqb kind 13 || is_chain_element kind

-- "An optional node reaches a 13 above it by first children of 10, 11, 12 and 14 alone": what a child of this number may
-- be under a parent of this kind.
unfoldable pub may_be_unchained : ℕ → ℕ → Bool
may_be_unchained parent index = eqb index 0 && chains parent

-- every child stands where it may, where the first of these is the child of number i
unfoldable pub stand_under : Node → ℕ → Trees → Bool
stand_under p i none = true
stand_under p i (more t ts) =
    may_stand p.kind p.flags i (root t).kind && (not (unchained t) || may_be_unchained p.kind i) && stand_under p (i + 1) ts

-- so it is at every node
unfoldable mutual
  pub placed : Tree → Bool
  placed (node n kids) = stand_under n 0 kids && all_placed kids

  pub all_placed : Trees → Bool
  all_placed none = true
  all_placed (more t ts) = placed t && all_placed ts

-- the trees of statements: expressions that aren't unchained
unfoldable pub roots_stand : Trees → Bool
roots_stand none = true
roots_stand (more t ts) = is_expression (root t).kind && not (unchained t) && roots_stand ts

-- how many statements are expressions
unfoldable pub expressions : List StatementRecord → ℕ
expressions [] = 0
expressions (s ∷ ss) = one (eqb s.kind 5) + expressions ss

-- 8: "trees don't close, or a child where its kind can't stand"
unfoldable pub bad_trees : List DeclaratorRecord → List StatementRecord → List NodeRecord → Bool
bad_trees ds ss ns =
    not (closed ns && eqb (count (forest_of ns)) (initializers ds + expressions ss) && roots_stand (forest_of ns) && all_placed (forest_of ns))
