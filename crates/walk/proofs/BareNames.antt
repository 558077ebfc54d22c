-- The names of a forest, and of a node. Assumes nothing.
use mathlib.Core.Bool.{true, ◌||◌, not}
use mathlib.Core.Path.{◌≡◌}
use lib.Dec.{eqb}
use Rattle.records.specs.Tree.{Node, Tree, Trees, node, more, count}
use Rattle.records.proofs.Tests.{both}
use Rattle.walk_rules.specs.Shape.{is}
use Rattle.walk_arms.specs.Search.{bare_names, all_bare_names}

pub all-bare : (t : Tree) (ts : Trees) → all_bare_names (more t ts) ≡ true → (bare_names t ≡ true) × (all_bare_names ts ≡ true)
unfolding bare_names all_bare_names
all-bare t ts h = both (bare_names t) (all_bare_names ts) h

pub bare-node : (n : Node) (kids : Trees) → bare_names (node n kids) ≡ true → ((not (is 4 n) || eqb (count kids) 0) ≡ true) × (all_bare_names kids ≡ true)
unfolding bare_names
bare-node n kids h = both (not (is 4 n) || eqb (count kids) 0) (all_bare_names kids) h
