-- What a search does in the work table: the answer of the rules on the tree that stands at its place, the looks, and what it
-- leaves there.
use Rattle.std.specs.Prelude.{ℕ, ◌+◌, ◌-◌, ◌≤◌, Bool, true, ◌&&◌, ◌||◌, not, eqb, List, ◌≡◌}
use Rattle.records.specs.Tree.{Tree, Trees, node, none, more, count, size, sizes}
use Rattle.records_table.specs.Laid.{At, TreeAt, tree_at, forest_at}
use Rattle.walk_rules.specs.Context.{Context}
use Rattle.walk_rules.specs.Shape.{is}
use Rattle.walk_rules.specs.Effect.{may_have_side_effects, any_has_side_effects}
use Rattle.walk_rules.specs.Substitute.{Answer as RuleAnswer, substitute_in_expression, substitute_in_children}
use Rattle.walk_rules.specs.Looks.{looks_in_expression, looks_in_children}
use Rattle.walk_arms.specs.declared.replacement.Replacement.{Replacement}
use Rattle.walk_arms.specs.declared.arms.Plan.{Plan}
use Rattle.walk_arms.specs.declared.walked.Answer.{Answer}
use Rattle.walk_arms.specs.declared.walked.Answer.TheVariants.{Replaced, Stopped, Passed}
use Rattle.walk_arms.specs.declared.walked.Walked.{Walked}
use Rattle.walk_arms.specs.Arms.{planned}
use Rattle.walk_arms.specs.Answers.{is_name_at, is_name_in, told, told_forest}
use Rattle.walk_arms.specs.Described.{Describes}

-- no name has children, as row 7 of the refusal table has it
unfoldable mutual
  pub bare_names : Tree → Bool
  bare_names (node n kids) = (not (is 4 n) || eqb (count kids) 0) && all_bare_names kids

  pub all_bare_names : Trees → Bool
  all_bare_names none = true
  all_bare_names (more t ts) = bare_names t && all_bare_names ts

-- such a tree stands at a place; a forest of so many such trees does
abbrev pub Searchable : List ℕ → ℕ → Type 0
Searchable table at = (pre : List ℕ) × (t : Tree) × (rest : List ℕ) × TreeAt table at t pre rest × (bare_names t ≡ true)

abbrev pub SearchableForest : List ℕ → ℕ → ℕ → Type 0
SearchableForest table at many =
    (pre : List ℕ) × (ts : Trees) × (rest : List ℕ) × At table at ts pre rest × (count ts ≡ many) × (all_bare_names ts ≡ true)

-- What an answer says besides, of the tree `t` that stood at node number `at` and of `held`, which stands there now: where
-- the name is that was found, in `held`; where the tree ends; of one that is passed, that it is as it was, and its effect.
-- The same of a forest.
abbrev pub Besides : ℕ → ℕ → Tree → Tree → ℕ → Answer → Type 0
Besides name at t held next (Replaced place indirect) = (at ≤ place.0) × (is_name_at name held (place.0 - at) ≡ true)
Besides name at t held next Stopped = next ≡ at + size t
Besides name at t held next (Passed effect) = (held ≡ t) × (next ≡ at + size t) × (effect ≡ may_have_side_effects t)

abbrev pub BesidesForest : ℕ → ℕ → Trees → Trees → ℕ → Answer → Type 0
BesidesForest name at ts held next (Replaced place indirect) = (at ≤ place.0) × (is_name_in name held (place.0 - at) ≡ true)
BesidesForest name at ts held next Stopped = next ≡ at + sizes ts
BesidesForest name at ts held next (Passed effect) = (held ≡ ts) × (next ≡ at + sizes ts) × (effect ≡ any_has_side_effects ts)

-- The search of the tree `t` has the rule's answer `a`, and `held` stands in its place: nothing else of the table changed.
pub record Did
    (table : List ℕ) (at : ℕ) (t : Tree) (pre rest : List ℕ) (name : ℕ) (replacement : Tree) (answer : Answer) (next : ℕ)
    (a : RuleAnswer Tree) (held : Tree) : Type 0 where
  pub here : TreeAt table at held pre rest
  pub says : told answer at replacement held ≡ a
  pub besides : Besides name at t held next answer
  pub same : size held ≡ size t

-- the same of a forest
pub record DidForest
    (table : List ℕ) (at : ℕ) (ts : Trees) (pre rest : List ℕ) (name : ℕ) (replacement : Tree) (answer : Answer) (next : ℕ)
    (a : RuleAnswer Trees) (held : Trees) : Type 0 where
  pub here : At table at held pre rest
  pub says : told_forest answer at replacement held ≡ a
  pub besides : BesidesForest name at ts held next answer
  pub same : sizes held ≡ sizes ts
  pub many : count held ≡ count ts

-- The search of the tree at a place, from `table` to `table'`, has done as the rules say, with their looks.
abbrev pub Searches : Context → Replacement → List ℕ → List ℕ → ℕ → Walked → Type 0
Searches ctx known table table' at r =
    (replacement : Tree) → Describes known replacement → (pre rest : List ℕ) → TreeAt table at (tree_at table at) pre rest
    → Did table' at (tree_at table at) pre rest known.name.0 replacement r.answer r.end.0
    (substitute_in_expression ctx known.name.0 replacement (tree_at table at)) (tree_at table' at)
    × (r.looks ≡ looks_in_expression ctx known.name.0 replacement (tree_at table at))

-- the same of a forest of so many trees, by a plan
abbrev pub SearchesForest : Context → Replacement → List ℕ → List ℕ → ℕ → ℕ → Plan → Walked → Type 0
SearchesForest ctx known table table' at many p r =
    (replacement : Tree) → Describes known replacement → (pre rest : List ℕ) → At table at (forest_at table at many) pre rest
    → DidForest table' at (forest_at table at many) pre rest known.name.0 replacement r.answer r.end.0
    (substitute_in_children ctx known.name.0 replacement (planned p) (forest_at table at many)) (forest_at table' at many)
    × (r.looks ≡ looks_in_children ctx known.name.0 replacement (planned p) (forest_at table at many))
