-- Small trees that are passed at once.
use Rattle.std.specs.Prelude.{ℕ, ◌+◌, Bool, false, List, ◌≡◌}
use Rattle.records.specs.Tree.{Tree, node, none, more, size, node_of}
use Rattle.records.specs.declared.layout.NodeRecord.{NodeRecord}
use Rattle.records_table.specs.Laid.{TreeAt}
use Rattle.walk_rules.specs.Context.{Context}
use Rattle.walk_rules.specs.Effect.{may_have_side_effects}
use Rattle.walk_rules.specs.Looks.{own_looks, looks_in_expression}
use Rattle.walk_rules.specs.Substitute.{passed, is_specific_id, substitute_in_expression}
use Rattle.walk_arms.specs.declared.replacement.Replacement.{Replacement}
use Rattle.walk_arms.specs.Described.{Describes}

-- a node without children, not the name, is passed, and looked at once
pub record PassesLeaf (ctx : Context) (n : NodeRecord) (known : Replacement) : Type 0 where
  pub childless : n.children ≡ 0
  pub other : is_specific_id known.name.0 (node_of n) ≡ false
  pub look : own_looks (node_of n) ≡ 1
  pub leaf-passed : (replacement : Tree) → Describes known replacement
      → substitute_in_expression ctx known.name.0 replacement (node (node_of n) none) ≡ passed

-- a node over such a leaf, its only child, is passed, and both are looked at
pub record PassesOver (ctx : Context) (n leaf : NodeRecord) (known : Replacement) : Type 0 where
  pub over-passed : (replacement : Tree) → Describes known replacement
      → substitute_in_expression ctx known.name.0 replacement (node (node_of n) (more (node (node_of leaf) none) none)) ≡ passed
  pub over-looked : (replacement : Tree) → Describes known replacement
      → looks_in_expression ctx known.name.0 replacement (node (node_of n) (more (node (node_of leaf) none) none))
      ≡ own_looks (node_of n) + 1

-- the tree at a place is passed: how many nodes it has, whether it has an effect, and the looks at it
abbrev pub PassesTree : Context → Replacement → List ℕ → ℕ → ℕ → Bool → ℕ → Type 0
PassesTree ctx known table at nodes effect looks =
    (replacement : Tree) → Describes known replacement → (pre : List ℕ) (t : Tree) (rest : List ℕ) → TreeAt table at t pre rest
    → (substitute_in_expression ctx known.name.0 replacement t ≡ passed) × (nodes ≡ size t) × (effect ≡ may_have_side_effects t)
    × (looks ≡ looks_in_expression ctx known.name.0 replacement t)
