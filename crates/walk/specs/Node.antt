-- What is made of a node by what the search of its children said: the end of `substitute_single_use_symbol_in_expression`
-- (src/peephole/minimize_statements.rs 1849-1875), and the answers that an arm returns.
use Rattle.std.specs.Prelude.{ℕ, ◌+◌, List, ◌++◌, ◌≡◌}
use Rattle.records.specs.Tree.{Node, Tree, Trees, node, count, record_of}
use Rattle.records.specs.declared.layout.NodeRecord.{NodeRecord}
use Rattle.records_table.specs.Table.{work_bytes}
use Rattle.walk_rules.specs.Context.{Context}
use Rattle.walk_rules.specs.Shape.{shape}
use Rattle.walk_rules.specs.Looks.{own_looks}
use Rattle.walk_rules.specs.Substitute.{Answer as RuleAnswer, may_pass, of_node}
use Rattle.walk_arms.specs.declared.arms.Begun.{Begun}
use Rattle.walk_arms.specs.declared.replacement.Replacement.{Replacement}
use Rattle.walk_arms.specs.declared.walked.Walked.{Walked}
use Rattle.walk_arms.specs.Arms.{shaped, stops_in}
use Rattle.walk_arms.specs.Answers.{behind}
use Rattle.walk_arms.specs.Described.{Describes}
use Rattle.walk_arms.specs.Search.{Did, DidForest}

-- what the search did of the tree, from what it did of the children that `g` leaves to it
abbrev pub OfChildren : Context → List ℕ → List ℕ → ℕ → NodeRecord → Begun → Replacement → Walked → Walked → Type 0
OfChildren ctx table table' at n g known children r =
    (replacement : Tree) → Describes known replacement
    → (pre : List ℕ) (m : Node) (kids : Trees) (rest : List ℕ) (b : RuleAnswer Trees) (held : Trees)
    → n ≡ record_of m (count kids) → shaped g.shape ≡ shape m → g.stops ≡ stops_in ctx replacement (shape m) kids
    → DidForest table (at + 1) kids (pre ++ work_bytes (record_of m (count kids))) rest known.name.0 replacement
    (behind g.effect children.answer) children.end.0 b held
    → (held' : Tree) × Did table' at (node m kids) pre rest known.name.0 replacement r.answer r.end.0
    (of_node m kids (may_pass ctx known.name.0 replacement (shape m) m kids) b) held'
    × (r.looks ≡ own_looks m + children.looks)
