-- Row 10 of the refusal table: reads and targets of a name against the counts of its facts.
use Rattle.std.specs.Prelude.{ℕ, ◌+◌, Bool, cond, ◌&&◌, ◌||◌, not, List, eqb, leb}
use Rattle.records.specs.Limits.{no_number}
use Rattle.records.specs.Flags.{recorded, mutated, unresolved, compound}
use Rattle.records.specs.Records.{every_from}
use Rattle.records.specs.Tree.{Node, Tree, Trees, node, none, more}
use Rattle.records.specs.File.{one}
use Rattle.records.specs.Place.{root}
use Rattle.records.specs.declared.layout.NameFacts.{NameFacts}

-- the name of a target name (29), else 65535, which is no name
unfoldable pub target_name : Node → ℕ
target_name n = cond (eqb n.kind 29) n.label no_number

-- the same of the first of some trees
unfoldable pub first_target : Trees → ℕ
first_target none = no_number
first_target (more t ts) = target_name (root t)

-- the name that a node reads: "kind 4 nodes and compound targets"
unfoldable pub name_read : Node → Trees → ℕ
name_read n kids =
    cond (eqb n.kind 4) n.label (cond (eqb n.kind 20 && compound n.flags) (first_target kids) no_number)

-- how often trees name a name, where each node names the one that `named` gives
unfoldable mutual
  pub uses_in : (Node → Trees → ℕ) → ℕ → Tree → ℕ
  uses_in named name (node n kids) = one (eqb (named n kids) name) + uses_of named name kids

  pub uses_of : (Node → Trees → ℕ) → ℕ → Trees → ℕ
  uses_of named name none = 0
  uses_of named name (more t ts) = uses_in named name t + uses_of named name ts

-- how often trees read a name, and how often it is a target in them
abbrev pub reads_of : ℕ → Trees → ℕ
reads_of name ts = uses_of name_read name ts

abbrev pub targets_of : ℕ → Trees → ℕ
targets_of name ts = uses_of (λ n kids. target_name n) name ts

-- A recorded name has no more reads and targets than its facts say; a resolved one without record is no target, unless
-- bit 6 says that it is mutated.
unfoldable pub good_counts : NameFacts → ℕ → ℕ → Bool
good_counts n reads targets =
    unresolved n.flags
    || recorded n.flags && leb reads n.reads && leb targets n.writes
    || not (recorded n.flags) && (eqb targets 0 || mutated n.flags)

-- 10: "a recorded name has more kind 4 nodes and compound targets than reads, or more targets than writes; a resolved
-- one without record is a target with bit 6 clear"
unfoldable pub bad_counts : List NameFacts → Trees → Bool
bad_counts names forest = not (every_from (λ name n. good_counts n (reads_of name forest) (targets_of name forest)) 0 names)
