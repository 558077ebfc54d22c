-- What is kept of each tree of a forest while the nodes before it are checked, its entry: its root's kind, and whether it is
-- unchained, with an optional node that isn't yet under its chain (13).
use Rattle.std.specs.Prelude.{ℕ, ◌+◌, ◌*◌, ◌/◌, ◌%◌, ◌≤◌, ◌<◌, Bool, false, cond, ◌&&◌, ◌||◌, not, List, [], ◌∷◌, length, get_or, take, drop, eqb, leb}
use Rattle.records.specs.Flags.{optional}
use Rattle.records.specs.Records.{records_from, every_from}
use Rattle.records.specs.File.{one}
use Rattle.records.specs.Sets.{is_in}
use Rattle.records.specs.Node.{is_chain_element}
use Rattle.records.specs.Tree.{Trees, none, more}
use Rattle.records.specs.Place.{root, unchained, is_expression, may_stand, may_be_unchained}
use Rattle.records.specs.declared.layout.NodeRecord.{NodeRecord}

unfoldable pub entry : ℕ → Bool → ℕ
entry kind unchained = 2 * kind + one unchained

unfoldable pub entries : Trees → List ℕ
entries none = []
entries (more t ts) = entry (root t).kind (unchained t) ∷ entries ts

-- the root's kind, and whether the tree is unchained
abbrev pub entry_kind : ℕ → ℕ
entry_kind e = e / 2

abbrev pub entry_unchained : ℕ → Bool
entry_unchained e = eqb (e % 2) 1

-- a child of this number under a parent of a kind and flags
unfoldable pub child_stands : ℕ → ℕ → ℕ → ℕ → Bool
child_stands parent flags i e = may_stand parent flags i (entry_kind e) && (not (entry_unchained e) || may_be_unchained parent i)

-- whether the first of some entries is unchained
unfoldable pub first_unchained : List ℕ → Bool
first_unchained [] = false
first_unchained (e ∷ es) = entry_unchained e

-- a node before the entries of a forest: whether it finds its children there, and each where it may stand
unfoldable pub children_stand : NodeRecord → List ℕ → Bool
children_stand n es = leb n.children (length es) && every_from (child_stands n.kind n.flags) 0 (take n.children es)

-- the entry of a node before the entries of a forest
unfoldable pub node_entry : NodeRecord → List ℕ → ℕ
node_entry n es = entry n.kind (is_chain_element n.kind && (optional n.flags || first_unchained (take n.children es)))

-- the entries once the node has taken its children
unfoldable pub pushed : NodeRecord → List ℕ → List ℕ
pushed n es = node_entry n es ∷ drop n.children es

-- a statement's tree
unfoldable pub root_stands : ℕ → Bool
root_stands e = is_expression (entry_kind e) && not (entry_unchained e)

-- the entry at a place of a stack
unfoldable pub entry_at : List ℕ → ℕ → ℕ
entry_at stack at = get_or stack at 0

-- so many entries of a stack, from one place on
abbrev pub entries_from : List ℕ → ℕ → ℕ → List ℕ
entries_from stack top count = records_from (entry_at stack) 1 count top

-- entries, from the top on, that are numbers of a set
abbrev pub Low : List ℕ → ℕ → Type 0
Low stack top = (k : ℕ) → top ≤ k → get_or stack k 0 < 64

-- the entry of a child of this number is in one set for the first child, in another for the others
unfoldable pub in_sets : ℕ → ℕ → ℕ → ℕ → Bool
in_sets first later i e = is_in (cond (eqb i 0) first later) e
