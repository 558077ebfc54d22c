-- Trees, facts and scopes put together, for examples.
use Prim.Native.Nat.{ℕ}
use Rattle.records.specs.Limits.{no_number}
use Rattle.records.specs.Tree.{Tree, Trees, node, none, more}
use Rattle.records.specs.declared.layout.NameFacts.{NameFacts}
use Rattle.records.specs.declared.layout.Scope.{Scope}

-- a tree by its root's kind, flags, label and position
abbrev pub tree : ℕ → ℕ → ℕ → ℕ → Trees → Tree
tree kind flags label position kids = node (record { kind = kind; flags = flags; label = label; position = position }) kids

abbrev pub one : Tree → Trees
one a = more a none

abbrev pub two : Tree → Tree → Trees
two a b = more a (more b none)

abbrev pub three : Tree → Tree → Tree → Trees
three a b c = more a (more b (more c none))

abbrev pub literal : ℕ → Tree
literal position = tree 1 0 0 position none

abbrev pub name : ℕ → ℕ → Tree
name number position = tree 4 0 number position none

-- a marked call of a name
abbrev pub call : ℕ → ℕ → Trees → Tree
call callee position arguments = tree 14 1 0 position (more (name callee position) arguments)

-- a member of a name
abbrev pub member : ℕ → ℕ → Tree
member object position = tree 10 0 0 position (one (name object position))

-- the facts of a name: flags, scope, reads, writes; and of one that is unresolved
abbrev pub facts : ℕ → ℕ → ℕ → ℕ → NameFacts
facts flags scope reads writes = record { flags = flags; scope = scope; reads = reads; writes = writes }

abbrev pub unresolved_name : NameFacts
unresolved_name = facts 128 no_number 0 0

-- the outermost scope, by its flags, and any other, by its parent and flags
abbrev pub outermost : ℕ → Scope
outermost flags = record { parent = no_number; flags = flags }

abbrev pub inner : ℕ → ℕ → Scope
inner parent flags = record { parent = parent; flags = flags }
