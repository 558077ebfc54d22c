-- Row 7 of the refusal table: a node by itself.
use Rattle.std.specs.Prelude.{ℕ, Bool, ◌&&◌, ◌||◌, not, List, [], ◌∷◌, length, get_or, eqb, ltb, leb}
use Rattle.records.specs.Limits.{no_position}
use Rattle.records.specs.Flags.{unresolved, marked, optional, anonymous, compound, shorthand, computed, proto}
use Rattle.records.specs.Records.{every}
use Rattle.records.specs.Script.{flags_of}
use Rattle.records.specs.declared.layout.NameFacts.{NameFacts}
use Rattle.records.specs.declared.layout.NodeRecord.{NodeRecord}

-- kinds 10, 11, 12 and 14: a member or a call
abbrev pub is_chain_element : ℕ → Bool
is_chain_element kind = eqb kind 10 || eqb kind 11 || eqb kind 12 || eqb kind 14

-- kinds 4 and 29, whose label is a name number
abbrev pub is_named : ℕ → Bool
is_named kind = eqb kind 4 || eqb kind 29

-- "Kinds, with children": the fewest and the most children of each kind, 65535 for any number. (26, a property, is judged by
-- its flags.)
unfoldable pub fewest : List ℕ
fewest =
    0 ∷  -- 0 other
    0 ∷  -- 1 literal
    0 ∷  -- 2 function
    0 ∷  -- 3 class
    0 ∷  -- 4 name
    0 ∷  -- 5 this
    1 ∷  -- 6 await
    0 ∷  -- 7 yield
    1 ∷  -- 8 import
    1 ∷  -- 9 unary
    1 ∷  -- 10 static member
    1 ∷  -- 11 private member
    2 ∷  -- 12 computed member
    1 ∷  -- 13 chain
    1 ∷  -- 14 call
    1 ∷  -- 15 new
    2 ∷  -- 16 binary
    2 ∷  -- 17 logical
    1 ∷  -- 18 private in
    3 ∷  -- 19 conditional
    2 ∷  -- 20 assignment
    0 ∷  -- 21 array
    0 ∷  -- 22 object
    0 ∷  -- 23 template
    1 ∷  -- 24 tagged template
    1 ∷  -- 25 spread
    1 ∷  -- 26 property
    0 ∷  -- 27 elision
    2 ∷  -- 28 sequence
    0 ∷  -- 29 target name
    0 ∷  -- 30 opaque target
    []

unfoldable pub most : List ℕ
most =
    0 ∷  -- 0 other
    0 ∷  -- 1 literal
    0 ∷  -- 2 function
    0 ∷  -- 3 class
    0 ∷  -- 4 name
    0 ∷  -- 5 this
    1 ∷  -- 6 await
    1 ∷  -- 7 yield
    1 ∷  -- 8 import
    1 ∷  -- 9 unary
    1 ∷  -- 10 static member
    1 ∷  -- 11 private member
    2 ∷  -- 12 computed member
    1 ∷  -- 13 chain
    65535 ∷  -- 14 call
    65535 ∷  -- 15 new
    2 ∷  -- 16 binary
    2 ∷  -- 17 logical
    1 ∷  -- 18 private in
    3 ∷  -- 19 conditional
    2 ∷  -- 20 assignment
    65535 ∷  -- 21 array
    65535 ∷  -- 22 object
    65535 ∷  -- 23 template
    65535 ∷  -- 24 tagged template
    1 ∷  -- 25 spread
    2 ∷  -- 26 property
    0 ∷  -- 27 elision
    65535 ∷  -- 28 sequence
    0 ∷  -- 29 target name
    0 ∷  -- 30 opaque target
    []

-- a property has two children where its key is computed and isn't the string `__proto__`, else one
abbrev pub two_children : ℕ → Bool
two_children flags = computed flags && not (proto flags)

unfoldable pub good_children : NodeRecord → Bool
good_children n =
    leb (get_or fewest n.kind 0) n.children
    && leb n.children (get_or most n.kind 0)
    && (not (eqb n.kind 26) || two_children n.flags && eqb n.children 2 || not (two_children n.flags) && eqb n.children 1)

-- "1 optional (10, 11, 12, 14); 2 anonymous (2, 3); 3 compound (20); 4 shorthand (26, child a name); 5 computed (26),
-- never with 4; 6 key `__proto__` (26)"; bit 7 is not named
unfoldable pub good_flags : NodeRecord → Bool
good_flags n =
    ltb n.flags 128
    && (not (optional n.flags) || is_chain_element n.kind)
    && (not (anonymous n.flags) || eqb n.kind 2 || eqb n.kind 3)
    && (not (compound n.flags) || eqb n.kind 20)
    && (not (shorthand n.flags) || eqb n.kind 26)
    && (not (computed n.flags) || eqb n.kind 26)
    && (not (proto n.flags) || eqb n.kind 26)
    && (not (shorthand n.flags) || not (computed n.flags))

-- "The mark is clear on 1, 2, 5, 13, 26, 27, 28, 29, and on resolved names; an unresolved 29 may carry it." The flags are
-- those of the name that a label of 4 or 29 is.
unfoldable pub may_mark : ℕ → NodeRecord → Bool
may_mark nameFlags n =
    not (eqb n.kind 1 || eqb n.kind 2 || eqb n.kind 5 || eqb n.kind 13 || eqb n.kind 26 || eqb n.kind 27 || eqb n.kind 28)
    && (not (is_named n.kind) || unresolved nameFlags)

-- A node: its kind, "labels of 4 and 29 are name numbers", a zero u16, a position, its flags and its children. The flags
-- are those of the name that its label is, among so many names.
unfoldable pub good_node_of : ℕ → ℕ → NodeRecord → Bool
good_node_of names nameFlags n =
    leb n.kind 30
    && (not (is_named n.kind) || ltb n.label names)
    && eqb n.zero 0
    && not (eqb n.position no_position)
    && good_flags n
    && (not (marked n.flags) || may_mark nameFlags n)
    && good_children n

unfoldable pub good_node : List NameFacts → NodeRecord → Bool
good_node names n = good_node_of (length names) (flags_of names n.label) n

-- 7: "a node bad by itself"
unfoldable pub bad_nodes : List NameFacts → List NodeRecord → Bool
bad_nodes names ns = not (every (good_node names) ns)
