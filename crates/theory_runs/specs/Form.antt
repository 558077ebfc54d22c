-- How a node runs: all that the run asks of its kind, label and flags.
use Rattle.std.specs.Prelude.{ℕ, ◌+◌, ◌-◌, Bool, true, false, cond, ◌&&◌, ◌||◌, not, eqb, ltb}
use Rattle.records.specs.Flags.{marked, optional, compound, shorthand, computed, proto}
use Rattle.records.specs.Node.{is_chain_element, two_children}
use Rattle.records.specs.Tree.{Node}
use Rattle.theory_runs.specs.Step.{Role, value, target, deleted, Origin, of_node}

abbrev pub is : ℕ → Node → Bool
is kind n = eqb n.kind kind

-- A step never goes by "a property's bit 4, save that bits 4 and 6 mean what 5 and 6 do": the node with bit 4 taken away.
unfoldable pub cleared : Node → Node
cleared n = record {
  kind = n.kind;
  flags = cond (is 26 n && shorthand n.flags) (cond (proto n.flags && not (computed n.flags)) (n.flags + 16) (n.flags - 16)) n.flags;
  label = n.label;
  position = n.position;
}

-- "Kinds 6, 7 and 20 always count as marked." (20 has a form of its own below. ECMA-262: await 15.8.5, yield 15.5.5.)
unfoldable pub is_marked : Node → Bool
is_marked n = marked n.flags || is 6 n || is 7 n

-- a member: 10 static, 11 private, 12 computed
unfoldable pub is_member : Node → Bool
is_member n = is 10 n || is 11 n || is 12 n

-- `delete`: a unary node with label 1 (ECMA-262 13.5.1.2)
unfoldable pub is_delete : Node → Bool
is_delete n = is 9 n && eqb n.label 1

-- What is chosen when the first child has run: nothing; whether the second runs, in a logical expression or a compound
-- assignment; which of the two others runs; whether the chain goes on (ECMA-262 13.13.1, 13.15.2, 13.14.1, 13.3.9.1).
pub data Choice : Type 0 where
  never logical conditional optionally : Choice

-- constant: 1 literal, 2 function, 27 elision. name: 4. target_name: 29. leaf: the other kinds without children, 0, 3, 5
-- and 30. chain: 13. property: 26 with one child. importing: 8. sequence: 28. assignment: 20, compound or not. stepping:
-- every other kind, with what it chooses. (ECMA-262: literals 13.2.3.1, functions 15.2.6, elisions 13.2.4.1, names 13.1.3,
-- classes 15.7.16, `this` 13.2.1.1, chains 13.3.9.1, properties 13.2.5.5, imports 13.3.10.1, sequences 13.16.1, assignments
-- 13.15.2.)
pub data Form : Type 0 where
  constant name target_name leaf chain property importing sequence : Form
  assignment : Bool → Form
  stepping : Choice → Form

unfoldable pub form : Node → Form
form n =
    cond (is 1 n || is 2 n || is 27 n) constant
    (cond (is 4 n) name
    (cond (is 29 n) target_name
    (cond (is 0 n || is 3 n || is 5 n || is 30 n) leaf
    (cond (is 13 n) chain
    (cond (is 26 n && not (two_children n.flags)) property
    (cond (is 8 n) importing
    (cond (is 28 n) sequence
    (cond (is 20 n) (assignment (compound n.flags))
    (cond (is 17 n) (stepping logical)
    (cond (is 19 n) (stepping conditional)
    (cond (is_chain_element n.kind && optional n.flags) (stepping optionally)
    (stepping never))))))))))))

-- the number of a form, for tests
unfoldable pub order : Form → ℕ
order constant = 0
order name = 1
order target_name = 2
order leaf = 3
order chain = 4
order property = 5
order importing = 6
order sequence = 7
order (assignment false) = 8
order (assignment true) = 9
order (stepping c) = 10

-- a kind without children
unfoldable pub childless : Form → Bool
childless f = ltb (order f) 4

unfoldable pub is_name : Form → Bool
is_name f = eqb (order f) 1

unfoldable pub is_chain : Form → Bool
is_chain f = eqb (order f) 4

-- a plain assignment
unfoldable pub is_plain : Form → Bool
is_plain f = eqb (order f) 8

unfoldable pub is_assignment : Form → Bool
is_assignment f = eqb (order f) 8 || eqb (order f) 9

unfoldable pub choice_of : Form → Choice
choice_of constant = never
choice_of name = never
choice_of target_name = never
choice_of leaf = never
choice_of chain = never
choice_of property = never
choice_of importing = never
choice_of sequence = never
choice_of (assignment false) = never
choice_of (assignment true) = logical
choice_of (stepping c) = c

-- what a node's first child is evaluated for; a chain hands on what it is evaluated for itself
unfoldable pub first_role : Form → Node → Role → Role
first_role f n role = cond (is_plain f) target (cond (is_delete n) deleted (cond (is_chain f) role value))

-- Where a node's step comes from. Every node but a member and a target is evaluated for its value.
unfoldable pub origin_of : Node → Role → Origin
origin_of n role = of_node n.kind n.label n.flags (cond (is_member n || is 29 n || is 30 n) role value)
