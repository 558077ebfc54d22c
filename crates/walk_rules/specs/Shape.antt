-- The kinds of nodes by what the search does at them, in one table (src/peephole/minimize_statements.rs 1284-1847), and the
-- shorthand rule (1747-1752).
use Rattle.std.specs.Prelude.{ℕ, ◌+◌, ◌-◌, Bool, cond, ◌&&◌, ◌||◌, not, eqb}
use Rattle.records.specs.Flags.{optional, compound, shorthand, computed, proto}
use Rattle.records.specs.Node.{two_children}
use Rattle.records.specs.Tree.{Node}

-- a node is of a kind
abbrev pub is : ℕ → Node → Bool
is kind n = eqb n.kind kind

-- `is_member_expression`
abbrev pub is_member_expression : Node → Bool
is_member_expression n = is 10 n || is 11 n || is 12 n

-- What decides on the children behind the first: nothing; whether they run (logical); whether the chain goes on (optional);
-- which of the two runs (conditional).
pub data Choice : Type 0 where
  never skips cuts picks : Choice

pub data Shape : Type 0 where
  constant identifier target_name leaf chain import delete sequence property stopping : Shape
  assignment : Bool → Shape
  steps : Choice → Shape

-- The kinds, each line with the arms of the Rust's `match`. The last one is AwaitExpression, YieldExpression, UnaryExpression,
-- StaticMemberExpression, PrivateFieldExpression, ComputedMemberExpression, CallExpression, NewExpression, BinaryExpression,
-- PrivateInExpression, ArrayExpression, ObjectExpression, TemplateLiteral and TaggedTemplateExpression.
unfoldable pub shape : Node → Shape
shape n =
    cond (is 1 n || is 2 n || is 27 n) constant  -- a literal, FunctionExpression, Elision
    (cond (is 4 n) identifier  -- Identifier
    (cond (is 29 n) target_name  -- a name as a target
    (cond (is 0 n || is 3 n || is 5 n || is 30 n) leaf  -- ClassExpression, ThisExpression, others, an opaque target
    (cond (is 13 n) chain  -- ChainExpression
    (cond (is 8 n) import  -- ImportExpression
    (cond (is 9 n && eqb n.label 1) delete  -- UnaryExpression, `is_delete`
    (cond (is 28 n) sequence  -- SequenceExpression
    (cond (is 26 n) (cond (two_children n.flags) stopping property)  -- ObjectProperty, by its key
    (cond (is 25 n) stopping  -- SpreadElement, SpreadProperty
    (cond (is 20 n) (assignment (compound n.flags))  -- AssignmentExpression, compound or not
    (cond (is 17 n) (steps skips)  -- LogicalExpression
    (cond (is 19 n) (steps picks)  -- ConditionalExpression
    (cond ((is_member_expression n || is 14 n) && optional n.flags) (steps cuts)  -- members and CallExpression, `optional`
    (steps never))))))))))))))

-- "A shorthand whose value walk gives an answer loses bit 4, and with bit 6 gains bit 5", if it hasn't got it: such a node.
-- Any other is unchanged.
unfoldable pub cleared : Node → Node
cleared n = record {
  kind = n.kind;
  flags = cond (is 26 n && shorthand n.flags) (n.flags - 16 + cond (proto n.flags && not (computed n.flags)) 32 0) n.flags;
  label = n.label;
  position = n.position;
}
