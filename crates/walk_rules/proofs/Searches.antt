-- Searches, some examples of each rule, with their looks.
use Prim.Native.Nat.{ℕ}
use mathlib.Core.Path.{◌≡◌, refl}
use mathlib.Core.List.{List, [], ◌∷◌, map}
use Rattle.records.specs.Limits.{no_number}
use Rattle.records.specs.Tree.{Tree, Trees, none}
use Rattle.walk_rules.specs.Context.{Context}
use Rattle.walk_rules.specs.Substitute.{Answer, replaced, stopped, passed, substitute_in_expression}
use Rattle.walk_rules.specs.Looks.{looks_in_expression}
use Rattle.walk_rules.proofs.Build.{tree, one, two, three, literal, name, member, facts, unresolved_name, outermost}
use Rattle.walk_rules.proofs.Computed.{computed}

-- names: v (0), settled a (1), unresolved g (2), written w (3)
abbrev ctx : Context
ctx = record {
  options = 0;
  current_scope = 0;
  this_scope = no_number;
  names = facts 17 0 1 0 ∷ facts 0 0 0 0 ∷ unresolved_name ∷ facts 16 0 0 1 ∷ [];
  scopes = outermost 0 ∷ [];
  frames = [];
}

-- the initializer of v, and the tree that is searched; the answer, and the looks
pub record Case : Type 0 where
  pub initializer : Tree
  pub target : Tree
  pub answer : Answer Tree
  pub looks : ℕ

abbrev case : Tree → Tree → Answer Tree → ℕ → Case
case initializer target answer looks = record { initializer = initializer; target = target; answer = answer; looks = looks }

-- `v`, `a`, `g`, `w`; `a()` and `a.b`, which has no effect, at a position; a function
abbrev v : Tree
v = name 0 7

abbrev a : Tree
a = name 1 0

abbrev g : Tree
g = name 2 0

abbrev w : Tree
w = name 3 0

abbrev effect : ℕ → Tree
effect position = tree 14 1 0 position (one (name 1 0))

abbrev read : ℕ → Tree
read position = tree 10 0 0 position (one (name 1 0))

-- a chain over an optional member (10) or call (14) of `a`
abbrev chained : ℕ → ℕ → Tree
chained position kind = tree 13 0 0 position (one (tree kind 2 0 0 (one a)))

abbrev function : Tree
function = tree 2 0 0 0 none

-- a tree over others, without flags
abbrev over : ℕ → Trees → Tree
over kind kids = tree kind 0 0 0 kids

-- `{ k: t }`, by the property's flags
abbrev object : ℕ → Trees → Tree
object flags kids = over 22 (one (tree 26 flags 0 0 kids))

-- a plain assignment
abbrev assigned : Tree → Tree → Tree
assigned target value = over 20 (two target value)

pub cases : List Case
cases =
    case (literal 3) v (replaced (literal 7)) 1  -- it takes the name's position
    ∷ case (effect 3) a passed 1
    ∷ case (effect 3) w (stopped w) 1
    ∷ case (read 3) w passed 1
    ∷ case (effect 3) (over 5 none) (stopped (over 5 none)) 1  -- `this`
    ∷ case (effect 3) function passed 1
    -- `a && v`
    ∷ case (effect 3) (over 17 (two a v)) (stopped (over 17 (two a v))) 2
    ∷ case (read 3) (over 17 (two a v)) (replaced (over 17 (two a (read 7)))) 3
    -- `a ? v : v`, `a ? a() : v`, `a ? a() : a`
    ∷ case (effect 3) (over 19 (three a v v)) (stopped (over 19 (three a v v))) 2
    ∷ case (read 3) (over 19 (three a (effect 0) v)) (replaced (over 19 (three a (effect 0) (read 7)))) 4
    ∷ case (read 3) (over 19 (three a (effect 0) a)) (stopped (over 19 (three a (effect 0) a))) 4
    -- `a?.[v]`
    ∷ case (effect 3) (over 13 (one (tree 12 2 0 0 (two a v)))) (stopped (over 13 (one (tree 12 2 0 0 (two a v))))) 3
    ∷ case (effect 3) (over 12 (two a v)) (replaced (over 12 (two a (effect 7)))) 3
    -- `v()`, `a(v)`, `new a(v)`
    ∷ case (read 3) (over 14 (one v)) passed 1
    ∷ case (read 3) (over 14 (two a v)) passed 1
    ∷ case (read 3) (over 15 (two a v)) passed 1
    ∷ case (effect 3) (over 14 (one v)) (replaced (over 14 (one (effect 7)))) 2
    -- a tag: `a.b`, `a?.b`, `a?.()`, `a()`
    ∷ case (read 3) (over 24 (one v)) (replaced (over 24 (one (tree 28 0 0 7 (two (tree 1 0 65535 7 none) (read 7)))))) 2
    ∷ case (chained 3 10) (over 24 (one v)) (replaced (over 24 (one (tree 28 0 0 7 (two (tree 1 0 65535 7 none) (chained 7 10)))))) 2
    ∷ case (chained 3 14) (over 24 (one v)) (replaced (over 24 (one (chained 7 14)))) 2
    ∷ case (effect 3) (over 24 (two v v)) (replaced (over 24 (two (effect 7) v))) 2
    -- `{g}`, `{__proto__}`, `{['__proto__']: v}`, `{[a]: v}`, `{...a}`, `{k: v}`
    ∷ case (effect 3) (object 16 (one g)) (stopped (object 0 (one g))) 2
    ∷ case (effect 3) (object 80 (one g)) (stopped (object 96 (one g))) 2
    ∷ case (effect 3) (object 64 (one g)) (stopped (object 64 (one g))) 2
    ∷ case (literal 3) (object 96 (one v)) (stopped (object 96 (one v))) 2
    ∷ case (literal 3) (object 32 (two a v)) (stopped (object 32 (two a v))) 2
    ∷ case (literal 3) (over 22 (one (over 25 (one a)))) (stopped (over 22 (one (over 25 (one a))))) 2
    ∷ case (effect 3) (object 16 (one v)) (replaced (object 0 (one (effect 7)))) 2
    -- `[, v]`, `[...a, v]`
    ∷ case (effect 3) (over 21 (two (over 27 none) v)) (replaced (over 21 (two (over 27 none) (effect 7)))) 2
    ∷ case (literal 3) (over 21 (two (over 25 (one a)) v)) (stopped (over 21 (two (over 25 (one a)) v))) 2
    -- `delete v`, `(import(a), v)`
    ∷ case (literal 3) (tree 9 0 1 0 (one v)) passed 1
    ∷ case (read 3) (over 28 (two (over 8 (one a)) v)) (replaced (over 28 (two (over 8 (one a)) (read 7)))) 4
    -- `x = v`, `x += v`, `a.b = v`, `w.b = v`, `a[1] = v`, `a[function] = v`, `this.b = v`, `[..] = v`
    ∷ case (effect 3) (assigned (tree 29 0 3 0 none) v) (replaced (assigned (tree 29 0 3 0 none) (effect 7))) 2
    ∷ case (effect 3) (tree 20 8 0 0 (two (tree 29 0 3 0 none) v)) (stopped (tree 20 8 0 0 (two (tree 29 0 3 0 none) v))) 1
    ∷ case (effect 3) (assigned (member 1 0) v) (replaced (assigned (member 1 0) (effect 7))) 2
    ∷ case (effect 3) (assigned (member 3 0) v) (stopped (assigned (member 3 0) v)) 1
    ∷ case (read 3) (assigned (member 3 0) v) (replaced (assigned (member 3 0) (read 7))) 2
    ∷ case (effect 3) (assigned (over 12 (two a (literal 0))) v) (replaced (assigned (over 12 (two a (literal 0))) (effect 7))) 2
    ∷ case (effect 3) (assigned (over 12 (two a function)) v) (stopped (assigned (over 12 (two a function)) v)) 1
    ∷ case (effect 3) (assigned (over 10 (one (over 5 none))) v) (replaced (assigned (over 10 (one (over 5 none))) (effect 7))) 2
    ∷ case (effect 3) (assigned (over 30 none) v) (stopped (assigned (over 30 none) v)) 1
    ∷ case (literal 3) (assigned (tree 10 1 0 0 (one a)) v) (stopped (assigned (tree 10 1 0 0 (one a)) v)) 1
    ∷ []

pub answers : map (λ c. substitute_in_expression ctx 0 c.initializer c.target) cases ≡ map (λ c. c.answer) cases
unfolding computed cases
answers = refl

pub looks : map (λ c. looks_in_expression ctx 0 c.initializer c.target) cases ≡ map (λ c. c.looks) cases
unfolding computed cases
looks = refl
