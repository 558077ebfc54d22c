-- Small scripts, run by computation: the order that document 01 and ECMA-262 state. Assumes nothing.
use Prim.Native.Nat.{ℕ, ◌+◌}
use native.Mathlib.Omega.{arith}
use mathlib.Core.Bool.{Bool, false, cond, not}
use mathlib.Core.List.{List, [], ◌∷◌}
use mathlib.Core.Path.{◌≡◌, refl, sym, ap, ◌∙◌}
use lib.Dec.{eqb}
use Rattle.records.specs.Limits.{no_number}
use Rattle.records.specs.Script.{flags_of}
use Rattle.records.specs.Tree.{Tree, Trees, node, none, more}
use Rattle.records.specs.File.{Var, Let, Const, Using, bare, given, Statement, declaration, expression, other}
use Rattle.records.specs.declared.layout.NameFacts.{NameFacts}
use Rattle.theory_runs.specs.Store.{Store, set}
use Rattle.theory_runs.specs.Hand.{static, computed, Beside, nothing, bare_eval, target_name as aTarget, opaque_target, member, Given, only, first_or, last_or}
use Rattle.theory_runs.specs.Step.{value, target, deleted, Origin, of_node, of_declarator, of_other, Step}
use Rattle.theory_runs.specs.Meaning.{done, stops, Meaning}
use Rattle.theory_runs.specs.Form.{cleared, is_marked, is_member, is_delete, form, order, childless, is_name, is_chain, is_plain, is_assignment, choice_of, first_role, origin_of}
use Rattle.theory_runs.specs.State.{bind}
use Rattle.theory_runs.specs.Run.{takes, then, is_read, kept, listed, acted, caught, gathered, chosen, in_turn, stepped, queued, held, after_first, own, beside, finished, run_node, run}
use Rattle.theory_runs.specs.Script.{sets, binds, declares_bare, declares_with, run_declarator, run_declarators, gives, run_statement, run_statements, stopped, ended, Ran, whole, ran, begin}

-- Trees: a node by its kind, flags, label and children.
abbrev nd : ℕ → ℕ → ℕ → Trees → Tree
nd kind flags label kids = node (record { kind = kind; flags = flags; label = label; position = 0 }) kids

abbrev one : Tree → Trees
one t = more t none

abbrev two : Tree → Tree → Trees
two t u = more t (more u none)

abbrev three : Tree → Tree → Tree → Trees
three t u w = more t (more u (more w none))

abbrev name : ℕ → Tree
name a = nd 4 0 a none

abbrev literal : ℕ → Tree
literal l = nd 1 0 l none

-- a marked call of a name without arguments
abbrev call : ℕ → Tree
call a = nd 14 1 0 (one (name a))

-- a static member, unmarked
abbrev dot : Tree → ℕ → Tree
dot t l = nd 10 0 l (one t)

-- `const a = t`
abbrev const : ℕ → Tree → Statement
const a t = declaration Const (record { name = a; initializer = given t } ∷ [])

-- Names 0 to 8 are resolved, 9 is `eval`, 10 is unresolved.
abbrev plain_name : NameFacts
plain_name = record { flags = 1; scope = 0; reads = 0; writes = 0 }

abbrev facts : List NameFacts
facts =
    plain_name ∷ plain_name ∷ plain_name ∷ plain_name ∷ plain_name ∷ plain_name ∷ plain_name ∷ plain_name ∷ plain_name
    ∷ record { flags = 384; scope = no_number; reads = 0; writes = 0 } ∷ record { flags = 128; scope = no_number; reads = 0; writes = 0 } ∷ []

-- A clock: every marked step gives the time plus 99, and the time goes on by one; every other step that reads gives the
-- time. So a value says when it was made. A literal's value is its label, a property's its child's. A choice goes by
-- whether the value in hand is 0. An assignment to a name sets it. A step with label 99 stops.
unfoldable is_target : Beside ℕ → ℕ → Store ℕ ℕ → Store ℕ ℕ
is_target nothing w s = s
is_target bare_eval w s = s
is_target (aTarget a) w s = set a w s
is_target (opaque_target l) w s = s
is_target (member o k) w s = s

unfoldable assigns : List (Given ℕ) → Store ℕ ℕ → Store ℕ ℕ
assigns [] s = s
assigns (h ∷ hs) s = is_target h.beside (last_or h.value hs) s

unfoldable label_of : Origin → ℕ
label_of (of_node kind label flags role) = label
label_of (of_declarator k a) = 0
label_of of_other = 0

unfoldable is_assign : Origin → Bool
is_assign (of_node kind label flags role) = eqb kind 20
is_assign (of_declarator k a) = false
is_assign of_other = false

abbrev after : Step ℕ → Store ℕ ℕ → Store ℕ ℕ
after x s = cond (is_assign x.origin) (assigns x.hand s) s

unfoldable clock : Meaning ℕ ℕ
clock = record {
  undefined = 0;
  constant = λ x. last_or (label_of x.origin) x.hand;
  reads = λ x s. s.rest;
  chooses = λ x s. not (eqb (last_or 0 x.hand) 0);
  acts = λ x s. cond (eqb (label_of x.origin) 99) stops (done (99 + s.rest) (record { names = (after x s).names; rest = s.rest + 1 }));
}

-- The run of some statements; name a has the value 10 + a, but name 0 has 0; the time is 1.
unfoldable clocked : List Statement → Ran ℕ ℕ
unfolding cleared is_marked is_member is_delete form order childless is_name is_chain is_plain is_assignment choice_of first_role origin_of bind takes then is_read kept listed acted caught gathered chosen in_turn stepped queued held after_first own beside finished run_node run sets binds declares_bare declares_with run_declarator run_declarators gives run_statement run_statements whole ran begin first_or last_or set flags_of is_target assigns label_of is_assign clock
clocked ss = ran (run_statements facts clock ss (begin (record { names = λ a. cond (eqb a 0) 0 (10 + a); rest = 1 })))

-- A marked step of kind, flags and label with this in hand.
abbrev did : ℕ → ℕ → ℕ → List (Given ℕ) → Step ℕ
did kind flags label hs = record { origin = of_node kind label flags value; hand = hs }

-- a call of a name, with arguments
abbrev called : ℕ → List (Given ℕ) → Step ℕ
called a hs = did 14 1 0 (only (10 + a) ∷ hs)

-- a call of a static member that was read at this time, of an object with this value
abbrev called_on : ℕ → ℕ → ℕ → List (Given ℕ) → Step ℕ
called_on time object label hs = did 14 1 0 (record { value = time; beside = member object (static label) } ∷ hs)

-- The meter script. Names: 1 meter, 2 ref, 3 setLevel, 4 v. `const v = meter.read(); setLevel(ref.next(), v)`
meter : List Statement
meter =
    const 4 (nd 14 1 0 (one (dot (name 1) 1)))
    ∷ expression (nd 14 1 0 (three (name 3) (nd 14 1 0 (one (dot (name 2) 2))) (name 4)))
    ∷ []

-- `setLevel(ref.next(), meter.read())`
meter_by_hand : List Statement
meter_by_hand = expression (nd 14 1 0 (three (name 3) (nd 14 1 0 (one (dot (name 2) 2))) (nd 14 1 0 (one (dot (name 1) 1))))) ∷ []

-- The meter is read, the reference steps on, the level is set.
meter-steps : (clocked meter).steps ≡ (called_on 1 11 1 [] ∷ called_on 2 12 2 [] ∷ called 3 (only 101 ∷ only 100 ∷ []) ∷ [])
unfolding clocked meter
meter-steps = refl

-- Folded by hand, the reference steps on before the meter is read.
by_hand_steps : (clocked meter_by_hand).steps ≡ (called_on 1 12 2 [] ∷ called_on 2 11 1 [] ∷ called 3 (only 100 ∷ only 101 ∷ []) ∷ [])
unfolding clocked meter_by_hand
by_hand_steps = refl

unfoldable object_in : Beside ℕ → ℕ
object_in nothing = 0
object_in bare_eval = 0
object_in (aTarget a) = 0
object_in (opaque_target l) = 0
object_in (member o k) = o

unfoldable first_object : List (Step ℕ) → ℕ
unfolding object_in first_or
first_object [] = 0
first_object (x ∷ xs) = object_in (first_or 0 x.hand).beside

-- So that fold changes the list.
by_hand_differs : (clocked meter).steps ≡ (clocked meter_by_hand).steps → ⊥
unfolding first_object
by_hand_differs e =
    let z : ◌≡◌ {A = ℕ} 11 12 = ap first_object (sym meter-steps ∙ e ∙ by_hand_steps) in
    omega arith

-- `a?.b(f())`, where a is name 0 or 1, f is 2
chained : ℕ → Tree
chained a = nd 13 0 0 (one (nd 14 1 0 (two (nd 10 2 7 (one (name a))) (call 2))))

-- Cut short, neither `f` nor the member is called, and the chain gives `undefined`.
cut_short : ((clocked (expression (chained 0) ∷ [])).steps ≡ []) × ((clocked (expression (chained 0) ∷ [])).values ≡ (0 ∷ []))
unfolding clocked chained
cut_short = (refl, refl)

gone-on : (clocked (expression (chained 1) ∷ [])).steps ≡ (called 2 [] ∷ called_on 1 11 7 (only 100 ∷ []) ∷ [])
unfolding clocked chained
gone-on = refl

-- `(a?.b)(f())`: the chain alone is cut short; else the call has a's object in hand.
parenthesized : ℕ → Tree
parenthesized a = nd 14 1 0 (two (nd 13 0 0 (one (nd 10 2 7 (one (name a))))) (call 2))

parenthesized-cut : (clocked (expression (parenthesized 0) ∷ [])).steps ≡ (called 2 [] ∷ did 14 1 0 (only 0 ∷ only 100 ∷ []) ∷ [])
unfolding clocked parenthesized
parenthesized-cut = refl

parenthesized-on : (clocked (expression (parenthesized 1) ∷ [])).steps ≡ (called 2 [] ∷ called_on 1 11 7 (only 100 ∷ []) ∷ [])
unfolding clocked parenthesized
parenthesized-on = refl

-- `x += f()`: the name's value is read before `f` is called; then the name is set to the step's last value in hand.
compound-name : (clocked (expression (nd 20 8 5 (two (nd 29 0 3 none) (call 2))) ∷ [])).steps
    ≡ (called 2 [] ∷ did 20 8 5 (record { value = 13; beside = aTarget 3 } ∷ only 100 ∷ []) ∷ [])
unfolding clocked
compound-name = refl

-- `o.p += f()`: the member is read at time 1, before `f`.
compound-member : (clocked (expression (nd 20 8 5 (two (dot (name 1) 7) (call 2))) ∷ [])).steps
    ≡ (called 2 [] ∷ did 20 8 5 (record { value = 1; beside = member 11 (static 7) } ∷ only 100 ∷ []) ∷ [])
unfolding clocked
compound-member = refl

-- `x ??= f()` where the choice is that the value doesn't run
compound-short : (clocked (expression (nd 20 8 5 (two (nd 29 0 0 none) (call 2))) ∷ [])).steps
    ≡ (did 20 8 5 (record { value = 0; beside = aTarget 0 } ∷ []) ∷ [])
unfolding clocked
compound-short = refl

-- `o()[k()] = f()`: object, key, value, assignment.
plain-member : (clocked (expression (nd 20 0 5 (two (nd 12 0 0 (two (call 1) (call 2))) (call 3))) ∷ [])).steps
    ≡ (called 1 [] ∷ called 2 [] ∷ called 3 [] ∷ did 20 0 5 (record { value = 3; beside = member 100 (computed 101) } ∷ only 102 ∷ []) ∷ [])
unfolding clocked
plain-member = refl

-- A marked target makes its step, in the role of a target, before the value runs.
marked-target : (clocked (expression (nd 20 0 5 (two (nd 10 1 7 (one (name 1))) (call 2))) ∷ [])).steps
    ≡ (record { origin = of_node 10 7 1 target; hand = only 11 ∷ [] } ∷ called 2 [] ∷ did 20 0 5 (record { value = 100; beside = member 11 (static 7) } ∷ only 101 ∷ []) ∷ [])
unfolding clocked
marked-target = refl

-- `delete o?.p`: the member has the role of one that is deleted, and `delete` has its object and key.
deleted-member : (clocked (expression (nd 9 1 1 (one (nd 13 0 0 (one (nd 10 3 7 (one (name 1))))))) ∷ [])).steps
    ≡ (record { origin = of_node 10 7 3 deleted; hand = only 11 ∷ [] } ∷ did 9 1 1 (record { value = 100; beside = member 11 (static 7) } ∷ []) ∷ [])
unfolding clocked
deleted-member = refl

-- `c ? f() : g()`
branches : ℕ → Tree
branches c = nd 19 0 0 (three (name c) (call 2) (call 3))

first_branch : (clocked (expression (branches 1) ∷ [])).steps ≡ (called 2 [] ∷ [])
unfolding clocked branches
first_branch = refl

second_branch : (clocked (expression (branches 0) ∷ [])).steps ≡ (called 3 [] ∷ [])
unfolding clocked branches
second_branch = refl

-- `c && f()`
logical-runs : (clocked (expression (nd 17 0 0 (two (name 1) (call 2))) ∷ [])).steps ≡ (called 2 [] ∷ [])
unfolding clocked
logical-runs = refl

logical-short : (clocked (expression (nd 17 0 0 (two (name 0) (call 2))) ∷ [])).steps ≡ []
unfolding clocked
logical-short = refl

-- a marked template with the substitutions `f()` and `g()`: these, and then its step
template : (clocked (expression (nd 23 1 0 (two (call 2) (call 3))) ∷ [])).steps ≡ (called 2 [] ∷ called 3 [] ∷ did 23 1 0 (only 100 ∷ only 101 ∷ []) ∷ [])
unfolding clocked
template = refl

-- a tagged template: the tag is a member, and gives its object and key
tagged : (clocked (expression (nd 24 1 0 (two (dot (name 1) 7) (call 2))) ∷ [])).steps
    ≡ (called 2 [] ∷ did 24 1 0 (record { value = 1; beside = member 11 (static 7) } ∷ only 100 ∷ []) ∷ [])
unfolding clocked
tagged = refl

-- the tag `(0, o.t)` gives its value alone
tagged-aside : (clocked (expression (nd 24 1 0 (two (nd 28 0 0 (two (literal 65535) (dot (name 1) 7))) (call 2))) ∷ [])).steps
    ≡ (called 2 [] ∷ did 24 1 0 (only 1 ∷ only 100 ∷ []) ∷ [])
unfolding clocked
tagged-aside = refl

-- `{[k()]: f(), [j()]: g()}`: each key before its value; a computed property's own step reads, at the times 3 and 5
computed_keys : (clocked (expression (nd 22 1 0 (two (nd 26 32 0 (two (call 1) (call 2))) (nd 26 32 0 (two (call 3) (call 4))))) ∷ [])).steps
    ≡ (called 1 [] ∷ called 2 [] ∷ called 3 [] ∷ called 4 [] ∷ did 22 1 0 (only 3 ∷ only 5 ∷ []) ∷ [])
unfolding clocked
computed_keys = refl

-- `{a: 5}` and `[, f()]`: a property of one child and an elision read nothing; a literal's value is its label.
property-value : (clocked (expression (nd 22 1 0 (one (nd 26 0 6 (one (literal 5))))) ∷ [])).steps ≡ (did 22 1 0 (only 5 ∷ []) ∷ [])
unfolding clocked
property-value = refl

elision : (clocked (expression (nd 21 1 0 (two (nd 27 0 6 none) (call 2))) ∷ [])).steps ≡ (called 2 [] ∷ did 21 1 0 (only 6 ∷ only 100 ∷ []) ∷ [])
unfolding clocked
elision = refl

-- `[a] = f(); x`, where the opaque target has the label of x: an opaque target is no name, and x keeps its value.
opaque_target_lem : clocked (expression (nd 20 0 5 (two (nd 30 0 3 none) (call 2))) ∷ expression (name 3) ∷ [])
    ≡ record {
      steps = called 2 [] ∷ did 20 0 5 (record { value = 1; beside = opaque_target 3 } ∷ only 100 ∷ []) ∷ [];
      values = 101 ∷ 13 ∷ [];
      end = ended (record { names = λ a. cond (eqb a 0) 0 (10 + a); rest = 3 });
    }
unfolding clocked
opaque_target_lem = refl

-- `x = f(); x`: the name is set.
name-target : (clocked (expression (nd 20 0 5 (two (nd 29 0 3 none) (call 2))) ∷ expression (name 3) ∷ [])).values ≡ (101 ∷ 100 ∷ [])
unfolding clocked
name-target = refl

-- `f(...g(), h())`: the spread makes its step before the next argument runs.
spread : (clocked (expression (nd 14 1 0 (three (name 1) (nd 25 1 0 (one (call 2))) (call 3))) ∷ [])).steps
    ≡ (called 2 [] ∷ did 25 1 0 (only 100 ∷ []) ∷ called 3 [] ∷ called 1 (only 101 ∷ only 102 ∷ []) ∷ [])
unfolding clocked
spread = refl

-- `({x})` and `({x: x})`, `({__proto__})` and `({["__proto__"]: __proto__})` are the same to the run.
shorthand : (l : ℕ) → (clocked (expression (nd 22 1 0 (one (nd 26 16 l (one (name 1))))) ∷ []) ≡ clocked (expression (nd 22 1 0 (one (nd 26 0 l (one (name 1))))) ∷ []))
    × (clocked (expression (nd 22 1 0 (one (nd 26 80 l (one (name 1))))) ∷ []) ≡ clocked (expression (nd 22 1 0 (one (nd 26 96 l (one (name 1))))) ∷ []))
unfolding clocked
shorthand l = (refl, refl)

-- `eval(f())` has in hand that its callee is bare `eval`; `(0, eval)(f())` has not. (The name `eval` is read at time 1.)
direct_eval : (clocked (expression (nd 14 1 0 (two (name 9) (call 2))) ∷ [])).steps
    ≡ (called 2 [] ∷ did 14 1 0 (record { value = 1; beside = bare_eval } ∷ only 100 ∷ []) ∷ [])
unfolding clocked
direct_eval = refl

indirect_eval : (clocked (expression (nd 14 1 0 (two (nd 28 0 0 (two (literal 1) (name 9))) (call 2))) ∷ [])).steps
    ≡ (called 2 [] ∷ did 14 1 0 (only 1 ∷ only 100 ∷ []) ∷ [])
unfolding clocked
indirect_eval = refl

-- `import(f())`: in the list, unmarked, and the time doesn't go on.
imported : (clocked (expression (nd 8 0 0 (one (call 2))) ∷ [])).steps ≡ (called 2 [] ∷ did 8 0 0 (only 100 ∷ []) ∷ [])
unfolding clocked
imported = refl

imported-end : (clocked (expression (nd 8 0 0 (one (literal 5))) ∷ expression (nd 0 0 0 none) ∷ [])).values ≡ (1 ∷ 1 ∷ [])
unfolding clocked
imported-end = refl

-- `f(); let x; x; <other>; <a step that stops>; g()`: the run ends its list with the step that stops; what was finished before
-- has given its value.
stops-there : clocked
    (expression (call 2)
    ∷ declaration Let (record { name = 3; initializer = bare } ∷ [])
    ∷ expression (name 3)
    ∷ other
    ∷ expression (nd 14 1 99 (one (name 1)))
    ∷ expression (call 4)
    ∷ [])
    ≡ record {
      steps = called 2 [] ∷ record { origin = of_other; hand = [] } ∷ did 14 1 99 (only 11 ∷ []) ∷ [];
      values = 100 ∷ 0 ∷ 101 ∷ [];
      end = stopped;
    }
unfolding clocked
stops-there = refl

-- Declarators: a pattern and a using make a step with the initializer's value in hand; a bare var, const or pattern none.
declarators : (clocked
    (declaration Var (record { name = 3; initializer = bare } ∷ record { name = no_number; initializer = given (call 2) } ∷ [])
    ∷ declaration Const (record { name = 4; initializer = bare } ∷ [])
    ∷ declaration Let (record { name = no_number; initializer = bare } ∷ [])
    ∷ declaration Using (record { name = 5; initializer = given (name 3) } ∷ record { name = 6; initializer = bare } ∷ [])
    ∷ [])).steps
    ≡ (called 2 [] ∷ record { origin = of_declarator Var no_number; hand = only 100 ∷ [] } ∷ record { origin = of_declarator Using 5; hand = only 13 ∷ [] }
    ∷ record { origin = of_declarator Using 6; hand = [] } ∷ [])
unfolding clocked
declarators = refl
