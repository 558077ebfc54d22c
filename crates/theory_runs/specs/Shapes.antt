-- The four shapes at which "Rust and ECMA-262 part", each as a test of a file.
use Rattle.std.specs.Prelude.{ℕ, Bool, false, ◌&&◌, ◌||◌, List, [], ◌∷◌, eqb, leb}
use Rattle.records.specs.Flags.{is_eval}
use Rattle.records.specs.Script.{flags_of}
use Rattle.records.specs.Tree.{Node, Tree, Trees, node, none, more, count}
use Rattle.records.specs.Place.{root}
use Rattle.records.specs.Count.{name_read}
use Rattle.records.specs.File.{Initializer, bare, given, Declarator, File, all_trees, all_declarators}
use Rattle.records.specs.declared.layout.NameFacts.{NameFacts}
use Rattle.theory_runs.specs.Settled.{facts_of, is_var, crosses}

-- whether a test holds of some node, with its children
unfoldable mutual
  pub some_in : (Node → Trees → Bool) → Tree → Bool
  some_in test (node n kids) = test n kids || some_of test kids

  pub some_of : (Node → Trees → Bool) → Trees → Bool
  some_of test none = false
  some_of test (more t ts) = some_in test t || some_of test ts

abbrev pub some_node : File → (Node → Trees → Bool) → Bool
some_node f test = some_of test (all_trees f.statements)

unfoldable pub declared_in : ℕ → List Declarator → Bool
declared_in a [] = false
declared_in a (d ∷ ds) = eqb d.name a || declared_in a ds

-- a name that the file declares
abbrev pub declared : File → ℕ → Bool
declared f a = declared_in a (all_declarators f.statements)

-- (P) "a template (23) with two or more substitutions" (ECMA-262 13.2.8.6: each is converted before the next is evaluated)
unfoldable pub shape_p : File → Bool
shape_p f = some_node f (λ n kids. eqb n.kind 23 && leb 2 (count kids))

unfoldable pub first_declared : File → Trees → Bool
first_declared f none = false
first_declared f (more t ts) = eqb (root t).kind 4 && declared f (root t).label

-- (Q) "`typeof` directly over a declared name" (ECMA-262 13.5.3.1: an unresolvable name is no error there)
unfoldable pub shape_q : File → Bool
shape_q f = some_node f (λ n kids. eqb n.kind 9 && eqb n.label 2 && first_declared f kids)

unfoldable pub eval_whole : List NameFacts → Initializer → Bool
eval_whole facts bare = false
eval_whole facts (given t) = eqb (root t).kind 4 && is_eval (flags_of facts (root t).label)

unfoldable pub some_eval : List NameFacts → List Declarator → Bool
some_eval facts [] = false
some_eval facts (d ∷ ds) = eval_whole facts d.initializer || some_eval facts ds

-- (R) "unresolved `eval` as a whole initializer" (ECMA-262 13.3.6.1: a call of bare `eval` is a direct one)
unfoldable pub shape_r : File → Bool
shape_r f = some_eval f.names (all_declarators f.statements)

-- (S) "a var name read across a function scope"
unfoldable pub shape_s : File → Bool
shape_s f = some_node f (λ n kids. is_var (facts_of f (name_read n kids)).flags && crosses f (facts_of f (name_read n kids)).scope)
