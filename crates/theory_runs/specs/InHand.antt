-- What a step can have in hand, with any values: by `beside` and `kept` of Run, and as `run_others` has it.
use Rattle.std.specs.Prelude.{ℕ, Bool, true, false, cond, ◌&&◌, ◌||◌, not, List, [], ◌∷◌, eqb}
use Rattle.records.specs.Tree.{Node, Tree, Trees, node, none, more}
use Rattle.records.specs.Place.{root}
use Rattle.records.specs.declared.layout.NameFacts.{NameFacts}
use Rattle.theory_runs.specs.Hand.{static, private, computed, Beside, nothing, bare_eval, target_name, opaque_target, member, Hand}
use Rattle.theory_runs.specs.Form.{is, cleared, form, childless}
use Rattle.theory_runs.specs.Run.{Turn, takes, then, kept, beside}

-- what is beside a value, with the values in it left out: its sort, and its label
unfoldable pub sort_of : {Value : Type 0} → Beside Value → ℕ × ℕ
sort_of nothing = (0, 0)
sort_of bare_eval = (1, 0)
sort_of (target_name a) = (2, a)
sort_of (opaque_target l) = (3, l)
sort_of (member o (static l)) = (4, l)
sort_of (member o (private l)) = (5, l)
sort_of (member o (computed w)) = (6, 0)

unfoldable pub same_beside : {A B : Type 0} → Beside A → Beside B → Bool
same_beside b c = eqb (sort_of b).0 (sort_of c).0 && eqb (sort_of b).1 (sort_of c).1

unfoldable pub is_nothing : {Value : Type 0} → Beside Value → Bool
is_nothing b = eqb (sort_of b).0 0

-- What a tree gives beside its value, and what a node has in hand of its first child, with the values left out.
unfoldable mutual
  pub beside_of : List NameFacts → Tree → Beside (Unit {0})
  beside_of names (node n kids) = beside names tt (form (cleared n)) (cleared n) (first_of names (cleared n) kids)

  pub first_of : List NameFacts → Node → Trees → Hand (Unit {0})
  first_of names n none = []
  first_of names n (more t ts) = record { value = tt; beside = kept (form n) n (beside_of names t) } ∷ []

-- what a node can have in hand of its first child beside the child's value: also nothing, if this is a chain, which may have
-- been cut short
unfoldable pub may_keep : {Value : Type 0} → List NameFacts → Node → Tree → Beside Value → Bool
may_keep names n t b = same_beside (kept (form n) n (beside_of names t)) b || is 13 (root t) && is_nothing b

module _ {Value : Type 0} where
  -- whether these are the values of those of the trees that run
  unfoldable pub are_values : Turn → Trees → Hand Value → Bool
  are_values w none [] = true
  are_values w none (h ∷ hs) = false
  are_values w (more t ts) [] = not (takes w) && are_values (then w) ts []
  are_values w (more t ts) (h ∷ hs) = cond (takes w) (is_nothing h.beside && are_values (then w) ts hs) (are_values (then w) ts (h ∷ hs))

  -- what a node over these children can have in hand when the first has run, and those of the others that run; a kind without
  -- children has nothing
  unfoldable pub may_have : List NameFacts → Node → Turn → Trees → Hand Value → Bool
  may_have names n w none [] = true
  may_have names n w none (h ∷ hs) = false
  may_have names n w (more t ts) [] = childless (form n)
  may_have names n w (more t ts) (h ∷ hs) = may_keep names n t h.beside && are_values w ts hs
