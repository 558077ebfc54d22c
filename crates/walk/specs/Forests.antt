-- What is left of a forest once its first trees are passed.
use Rattle.std.specs.Prelude.{ℕ, ◌+◌, ◌≤◌, Bool, true, ◌||◌, List, ◌≡◌}
use Rattle.records.specs.Tree.{Tree, Trees, count, sizes}
use Rattle.records_table.specs.Laid.{At}
use Rattle.walk_rules.specs.Context.{Context}
use Rattle.walk_rules.specs.Substitute.{substitute_in_children}
use Rattle.walk_rules.specs.Looks.{looks_in_children}
use Rattle.walk_arms.specs.declared.replacement.Replacement.{Replacement}
use Rattle.walk_arms.specs.declared.walked.Answer.{Answer}
use Rattle.walk_arms.specs.Arms.{planned}
use Rattle.walk_arms.specs.Answers.{behind}
use Rattle.walk_arms.specs.Described.{Describes}
use Rattle.walk_arms.specs.Search.{all_bare_names, DidForest}
use Rattle.walk.specs.declared.forest.Forest.{Forest}

-- Of the forest `ts` that stood at `r`, the trees `rem` are left at `q`; those before are passed, with this effect. What a search
-- of `rem` does, it does of the whole forest; the looks so far are those of the trees that are passed.
pub record Left
    (ctx : Context) (known : Replacement) (table : List ℕ) (r q : Forest) (replacement : Tree) (ts rem : Trees)
    (pre pre' rest : List ℕ) (effect : Bool) : Type 0 where
  pub here : At table q.next.0 rem pre' rest
  pub many : count rem ≡ q.trees
  pub bare : all_bare_names ts ≡ true → all_bare_names rem ≡ true
  pub less : sizes rem ≤ sizes ts
  pub effects : q.effect ≡ (r.effect || effect)
  pub looks : r.looks + looks_in_children ctx known.name.0 replacement (planned r.plan) ts
      ≡ q.looks + looks_in_children ctx known.name.0 replacement (planned q.plan) rem
  pub on : {table' : List ℕ} {answer : Answer} {end : ℕ} {held : Trees}
      → DidForest table' q.next.0 rem pre' rest known.name.0 replacement answer end
      (substitute_in_children ctx known.name.0 replacement (planned q.plan) rem) held
      → (held' : Trees) × DidForest table' r.next.0 ts pre rest known.name.0 replacement (behind effect answer) end
      (substitute_in_children ctx known.name.0 replacement (planned r.plan) ts) held'

-- so it is of the forest that stood at `r` in `table`, and of what is left in `table'`
abbrev pub GoesOn : Context → Replacement → List ℕ → List ℕ → Forest → Forest → Type 0
GoesOn ctx known table table' r q =
    (replacement : Tree) → Describes known replacement → (pre : List ℕ) (ts : Trees) (rest : List ℕ)
    → At table r.next.0 ts pre rest → count ts ≡ r.trees
    → (rem : Trees) × (pre' : List ℕ) × (effect : Bool) × Left ctx known table' r q replacement ts rem pre pre' rest effect
