-- Scripts folded until steady: what is left, the names folded by all runs, and the runs, the last unchanged one counted.
use Prim.Native.Nat.{ℕ}
use mathlib.Core.List.{List, [], ◌∷◌, map}
use mathlib.Core.Path.{◌≡◌, refl}
use lib.ListN.{length}
use Rattle.records.specs.Tree.{Tree, none}
use Rattle.records.specs.File.{Let, Const, given, Declarator, Statement, declaration, expression, print}
use Rattle.records.specs.Refusal.{room_wanted}
use Rattle.records.specs.declared.layout.NameFacts.{NameFacts}
use Rattle.walk_rules.proofs.Build.{tree, one, two, literal, name, call, facts, unresolved_name}
use Rattle.statements_rules.specs.Steady.{same_bytes, Repeated, at_rest, run_before, repeat_fold, steady_bytes}
use Rattle.statements_rules.proofs.Computed.{computed}
use Rattle.statements_rules.proofs.Scripts.{file_of}

-- a script and what it comes to
pub record Case : Type 0 where
  pub names : List NameFacts
  pub statements : List Statement
  pub result : List Statement
  pub folds : List ℕ
  pub runs : ℕ

abbrev declarator : ℕ → Tree → Declarator
declarator n t = record { name = n; initializer = given t }

abbrev property : ℕ → ℕ → Tree → Tree
property flags position value = tree 26 flags 0 position (one value)

unfoldable pub cases : List Case
cases =
    -- `f()`: steady from the start. Names: f.
    record {
      names = facts 0 0 0 0 ∷ [];
      statements = expression (call 0 0 none) ∷ [];
      result = expression (call 0 0 none) ∷ [];
      folds = [];
      runs = 1;
    }
    -- `const v=f(); const r=1, p=use(v,r)` gives `const p=use(f(),1)`: r is folded by the first run, v by the second. Names: v, r,
    -- p, use, f.
    ∷ record {
      names = facts 17 0 1 0 ∷ facts 17 0 1 0 ∷ facts 17 0 0 0 ∷ facts 0 0 0 0 ∷ facts 0 0 0 0 ∷ [];
      statements =
          declaration Const (declarator 0 (call 4 8 none) ∷ [])
          ∷ declaration Const (declarator 1 (literal 21) ∷ declarator 2 (call 3 26 (two (name 0 30) (name 1 32))) ∷ [])
          ∷ [];
      result = declaration Const (declarator 2 (call 3 26 (two (tree 14 1 0 30 (one (name 4 8))) (literal 32))) ∷ []) ∷ [];
      folds = 1 ∷ 0 ∷ [];
      runs = 3;
    }
    -- `let v=f(); ({__proto__,k:v})`, the shorthand unresolved: no fold, and the first run makes the key computed. Names: v, f,
    -- `__proto__`.
    ∷ record {
      names = facts 17 0 1 0 ∷ facts 0 0 0 0 ∷ unresolved_name ∷ [];
      statements =
          declaration Let (declarator 0 (call 1 6 none) ∷ [])
          ∷ expression (tree 22 0 0 12 (two (property 80 13 (name 2 13)) (property 0 15 (name 0 17))))
          ∷ [];
      result =
          declaration Let (declarator 0 (call 1 6 none) ∷ [])
          ∷ expression (tree 22 0 0 12 (two (property 96 13 (name 2 13)) (property 0 15 (name 0 17))))
          ∷ [];
      folds = [];
      runs = 2;
    }
    -- `let ; f()` gives `f()`: D + 2 runs. Names: f.
    ∷ record {
      names = facts 0 0 0 0 ∷ [];
      statements = declaration Let [] ∷ expression (call 0 6 none) ∷ [];
      result = expression (call 0 6 none) ∷ [];
      folds = [];
      runs = 2;
    }
    ∷ []

abbrev came : Case → Repeated
came c = let bytes = print (file_of c.names c.statements) in steady_bytes bytes (room_wanted bytes)

pub runs-made : map (λ c. (came c).runs) cases ≡ map (λ c. c.runs) cases
unfolding computed cases same_bytes at_rest run_before repeat_fold steady_bytes
runs-made = refl

pub folds-made : map (λ c. (came c).folds) cases ≡ map (λ c. length c.folds) cases
unfolding computed cases same_bytes at_rest run_before repeat_fold steady_bytes
folds-made = refl

pub results : map (λ c. (came c).result) cases ≡ map (λ c. print (file_of c.names c.result)) cases
unfolding computed cases same_bytes at_rest run_before repeat_fold steady_bytes
results = refl
