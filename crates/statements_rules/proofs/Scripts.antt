-- The twelve scripts of document 01, each with its file and what its fold gives.
use Prim.Native.Nat.{ℕ}
use mathlib.Core.Path.{◌≡◌, refl}
use mathlib.Core.List.{List, [], ◌∷◌, map}
use lib.ListN.{length}
use Rattle.records.specs.Limits.{no_number}
use Rattle.records.specs.Tree.{Tree, none}
use Rattle.records.specs.File.{Let, Const, given, Declarator, Statement, declaration, expression, File, print}
use Rattle.records.specs.Refusal.{room_wanted}
use Rattle.records.specs.declared.layout.NameFacts.{NameFacts}
use Rattle.walk_rules.proofs.Build.{tree, one, two, literal, name, call, member, facts, unresolved_name, outermost}
use Rattle.statements_rules.specs.Fold.{Returned, fold_file, fold_bytes}
use Rattle.statements_rules.proofs.Computed.{computed}

-- the facts about the names, the statements, and what the fold gives: the statements, their numbers in the file, the names
-- folded in order, and the looks
pub record Script : Type 0 where
  pub names : List NameFacts
  pub statements : List Statement
  pub result : List Statement
  pub kept : List ℕ
  pub folds : List ℕ
  pub looks : ℕ

-- a file of one scope, without options
abbrev pub file_of : List NameFacts → List Statement → File
file_of names statements = record {
  options = 0;
  current_scope = 0;
  this_scope = no_number;
  names = names;
  scopes = outermost 0 ∷ [];
  frames = [];
  statements = statements;
}

-- a block scoped name with so many reads; and one without a record
abbrev declared : ℕ → NameFacts
declared reads = facts 17 0 reads 0

abbrev settled : NameFacts
settled = facts 0 0 0 0

-- `n = t`
abbrev declarator : ℕ → Tree → Declarator
declarator n t = record { name = n; initializer = given t }

abbrev lets : ℕ → Tree → Statement
lets n t = declaration Let (declarator n t ∷ [])

abbrev consts : ℕ → Tree → Statement
consts n t = declaration Const (declarator n t ∷ [])

-- a script that is kept
abbrev kept : List NameFacts → List Statement → ℕ → Script
kept names statements looks =
    record { names = names; statements = statements; result = statements; kept = 0 ∷ 1 ∷ []; folds = []; looks = looks }

-- a property at a position, by its flags and label
abbrev property : ℕ → ℕ → ℕ → Tree → Tree
property flags label position value = tree 26 flags label position (one value)

-- `{g, k: v}`, by the flags of g's property
abbrev object : ℕ → Statement
object flags = expression (tree 22 0 0 12 (two (property flags 0 13 (name 2 13)) (property 0 1 15 (name 0 17))))

-- a template with a tag
abbrev tagged : Tree → Statement
tagged tag = expression (tree 24 1 0 11 (one tag))

-- `f()` that stood at one position and was placed at another
abbrev placed : ℕ → ℕ → ℕ → Tree
placed callee from to = tree 14 1 0 to (one (name callee from))

unfoldable pub scripts : List Script
scripts =
    -- 1. `const n=1; use(n)` gives `use(1)`. Names: n, use.
    record {
      names = declared 1 ∷ settled ∷ [];
      statements = consts 0 (literal 8) ∷ expression (call 1 11 (one (name 0 15))) ∷ [];
      result = expression (call 1 11 (one (literal 15))) ∷ [];
      kept = 1 ∷ [];
      folds = 0 ∷ [];
      looks = 3;
    }
    -- 2. Reads 2: kept.
    ∷ kept (declared 2 ∷ settled ∷ []) (consts 0 (literal 8) ∷ expression (call 1 11 (one (name 0 15))) ∷ []) 0
    -- 3. Reads 0, `use(m)`: kept. Names: n, use, m.
    ∷ kept (declared 0 ∷ settled ∷ settled ∷ []) (consts 0 (literal 8) ∷ expression (call 1 11 (one (name 2 15))) ∷ []) 3
    -- 4. `let v=f(); a&&v` kept. Names: v, f, a.
    ∷ kept (declared 1 ∷ settled ∷ settled ∷ [])
    (lets 0 (call 1 6 none) ∷ expression (tree 17 0 0 11 (two (name 2 11) (name 0 14))) ∷ []) 2
    -- 5. `let v=b; a&&v` gives `a&&b`. Names: v, b, a.
    ∷ record {
      names = declared 1 ∷ settled ∷ settled ∷ [];
      statements = lets 0 (name 1 6) ∷ expression (tree 17 0 0 9 (two (name 2 9) (name 0 12))) ∷ [];
      result = expression (tree 17 0 0 9 (two (name 2 9) (name 1 12))) ∷ [];
      kept = 1 ∷ [];
      folds = 0 ∷ [];
      looks = 3;
    }
    -- 6. `let v=f(); o?.(v)` kept. Names: v, f, o.
    ∷ kept (declared 1 ∷ settled ∷ settled ∷ [])
    (lets 0 (call 1 6 none) ∷ expression (tree 13 0 0 11 (one (tree 14 3 0 11 (two (name 2 11) (name 0 15))))) ∷ []) 3
    -- 7. `o(v)` gives `o(f())`.
    ∷ record {
      names = declared 1 ∷ settled ∷ settled ∷ [];
      statements = lets 0 (call 1 6 none) ∷ expression (call 2 11 (one (name 0 13))) ∷ [];
      result = expression (call 2 11 (one (placed 1 6 13))) ∷ [];
      kept = 1 ∷ [];
      folds = 0 ∷ [];
      looks = 3;
    }
    -- 8. `let v=a.b; v(1)` kept. Names: v, a.
    ∷ kept (declared 1 ∷ settled ∷ []) (lets 0 (member 1 6) ∷ expression (call 0 11 (one (literal 13))) ∷ []) 1
    -- 9. Tag `v` gives `(0,a.b)`.
    ∷ record {
      names = declared 1 ∷ settled ∷ [];
      statements = lets 0 (member 1 6) ∷ tagged (name 0 11) ∷ [];
      result = tagged (tree 28 0 0 11 (two (tree 1 0 65535 11 none) (tree 10 0 0 11 (one (name 1 6))))) ∷ [];
      kept = 1 ∷ [];
      folds = 0 ∷ [];
      looks = 2;
    }
    -- 10. `let v=f(); ({g,k:v})`, g unresolved: kept, g no longer shorthand. Names: v, f, g.
    ∷ record {
      names = declared 1 ∷ settled ∷ unresolved_name ∷ [];
      statements = lets 0 (call 1 6 none) ∷ object 16 ∷ [];
      result = lets 0 (call 1 6 none) ∷ object 0 ∷ [];
      kept = 0 ∷ 1 ∷ [];
      folds = [];
      looks = 2;
    }
    -- 11. `let a=f(), v=g(); use(a,v)`: two folds. Names: a, v, f, use, g.
    ∷ record {
      names = declared 1 ∷ declared 1 ∷ settled ∷ settled ∷ settled ∷ [];
      statements =
          declaration Let (declarator 0 (call 2 6 none) ∷ declarator 1 (call 4 13 none) ∷ [])
          ∷ expression (call 3 18 (two (name 0 22) (name 1 24)))
          ∷ [];
      result = expression (call 3 18 (two (placed 2 6 22) (placed 4 13 24))) ∷ [];
      kept = 1 ∷ [];
      folds = 1 ∷ 0 ∷ [];
      looks = 9;
    }
    -- 12. `let v=f(); let y=v,z=y; use(z)` gives `use(f())`, three folds. Names: v, y, z, f, use.
    ∷ record {
      names = declared 1 ∷ declared 1 ∷ declared 1 ∷ settled ∷ settled ∷ [];
      statements =
          lets 0 (call 3 6 none)
          ∷ declaration Let (declarator 1 (name 0 17) ∷ declarator 2 (name 1 21) ∷ [])
          ∷ expression (call 4 24 (one (name 2 28)))
          ∷ [];
      result = expression (call 4 24 (one (placed 3 6 28))) ∷ [];
      kept = 2 ∷ [];
      folds = 0 ∷ 1 ∷ 2 ∷ [];
      looks = 5;
    }
    ∷ []

-- the script with what the fold makes of its file in the place of what it says of it
abbrev again : Script → Script
again s =
    let w = fold_file (file_of s.names s.statements) in
    record {
      names = w.file.names;
      statements = s.statements;
      result = w.file.statements;
      kept = w.kept;
      folds = map (λ f. f.name) w.trace;
      looks = w.looks;
    }

-- Every script is folded to its result.
pub scripts-folded : map again scripts ≡ scripts
unfolding computed scripts
scripts-folded = refl

-- So are their bytes, with just enough room.
abbrev bytes_of : List NameFacts → List Statement → List ℕ
bytes_of names statements = print (file_of names statements)

abbrev returned : Script → Returned
returned s = fold_bytes (bytes_of s.names s.statements) (room_wanted (bytes_of s.names s.statements))

abbrev stated : Script → Returned
stated s = record {
  number = 0;
  result_length = length (bytes_of s.names s.result);
  folds = length s.folds;
  result = bytes_of s.names s.result;
}

pub scripts-returned : map returned scripts ≡ map stated scripts
unfolding computed scripts
scripts-returned = refl

-- "Script 1 (112 bytes in, 92 out)", a record to a line
pub script1 : List ℕ
script1 =
    87 ∷ 83 ∷ 70 ∷ 0 ∷ 1 ∷ 0 ∷ 2 ∷ 0 ∷ 1 ∷ 0 ∷ 0 ∷ 0 ∷ 4 ∷ 0 ∷ 1 ∷ 0 ∷ 2 ∷ 0 ∷ 0 ∷ 0 ∷ 255 ∷ 255 ∷ 0 ∷ 0
    ∷ 17 ∷ 0 ∷ 0 ∷ 0 ∷ 1 ∷ 0 ∷ 0 ∷ 0 ∷ 0 ∷ 0 ∷ 0 ∷ 0
    ∷ 0 ∷ 0 ∷ 0 ∷ 0 ∷ 0 ∷ 0 ∷ 0 ∷ 0 ∷ 0 ∷ 0 ∷ 0 ∷ 0
    ∷ 255 ∷ 255 ∷ 0 ∷ 0
    ∷ 1 ∷ 0 ∷ 0 ∷ 0 ∷ 0 ∷ 0 ∷ 0 ∷ 0 ∷ 8 ∷ 0 ∷ 0 ∷ 0
    ∷ 14 ∷ 1 ∷ 0 ∷ 0 ∷ 2 ∷ 0 ∷ 0 ∷ 0 ∷ 11 ∷ 0 ∷ 0 ∷ 0
    ∷ 4 ∷ 0 ∷ 1 ∷ 0 ∷ 0 ∷ 0 ∷ 0 ∷ 0 ∷ 11 ∷ 0 ∷ 0 ∷ 0
    ∷ 4 ∷ 0 ∷ 0 ∷ 0 ∷ 0 ∷ 0 ∷ 0 ∷ 0 ∷ 15 ∷ 0 ∷ 0 ∷ 0
    ∷ 0 ∷ 0 ∷ 1 ∷ 0
    ∷ 2 ∷ 0 ∷ 1 ∷ 0
    ∷ 5 ∷ 0 ∷ 0 ∷ 0
    ∷ []

pub result1 : List ℕ
result1 =
    87 ∷ 83 ∷ 70 ∷ 0 ∷ 1 ∷ 0 ∷ 2 ∷ 0 ∷ 1 ∷ 0 ∷ 0 ∷ 0 ∷ 3 ∷ 0 ∷ 0 ∷ 0 ∷ 1 ∷ 0 ∷ 0 ∷ 0 ∷ 255 ∷ 255 ∷ 0 ∷ 0
    ∷ 17 ∷ 0 ∷ 0 ∷ 0 ∷ 1 ∷ 0 ∷ 0 ∷ 0 ∷ 0 ∷ 0 ∷ 0 ∷ 0
    ∷ 0 ∷ 0 ∷ 0 ∷ 0 ∷ 0 ∷ 0 ∷ 0 ∷ 0 ∷ 0 ∷ 0 ∷ 0 ∷ 0
    ∷ 255 ∷ 255 ∷ 0 ∷ 0
    ∷ 14 ∷ 1 ∷ 0 ∷ 0 ∷ 2 ∷ 0 ∷ 0 ∷ 0 ∷ 11 ∷ 0 ∷ 0 ∷ 0
    ∷ 4 ∷ 0 ∷ 1 ∷ 0 ∷ 0 ∷ 0 ∷ 0 ∷ 0 ∷ 11 ∷ 0 ∷ 0 ∷ 0
    ∷ 1 ∷ 0 ∷ 0 ∷ 0 ∷ 0 ∷ 0 ∷ 0 ∷ 0 ∷ 15 ∷ 0 ∷ 0 ∷ 0
    ∷ 5 ∷ 0 ∷ 0 ∷ 0
    ∷ []

pub script1-length : length script1 ≡ 112
unfolding script1
script1-length = refl

pub script1-returned : fold_bytes script1 120 ≡ record { number = 0; result_length = 92; folds = 1; result = result1 }
unfolding computed script1 result1
script1-returned = refl
