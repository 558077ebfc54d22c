-- What is asked of an initializer that is placed.
use Prim.Native.Nat.{ℕ}
use mathlib.Core.Bool.{true, false}
use mathlib.Core.List.{List}
use mathlib.Core.Path.{◌≡◌}
use Rattle.records.specs.Flags.{is_eval}
use Rattle.records.specs.Script.{flags_of}
use Rattle.records.specs.Tree.{Tree}
use Rattle.records.specs.Place.{root, is_expression, placed}
use Rattle.records.specs.File.{given, File}
use Rattle.records.specs.declared.layout.NameFacts.{NameFacts}
use Rattle.theory_runs.specs.Step.{value}
use Rattle.theory_runs.specs.Shapes.{eval_whole}
use Rattle.theory_preservation.proofs.Within.{Within}

module _ (Value : Type 0) (f : File) (v : ℕ) (r : Tree) where
  abbrev names : List NameFacts
  names = f.names

  -- what is asked of an initializer that is placed, and of the name
  pub record Placeable : Type 0 where
    pub steps : Within Value f value r
    pub expression : is_expression (root r).kind ≡ true
    pub standing : placed r ≡ true
    pub no_eval : eval_whole names (given r) ≡ false
    pub plain : is_eval (flags_of names v) ≡ false
