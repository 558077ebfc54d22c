-- What a pass over the first `count` nodes of a file found.
use Rattle.std.specs.Prelude.{ℕ, ◌≤◌, ◌<◌, ◌≡◌, true, false, List, length, Result, Ok, Err}
use Rattle.records.specs.File.{nodes_from}
use Rattle.records_refusal.specs.Scanning.{good_first, good_trees, Few, Taken}
use Rattle.records_refusal.specs.declared.scan.Stop.{Stop}
use Rattle.records_refusal.specs.declared.scan.Stop.TheVariants.{BadNode, BadTree}

-- all of them are good and stand
pub record Ends (bs : List ℕ) (names from count : ℕ) (stack₀ reads₀ targets₀ stack reads targets : List ℕ) (top : ℕ) : Type 0 where
  pub nodes : good_first bs names from count ≡ true
  pub trees : good_trees (nodes_from bs from count) ≡ true
  pub inside : top ≤ length stack₀
  pub taken : Taken (nodes_from bs from count) reads₀ targets₀ stack reads targets top

-- the node behind the first `left` is good, but its children can't stand: row 7 is left to them
pub record Breaks (bs : List ℕ) (names from count : ℕ) (reads targets : List ℕ) (left : ℕ) : Type 0 where
  pub nodes : good_first bs names from left ≡ good_first bs names from count
  pub trees : good_trees (nodes_from bs from count) ≡ false
  pub fewer : left < count
  pub reads-few : Few reads left
  pub targets-few : Few targets left

-- what the pass answers
abbrev pub Passes : Result ℕ Stop → List ℕ → ℕ → ℕ → ℕ → List ℕ → List ℕ → List ℕ → List ℕ → List ℕ → List ℕ → Type 0
Passes (Ok top) bs names from count stack₀ reads₀ targets₀ stack reads targets = Ends bs names from count stack₀ reads₀ targets₀ stack reads targets top
Passes (Err BadNode) bs names from count stack₀ reads₀ targets₀ stack reads targets = good_first bs names from count ≡ false
Passes (Err (BadTree left)) bs names from count stack₀ reads₀ targets₀ stack reads targets = Breaks bs names from count reads targets left
