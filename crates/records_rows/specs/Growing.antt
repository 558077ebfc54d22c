-- The trees behind the nodes that are left to take, and the stack of their entries.
use Rattle.std.specs.Prelude.{ℕ, ◌+◌, ◌-◌, ◌*◌, ◌≤◌, ◌≡◌, true, ◌&&◌, List, length, drop}
use Rattle.records.specs.Records.{records_from}
use Rattle.records.specs.Tree.{forest_of, closed}
use Rattle.records.specs.Place.{all_placed}
use Rattle.records.specs.declared.layout.NodeRecord.{NodeRecord}
use Rattle.records_rows.specs.Stack.{entries}

-- i of n nodes are left; behind them stand the trees of the others
pub record Growing (readAt : ℕ → NodeRecord) (len n from : ℕ) (stack : List ℕ) (top i : ℕ) : Type 0 where
  pub within : i ≤ n
  pub inside : top ≤ length stack
  pub room : length stack + i ≤ top + n
  pub same : drop top stack ≡ entries (forest_of (records_from readAt len (n - i) (from + len * i)))
  pub judged : (closed (records_from readAt len (n - i) (from + len * i)) && all_placed (forest_of (records_from readAt len (n - i) (from + len * i)))) ≡ true
