-- The rows of the refusal table, one after the other. Assumes nothing.
use mathlib.Core.Path.{◌≡◌, refl, ◌∙◌}
use mathlib.Core.Bool.{Bool, true, false, not}
use mathlib.Core.List.{List}
use Prim.Native.Nat.{ℕ, ◌<◌}
use native.Mathlib.Omega.{arith}
use lib.Dec.{ltb}
use Rattle.records.specs.Record.{header_of}
use Rattle.records.specs.Header.{not_a_record_file, other_version, outside_limits, other_length}
use Rattle.records.specs.Tree.{forest_of}
use Rattle.records.specs.File.{names_of, scopes_of, frames_of, nodes_of, declarators_of, statements_of}
use Rattle.records.specs.Facts.{bad_facts}
use Rattle.records.specs.Script.{bad_statements, declared_twice}
use Rattle.records.specs.Node.{bad_nodes}
use Rattle.records.specs.Place.{bad_trees}
use Rattle.records.specs.Count.{bad_counts}
use Rattle.records.specs.Refusal.{row, room_wanted, refusal}
use Rattle.records.specs.declared.layout.Header.{Header}
use Rattle.records_refusal.specs.Number.{row_number}
use Rattle.records_refusal.specs.Passing.{header_refusal, HeaderPasses}
use Rattle.records_refusal.specs.declared.outcome.Refusal.{Refusal}
use Rattle.records_refusal.specs.declared.outcome.Refusal.TheVariants.{NotARecordFile, OtherVersion, OutsideLimits, OtherLength, BadFacts, BadStatements, BadNodes, BadTrees, DeclaredTwice, BadCounts, NoRoom}

-- no row has the number 0
pub refuses : (r : Refusal) → 0 < row_number r
refuses NotARecordFile = omega arith
refuses OtherVersion = omega arith
refuses OutsideLimits = omega arith
refuses OtherLength = omega arith
refuses BadFacts = omega arith
refuses BadStatements = omega arith
refuses BadNodes = omega arith
refuses BadTrees = omega arith
refuses DeclaredTwice = omega arith
refuses BadCounts = omega arith
refuses NoRoom = omega arith

-- a row whose test holds, and one whose test fails
pub refused : (n later : ℕ) {b holds : Bool} → b ≡ holds → b ≡ true → n ≡ row n holds later
refused n later e t = rw (← e, t)

pub passed : (n : ℕ) {m later : ℕ} {b holds : Bool} → b ≡ holds → b ≡ false → m ≡ later → m ≡ row n holds later
passed n e t l = rw (← e, t) l

-- row 6 alone
pub statements-pass : (b : Bool) → 0 ≡ row 6 b 0 → false ≡ b
statements-pass true e = absurd (omega arith)
statements-pass false e = refl

pub statements-refuse : (b : Bool) {m : ℕ} (later : ℕ) → 0 < m → m ≡ row 6 b 0 → m ≡ row 6 b later
statements-refuse true later h e = e
statements-refuse false later h e = absurd (omega arith)

-- rows 7 and 8 alone
pub nodes-pass : (a b : Bool) → 0 ≡ row 7 a (row 8 b 0) → (false ≡ a) × (false ≡ b)
nodes-pass true b e = absurd (omega arith)
nodes-pass false true e = absurd (omega arith)
nodes-pass false false e = (refl, refl)

pub nodes-refuse : (a b : Bool) {m : ℕ} (later : ℕ) → 0 < m → m ≡ row 7 a (row 8 b 0) → m ≡ row 7 a (row 8 b later)
nodes-refuse true b later h e = e
nodes-refuse false true later h e = e
nodes-refuse false false later h e = absurd (omega arith)

-- row 8 by another test
pub trees-refuse : (a good b : Bool) {m : ℕ} → 0 < m → (good ≡ false → true ≡ b) → m ≡ row 7 a (row 8 (not good) 0) → m ≡ row 7 a (row 8 b 0)
trees-refuse true good b h f e = e
trees-refuse false true b h f e = absurd (omega arith)
trees-refuse false false b h f e = e ∙ refused 8 _ (f refl) refl

-- the rows of the header
module _ (bs : List ℕ) where
  pub header_rows : (h : Header) → h ≡ header_of bs
      → row 1 (not_a_record_file bs) (row 2 (other_version h) (row 3 (outside_limits h) (row 4 (other_length bs h) 0))) ≡ header_refusal bs
  unfolding header_refusal
  header_rows h e = rw (e)

  header-refuses : (a b c d : Bool) (m later : ℕ) → 0 < m → m ≡ row 1 a (row 2 b (row 3 c (row 4 d 0))) → m ≡ row 1 a (row 2 b (row 3 c (row 4 d later)))
  header-refuses true b c d m later h e = e
  header-refuses false true c d m later h e = e
  header-refuses false false true d m later h e = e
  header-refuses false false false true m later h e = e
  header-refuses false false false false m later h e = absurd (omega arith)

  -- one of them refuses a file whatever the room
  pub header_refuses : (number : ℕ) → number ≡ header_refusal bs → 0 < number → (room : ℕ) → number ≡ refusal bs room
  unfolding header_refusal refusal
  header_refuses number e h room = header-refuses (not_a_record_file bs) (other_version (header_of bs)) (outside_limits (header_of bs)) (other_length bs (header_of bs)) number _ h e

-- rows 9 to 11
abbrev last_rows : List ℕ → ℕ → ℕ
last_rows bs room =
    row 9 (declared_twice (declarators_of bs))
    (row 10 (bad_counts (names_of bs) (forest_of (nodes_of bs)))
    (row 11 (ltb room (room_wanted bs))
    0))

-- the rows behind those of the header
pub rows_behind : (bs : List ℕ) (h : Header) (room : ℕ) → HeaderPasses bs h
    → row 5 (bad_facts (names_of bs) (scopes_of bs) (frames_of bs))
    (row 6 (bad_statements (names_of bs) (declarators_of bs) (statements_of bs))
    (row 7 (bad_nodes (names_of bs) (nodes_of bs))
    (row 8 (bad_trees (declarators_of bs) (statements_of bs) (nodes_of bs))
    (last_rows bs room))))
    ≡ refusal bs room
unfolding refusal
rows_behind bs h room p = rw (p.script, ← p.is, p.version, p.limits, p.measured)

-- where rows 5 to 8 refuse nothing, rows 9 to 11 say the number
pub past_8 : (bs : List ℕ) (h : Header) (room : ℕ) → HeaderPasses bs h → {facts : Bool} → facts ≡ bad_facts (names_of bs) (scopes_of bs) (frames_of bs) → facts ≡ false
    → 0 ≡ row 6 (bad_statements (names_of bs) (declarators_of bs) (statements_of bs)) 0
    → 0 ≡ row 7 (bad_nodes (names_of bs) (nodes_of bs)) (row 8 (bad_trees (declarators_of bs) (statements_of bs) (nodes_of bs)) 0)
    → {m : ℕ} → m ≡ last_rows bs room → m ≡ refusal bs room
past_8 bs h room p ef nf es en e =
    let q = nodes-pass (bad_nodes (names_of bs) (nodes_of bs)) (bad_trees (declarators_of bs) (statements_of bs) (nodes_of bs)) en in
    passed 5 ef nf
    (passed 6 (statements-pass (bad_statements (names_of bs) (declarators_of bs) (statements_of bs)) es) refl
    (passed 7 q.0 refl
    (passed 8 q.1 refl e)))
    ∙ rows_behind bs h room p
