-- The fold of a single-use name keeps the run of a script: of one tree (OneFold); of a whole file, where the facts are true of
-- every step (Whole), and where they are true of the steps that the file can make (Unchanged).
pub mod Tests
pub mod OfAll
-- runs: what they keep, what they don't look at, and what is in hand
pub mod Words
pub mod Ends
pub mod Tables
pub mod Uses
pub mod Frame
pub mod Kept
pub mod Same
pub mod At
pub mod ByKind
pub mod Besides
pub mod Hands
pub mod Bare
-- one fold of a tree
pub mod Setting
pub mod Passing
pub mod WellMade
pub mod Waiting
pub mod Open
pub mod Placing
pub mod Turns
pub mod Children
pub mod Nodes
pub mod BeforeAndAfter
pub mod Aims
pub mod Entered
pub mod Entering
pub mod Asked
pub mod Sound
pub mod OneFold
-- what a search makes of a tree
pub mod Turned
pub mod Stopped
pub mod Counts
pub mod Standing
pub mod Remade
pub mod Positions
-- one fold in a program
pub mod Program
pub mod Site
pub mod Places
-- all folds of a file
pub mod Moves
pub mod Totals
pub mod Sums
pub mod Declared
pub mod Fit
pub mod Fine
pub mod FineKept
pub mod FoldKept
pub mod Unseen
pub mod Whole
-- the steps that a file can make: what a fold leaves makes no others, and the facts are asked of these alone
pub mod Within
pub mod MakesAt
pub mod Placeable
pub mod SearchWithin
pub mod MovesWithin
pub mod Cut
pub mod CutRuns
pub mod Unchanged
