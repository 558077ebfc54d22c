-- Laws for the functions of the search.
pub mod BareNames
pub mod OtherAnswers
pub mod Putting
pub mod OfForest
pub mod OfNode
pub mod Searching
pub mod Leaves
pub mod SmallTrees
pub mod Rest
pub mod Cycle
