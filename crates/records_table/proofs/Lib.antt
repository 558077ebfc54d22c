-- Laws of the trees in the work table, of the trees in a file, of a tree that is copied, and of bytes written over others.
pub mod Laid
pub mod NodePart
pub mod Standing
pub mod Before
pub mod TreesAt
pub mod FileForest
pub mod Loading
pub mod Overwriting
