-- Laws of the tables while the statements of a file are taken.
pub mod Slices
pub mod Adding
pub mod Numbers
pub mod Pushes
pub mod Loads
pub mod Searches
pub mod Definitions
pub mod Taken
pub mod Going
pub mod Folding
pub mod Result
pub mod Beginning
pub mod Sequence
