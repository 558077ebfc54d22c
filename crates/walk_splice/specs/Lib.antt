-- How the replacement gets to the name's place in the work table.
pub mod Blocks
pub mod Copies
pub mod Splice
