-- The twelve scripts of document 01 and some answers of the Rust, by computation; laws of the numbers of nodes, declarators
-- and statements, of searches and looks.
pub mod Computed
pub mod Scripts
pub mod Answers
pub mod Repeats
pub mod Totals
pub mod Lengths
pub mod Looks
