-- The laws that the proofs of several functions cite: trees, then uses.
pub mod Forests
pub mod Stacks
pub mod Growth
pub mod Standings
pub mod Uses
pub mod Tallies
pub mod Counting
pub mod Declaring
pub mod Naming
