-- The laws that the proofs of several functions cite.
pub mod Tests
pub mod Ones
pub mod Sets
pub mod Series
pub mod Ranged
pub mod Listed
pub mod Behind
pub mod Names
pub mod Putting
pub mod Written
