-- The laws that the proofs of several functions cite: effects, forests that are passed.
pub mod Effects
pub mod Passing
