-- The laws that the proofs of several functions cite.
pub mod Judged
pub mod Letters
