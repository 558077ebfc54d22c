-- The laws that the proofs of several functions cite.
pub mod Judged
pub mod Limits
pub mod Scans
pub mod Rows
