-- The laws that the proofs of several functions cite: the search of frames, the records of bytes.
pub mod Searching
pub mod LastRecord
