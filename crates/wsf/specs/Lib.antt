-- What the exported calls return.
pub mod Answer
