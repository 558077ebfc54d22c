-- What the public call returns and writes, and what the fold under it comes to.
pub mod Answer
pub mod Outcome
