-- What the proofs of the result rest on.
pub mod Parts
pub mod Printed
