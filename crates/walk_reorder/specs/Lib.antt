-- What is known of a forest once it is passed.
pub mod Passes
