-- Laws of the repeat's code.
pub mod Running
pub mod Returning
