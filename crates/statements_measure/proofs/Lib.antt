-- Laws of measuring.
pub mod Laws
pub mod Returning
