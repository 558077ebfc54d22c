-- Laws of the records that are written, of the list of names and of the next tree.
pub mod Written
pub mod Writes
pub mod Names
pub mod Listing
pub mod Loading
