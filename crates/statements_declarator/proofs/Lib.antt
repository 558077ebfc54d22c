-- Laws of the cases, of the search's end and of what is known of a tree.
pub mod Cases
pub mod Ending
pub mod Searched
pub mod Describing
