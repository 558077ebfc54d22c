-- What is asked of a declarator before a search.
pub mod Cases
pub mod Ends
