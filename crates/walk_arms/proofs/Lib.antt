-- Laws for the parts of the search.
pub mod Children
pub mod Targets
pub mod Beginning
