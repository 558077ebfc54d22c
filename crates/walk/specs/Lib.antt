-- What the search of a node does by that of its children, and what is left of a forest.
pub mod Node
pub mod Forests
pub mod Small
