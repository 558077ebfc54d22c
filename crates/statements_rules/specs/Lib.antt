-- The fold of a file: the search through declarators and statements, and what a file becomes by it.
pub mod Trace
pub mod Declarators
pub mod Statements
pub mod Fold
pub mod Searches
pub mod Steady
