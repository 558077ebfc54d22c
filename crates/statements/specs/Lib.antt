-- The fold of a file's statements over lent tables.
pub mod Added
pub mod State
pub mod Next
pub mod Declarators
pub mod Numbers
pub mod Folds
