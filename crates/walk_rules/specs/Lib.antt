-- The rules of the search in an expression: which names and targets may change places with an initializer, and where the
-- initializer is placed.
pub mod Context
pub mod Unsettled
pub mod This
pub mod Shape
pub mod Effect
pub mod Target
pub mod Substitute
pub mod Looks
