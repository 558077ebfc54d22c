-- The result of a fold, from the tables that hold it.
pub mod Header
pub mod Result
