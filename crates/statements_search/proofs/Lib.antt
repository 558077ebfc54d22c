-- Laws of names without children, of the search from declarators and from statements.
pub mod BareNames
pub mod Looks
pub mod Steps
pub mod Going
pub mod Holes
pub mod Trying
pub mod KeptRecords
pub mod InStatements
