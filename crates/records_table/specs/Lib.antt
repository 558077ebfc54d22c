-- The work table that a fold edits, the trees in it, a tree that is loaded from a file, and bytes that are written over others.
pub mod Table
pub mod Laid
pub mod Loads
pub mod Overwrites
