-- Blocks of bytes, and trees as blocks.
pub mod Copying
pub mod Rotation
pub mod Moves
pub mod Laws
