-- Demand 3: what the rows of the refusal table give the fold of an accepted file, and the theorem over bytes. Demand 1: the
-- result of an accepted file is accepted with the same room. The bound of a fold's looks.
pub mod Rows
pub mod Demand3
pub mod Growth
pub mod Limits
pub mod Tests
pub mod Acceptance
pub mod Narrow
pub mod Small
pub mod ResultBytes
pub mod Laws
