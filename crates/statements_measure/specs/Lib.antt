-- What measuring a file returns, and what holds of it.
pub mod Measure
pub mod Laws
