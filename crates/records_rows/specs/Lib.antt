-- What is kept of trees while they are checked, and what is counted for each name.
pub mod Stack
pub mod Growing
pub mod Standing
pub mod Tally
pub mod Counting
