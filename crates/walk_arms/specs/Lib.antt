-- What the code's shapes, plans and answers stand for, and what a search does.
pub mod Arms
pub mod Described
pub mod Child
pub mod Target
pub mod Answers
pub mod Search
pub mod Begins
