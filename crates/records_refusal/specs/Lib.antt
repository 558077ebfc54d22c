-- The outcome and its number; a header that passes; what the pass over the nodes knows.
pub mod Number
pub mod Passing
pub mod Scanning
pub mod Found
