-- Examples of the rules, by computation; the sizes of what a search leaves; facts as they are read.
pub mod Build
pub mod Computed
pub mod Facts
pub mod Searches
pub mod Tagged
pub mod Sizes
pub mod Looks
pub mod FactsRead
