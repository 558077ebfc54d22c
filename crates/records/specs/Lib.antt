-- The record file of document 01: what its bytes mean, and which files are refused.
pub mod Bytes
pub mod Records
pub mod Record
pub mod Limits
pub mod Flags
pub mod Sets
pub mod Tree
pub mod File
pub mod Header
pub mod Facts
pub mod Script
pub mod Node
pub mod Place
pub mod Count
pub mod Refusal
