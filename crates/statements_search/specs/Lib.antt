-- Declarators and statements in the work table, and the search of a tree from them.
pub mod Kept
pub mod Try
pub mod FromDeclarators
pub mod KeptStatements
pub mod InStatement
