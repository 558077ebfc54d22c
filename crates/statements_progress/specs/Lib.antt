-- What is done with the next declarator and tree of a file, with records that are kept, and with the names that folds took.
pub mod Pushed
pub mod Loaded
pub mod Listed
