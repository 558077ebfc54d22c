-- Runs that are computed; meanings of which the facts of a file are true, and of which they aren't.
pub mod Examples
pub mod Repeats
pub mod Witness
pub mod HiddenSteps
pub mod RepeatWitness
