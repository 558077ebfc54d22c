-- A fold repeated until the bytes stay the same.
pub mod Bared
pub mod Again
pub mod StillWithin
pub mod StillRun
pub mod Reach
pub mod Repeat
pub mod FactsPassed
pub mod AfterRuns
pub mod SameRuns
