-- The round trip laws of the record file (`RoundTrip` has what the others lead to), and the refusal table by the room (`Rooms`).
pub mod Forests
pub mod Preorder
pub mod Numbers
pub mod Series
pub mod Formats
pub mod Accepted
pub mod PrintedStatements
pub mod ReadStatements
pub mod PrintedFile
pub mod PrintedTests
pub mod ReadFile
pub mod RoundTrip
pub mod Rooms
