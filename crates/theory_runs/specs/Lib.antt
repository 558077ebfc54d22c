-- The run of a file (document 01, "The run, from ECMA-262"), over any values and any rest of the store; the four shapes; the
-- steps and choices that a file can make; the facts that are true of a meaning; demand 3. Clause numbers are those of
-- ECMA-262's 15th edition (2024).
pub mod Store
pub mod Hand
pub mod Step
pub mod Meaning
pub mod Form
pub mod State
pub mod Run
pub mod Script
pub mod Settled
pub mod Shapes
pub mod InHand
pub mod Makes
pub mod Facts
pub mod Demand
pub mod Steady
