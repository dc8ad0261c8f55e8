-- Rows of a roll, and what lanes, tokens and tasks promise.
pub mod Rows
pub mod Woken
pub mod Waiting
pub mod Polled
pub mod Marks
pub mod Counts
pub mod Board
