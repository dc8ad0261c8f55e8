-- The rule of a lane between threads, what each step of an end does, and what its calls found.
pub mod Lane
pub mod Steps
pub mod TakeSteps
pub mod CloseSteps
pub mod HistorySteps
pub mod Since
pub mod Ends
