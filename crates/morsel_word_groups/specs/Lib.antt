-- The rule of a group between threads, what each step of a group or a token does, and what is seen of them.
pub mod Group
pub mod GroupSteps
pub mod Seen
