-- What the tasks of a pipe do, and what a pipe hands on.
pub mod Tasks
pub mod Stepped
pub mod Stretches
pub mod Settled
