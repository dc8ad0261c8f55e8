-- What is seen of tasks that run on one thread.
pub mod Sweeps
pub mod Lent
