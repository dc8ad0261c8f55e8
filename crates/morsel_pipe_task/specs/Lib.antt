-- The tasks of a pipe, by their kinds.
pub mod PipeTasks
