-- What a run of a query asks, answers and leaves, and the steps that it is made of.
pub mod Courses
pub mod Opened
pub mod Stages
pub mod Runs
pub mod SweepBounds
