-- The first lane of a line that is fed, and what a run answers beside what comes back.
pub mod FedLanes
pub mod Beside
