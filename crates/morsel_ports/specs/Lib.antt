-- How far a pipe is and which ends it has, the tasks between its ends, and what is seen of nodes.
pub mod Pipes
pub mod Joining
pub mod Between
pub mod Nodes
