-- The units that a node has given out, and the nodes of a line.
pub mod Stages
pub mod Told
pub mod Lines
