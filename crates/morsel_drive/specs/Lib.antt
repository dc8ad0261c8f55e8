-- What goes into a line and comes out of it, and what its caller did.
pub mod Lines
pub mod Driving
pub mod Sweeping
