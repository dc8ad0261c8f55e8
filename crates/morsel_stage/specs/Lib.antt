-- Tasks of three kinds as one, and which tasks of one thread were not given back.
pub mod Kinds
pub mod Unjoined
pub mod Joined
