-- What the calls on connectors found.
pub mod Ends
pub mod Groups
