-- The outside, what each call does to it, and outsides in memory.
pub mod Outside
pub mod Actions
pub mod Calls
pub mod Asks
pub mod Memory
pub mod MemoryParts
pub mod MemIo
