-- What the callers of lines that give no text, and of lines that are fed nothing, did, and what they answer.
pub mod Draining
pub mod Pouring
pub mod Finding
