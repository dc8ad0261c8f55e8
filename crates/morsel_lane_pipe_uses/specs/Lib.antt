-- What is seen of the pipes of these uses.
pub mod Sites
