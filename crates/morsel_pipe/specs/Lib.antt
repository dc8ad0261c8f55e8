-- What goes through the pipes of a query.
pub mod Pieces
