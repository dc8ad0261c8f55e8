-- Columns, frames and the calls on them, as lists.
pub mod Cells
pub mod Columns
pub mod Frames
pub mod Made
pub mod Names
pub mod Packing
pub mod Pieces
pub mod Refusals
pub mod Selects
pub mod Stacks
pub mod Tables
