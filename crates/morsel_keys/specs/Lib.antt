-- What keys and reductions are, and what holds of tables by key.
pub mod Groups
pub mod Reductions
pub mod Laws
pub mod Accs
pub mod Slots
pub mod Words
pub mod TextHomes
pub mod ColumnKeys
pub mod Keyed
