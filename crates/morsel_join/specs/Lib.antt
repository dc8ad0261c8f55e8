-- Joins: items, orders, columns.
pub mod Items
pub mod Laws
pub mod Payloads
pub mod Chains
pub mod Probes
pub mod Rows
pub mod Builds
pub mod Sides
pub mod BuildSides
pub mod Hits
pub mod Cuts
pub mod Probings
pub mod LoneRows
