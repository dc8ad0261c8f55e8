pub mod TransferLemmas
pub mod KeepLemmas
pub mod TurnLemmas
pub mod SweepLemmas
