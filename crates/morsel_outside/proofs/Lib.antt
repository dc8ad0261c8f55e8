pub mod ActionLemmas
pub mod SinkLemmas
pub mod TransferLemmas
pub mod DoesLemmas
pub mod MemIoLemmas
pub mod MemoryLemmas
pub mod SureLemmas
