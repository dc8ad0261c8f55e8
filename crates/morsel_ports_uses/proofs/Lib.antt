pub mod UnitLemmas
pub mod HandingLemmas
pub mod PairingLemmas
