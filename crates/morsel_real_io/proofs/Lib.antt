pub mod RealIoLemmas
