-- What the outside of real files tells.
pub mod RealIo
