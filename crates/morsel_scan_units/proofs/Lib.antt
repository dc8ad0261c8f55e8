-- What the units of a scan make suits the lanes behind them.
pub mod UnitLemmas
