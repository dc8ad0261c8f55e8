-- Rows on their way through a line of nodes, as contracts see them.
use Rattle.std.specs.Prelude.{ℕ, true, Option}
use Rattle.morsel_meaning.specs.Values.{Table}
use Rattle.morsel_load.specs.Sources.{SourceSeen}
use Rattle.morsel_load.specs.declared.morsels.Stretch.{Stretch}

-- some rows, with their number, their stretch, and their tokens
pub record MorselSeen (K : Type 0) : Type 0 where
  pub frame : Table
  pub seq : ℕ
  pub source_token : SourceSeen  -- the token of their source
  pub consume_token : Option K  -- what they hold until they are consumed
  pub stretch : Stretch

-- all rows of no stretch
abbrev pub no_stretch : Stretch
no_stretch = record { from = 0; to = 0; skip = 0; last = true }
