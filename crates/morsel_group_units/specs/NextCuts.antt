-- Where the next load of a lane has to begin.
use Rattle.std.specs.Prelude.{◌≡◌, ◌+◌, ℕ, Bool, true, false, None, Some, length}
use Rattle.std.specs.Option.{IfSome}
use Rattle.morsel_load.specs.declared.morsels.Stretch.{Stretch}
use Rattle.morsel_rows_job.specs.RowsJobs.{RowsCut}
use Rattle.morsel_group_units.specs.TakenLoads.{taken_cut}
use Rattle.morsel_group_units.specs.declared.order.NextCut.{NextCut}
use Rattle.morsel_group_units.specs.declared.taken_load.TakenLoad.{TakenLoad}

-- behind so many rows of a stretch: behind its last ones the next stretch begins, and behind others more of its rows follow
abbrev pub next_after : Bool → Stretch → ℕ → NextCut
next_after true stretch rows = record { from = stretch.to; to = None; skip = 0 }
next_after false stretch rows = record { from = stretch.from; to = Some stretch.to; skip = stretch.skip + rows }

-- behind a cut
abbrev pub next_behind : RowsCut → NextCut
next_behind cut = next_after cut.stretch.last cut.stretch (length cut.frame.rows)

-- a stretch begins where it has to
abbrev pub BeginsAt : NextCut → Stretch → Type 0
BeginsAt next stretch = (stretch.from ≡ next.from) × (stretch.skip ≡ next.skip) × IfSome next.to (λ to. stretch.to ≡ to)

-- a load begins where it has to, and the next one has to begin behind it
pub record IsCutAt (next : NextCut) (load : TakenLoad) (then : NextCut) : Type 0 where
  pub begins : BeginsAt next load.stretch
  pub then_is : then ≡ next_behind (taken_cut load)
