-- What the runs of a join's three phases do, for whoever speaks of the whole run.
pub use Rattle.morsel_keep_run.specs.KeepRuns.{KeepsScan, StopsKeeping}
pub use Rattle.morsel_probe_run.specs.ProbeRuns.{AnswersFound, WritesFound}
pub use Rattle.morsel_emit_run.specs.EmitRuns.{AnswersAlone, WritesAlone}
