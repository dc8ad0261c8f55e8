use Rattle.morsel_emit_run.proofs.PlaceLemmas.{place_swept, place_written}
use Rattle.morsel_emit_run.proofs.line.run_emit.Goals as goal

pub returns-clause-sweeps : goal.returns-clause-sweeps
returns-clause-sweeps g c stage is one = place_swept c.args.line.now.lane stage c.args.steps.now c.pour.new.steps is one c.pour.ensures.sweeps

pub returns-clause-writes : goal.returns-clause-writes
returns-clause-writes g c stage is one = place_written c.args.line.now.lane stage (g.H.Io.seen c.args.io.now) (g.H.Io.seen c.pour.new.io) c.pour.result is one c.pour.ensures.pours
