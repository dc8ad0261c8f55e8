use Rattle.std.proofs.Common.{ℕ, ap, subst, sym, ◌∙◌}
use Rattle.std.specs.Prelude.{OnOk}
use Rattle.morsel_read.specs.ScanReads.{PiecesRead}
use Rattle.morsel_scan_units.specs.LaneJobs.{LaneFor}
use Rattle.morsel_probe_run.specs.ProbeRuns.{AreAllUpTo}
use Rattle.morsel_probe_run.proofs.BackLemmas.{given_back}
use Rattle.morsel_probe_run.proofs.line.probe_parts.Goals as goal

-- the place that the source tells is that up to which the run was given rows
pub returns-clause-all : goal.returns-clause-all
returns-clause-all g c side is =
    let answer = c.run_probe-answer.result in
    let opened = g.H.Io.seen c.args.io.now in
    let run = c.run_probe-answer.ensures.all side (ap (λ (lane : LaneFor). lane.stage) c.in-Ok.ensures.lane ∙ is) in
    let of_lane = subst (λ (lane : LaneFor). OnOk answer (AreAllUpTo lane.scan c.new-source.result opened c.run_probe-answer.new.source.given)) c.in-Ok.ensures.lane run in
    let of_reader = subst (λ (r : PiecesRead). OnOk answer (AreAllUpTo c.args.lane.now.scan r opened c.run_probe-answer.new.source.given)) c.new-source.ensures of_lane in
    let told = subst (λ (to : ℕ). OnOk answer (AreAllUpTo c.args.lane.now.scan c.args.reader opened to)) (sym c.given-given.ensures) of_reader in
    given_back c.stage_beside.result answer c.given-given.result (λ (to : ℕ). AreAllUpTo c.args.lane.now.scan c.args.reader opened to) c.stage_beside.ensures.same c.stage_beside.ensures.given told
