use Rattle.std.proofs.Common.{rules, ◌≡◌, ◌++◌, ◌∷◌, [], ℕ, map, ap, ◌∙◌}
use Rattle.std.proofs.lemmas.List.{map_push}
use Rattle.morsel_group_phases.specs.LaneEnds.{lane_ended}
use Rattle.morsel_group_phases.specs.declared.lane_end.LaneEnd.{LaneEnd}
use Rattle.morsel_group_phases.proofs.EndLemmas.{took_closed}
use Rattle.morsel_group_phases.proofs.sink_phase.SinkPhase.closed.Goals as goal

pub returns-clause-ends : goal.returns-clause-ends
returns-clause-ends g c =
    let end : LaneEnd g.row.J.Denot = record { job = c.args.self.job; to = c.taken_to-to.result } in
    let pushed : c.push.new.self.items ≡ c.args.self.ends.items ++ end ∷ [] = search rules in
    ap (map lane_ended) pushed ∙ map_push lane_ended c.args.self.ends.items end ∙ ap (λ (n : ℕ). map lane_ended c.args.self.ends.items ++ (c.args.self.job.value, n) ∷ []) c.taken_to-to.ensures

pub returns-clause-took : goal.returns-clause-took
returns-clause-took g c =
    let sink = c.args.self in
    let end : LaneEnd g.row.J.Denot = record { job = sink.job; to = c.taken_to-to.result } in
    let pushed : c.push.new.self.items ≡ sink.ends.items ++ end ∷ [] = search rules in
    took_closed g.J.LoadJob.suits g.J.RowsJob.gives_cuts g.J.RowsJob.yields sink.job.value sink.taken.rules.columns (λ cuts to gives all follow. g.met.J.RowsJob.cuts_yield sink.job.value sink.taken.rules.columns cuts to gives all follow)
    (map lane_ended sink.ends.items) (map lane_ended c.push.new.self.items) c.taken_to-to.result sink.taken.ordered sink.taken.taken c.in_ok-closed.closed.ordered (ap (map lane_ended) pushed ∙ map_push lane_ended sink.ends.items end) c.in_ok-closed.ensures.ordered sink.cuts sink.suits sink.took
