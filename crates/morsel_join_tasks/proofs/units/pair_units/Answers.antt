use Rattle.std.proofs.Common.{subst}
use Rattle.morsel_scan_units.specs.LaneJobs.{IsUnitFault}
use Rattle.morsel_join_tasks.proofs.FaultLemmas.{from_either}
use Rattle.morsel_join_tasks.proofs.units.pair_units.Goals as goal

pub returns-clause-both : goal.returns-clause-both
returns-clause-both g c = record {
  owed = c.in_ok-both.ensures.owed;
  polled = c.in_ok-both.ensures.can_poll (g.B.Board.id c.args.board.now) c.requires.first.polled c.requires.second.polled;
  faults = λ fault fails. from_either (g.S.Stage.fails c.in_ok-both.both.stage.first fault) (g.T.Stage.fails c.in_ok-both.both.stage.second fault) (IsUnitFault c.args.lane.now fault)
      (λ one. c.requires.first.faults fault (subst (λ (stage : g.row.S.Denot). g.S.Stage.fails stage fault) c.in_ok-both.ensures.stages.0 one))
      (λ other. c.requires.second.faults fault (subst (λ (stage : g.row.T.Denot). g.T.Stage.fails stage fault) c.in_ok-both.ensures.stages.1 other))
      fails;
}
