use Rattle.std.proofs.Common.{ℕ}
use Rattle.morsel_merge.specs.Ends.{IsNewReceiver, IsNewSender}
use Rattle.morsel_ports.specs.declared.node.Ends.TheVariants.{Absent, Parallel}
use Rattle.morsel_join_lines.proofs.PortLemmas.{absent_for, first_kinds, first_of_more, one_kind}
use Rattle.morsel_join_lines.proofs.units.open_keeping.Goals as goal

pub open_ports-requires-clause-recv : goal.open_ports-requires-clause-recv
open_ports-requires-clause-recv g c =
    first_kinds _ _ _ (Parallel c.args.from) c.requires.node.others (c.in_ok-recv.ensures.ports c.args.job.now c.requires.node.others c.requires.node.takes) c.requires.node.recv_kinds c.requires.node.ready

pub open_ports-requires-clause-send : goal.open_ports-requires-clause-send
open_ports-requires-clause-send g c = one_kind _ _ _ Absent c.in_ok-send.ensures.ports c.requires.node.send_kinds tt

pub open_ports-requires-clause-from : goal.open_ports-requires-clause-from
open_ports-requires-clause-from g c =
    first_of_more (λ job end. IsNewReceiver g.L.Receiver.LaneReceiver.home g.L.Receiver.LaneReceiver.job g.L.Receiver.LaneReceiver.taken g.L.Receiver.LaneReceiver.is_whole g.L.Receiver.LaneReceiver.is_cut (g.L.Board.Board.id c.args.board.now).lane_table job end) _ _ (Parallel c.args.from) c.args.job.now c.requires.node.others (c.in_ok-recv.ensures.ports c.args.job.now c.requires.node.others c.requires.node.takes) c.requires.node.takes c.requires.from

pub open_ports-requires-clause-to : goal.open_ports-requires-clause-to
open_ports-requires-clause-to g c =
    absent_for (λ job end. (room : ℕ) × IsNewSender g.L.Sender.LaneSender.home g.L.Sender.LaneSender.job g.L.Sender.LaneSender.room g.L.Sender.LaneSender.sent (g.L.Board.Board.id c.args.board.now).lane_table job room end) _ _ c.requires.node.unused c.in_ok-send.ensures.ports c.requires.node.gives

pub returns-clause-tasks : goal.returns-clause-tasks
returns-clause-tasks g c = record {
  owed = c.in_ok-stage.ensures.out;
  polled = c.in_ok-stage.ensures.can_poll;
  faults = λ fault fails. rw (c.in_ok-stage.ensures.begun.0, c.in_ok-stage.ensures.begun.1) at fails;
}
