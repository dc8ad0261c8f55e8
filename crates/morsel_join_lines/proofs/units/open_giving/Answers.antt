use Rattle.std.proofs.Common.{ℕ}
use Rattle.morsel_merge.specs.Ends.{IsNewReceiver, IsNewSender}
use Rattle.morsel_ports.specs.declared.node.Ends.TheVariants.{Serial}
use Rattle.morsel_join_lines.proofs.PortLemmas.{no_kinds, none_of_more, one_kind, serial_for}
use Rattle.morsel_join_lines.proofs.units.open_giving.Goals as goal

pub open_ports-requires-clause-recv : goal.open_ports-requires-clause-recv
open_ports-requires-clause-recv g c = no_kinds _ _ _ c.args.jobs.recv.now.items c.in_ok-recv.ensures.ports c.requires.node.recv_kinds

pub open_ports-requires-clause-send : goal.open_ports-requires-clause-send
open_ports-requires-clause-send g c = one_kind _ _ _ (Serial c.args.to) c.in_ok-send.ensures.ports c.requires.node.send_kinds tt

pub open_ports-requires-clause-from : goal.open_ports-requires-clause-from
open_ports-requires-clause-from g c =
    none_of_more (λ job end. IsNewReceiver g.L.Receiver.LaneReceiver.home g.L.Receiver.LaneReceiver.job g.L.Receiver.LaneReceiver.taken g.L.Receiver.LaneReceiver.is_whole g.L.Receiver.LaneReceiver.is_cut (g.L.Board.Board.id c.args.board.now).lane_table job end) _ _ c.in_ok-recv.ensures.ports

pub open_ports-requires-clause-to : goal.open_ports-requires-clause-to
open_ports-requires-clause-to g c =
    serial_for (λ job end. (room : ℕ) × IsNewSender g.L.Sender.LaneSender.home g.L.Sender.LaneSender.job g.L.Sender.LaneSender.room g.L.Sender.LaneSender.sent (g.L.Board.Board.id c.args.board.now).lane_table job room end) _ _ c.args.to c.args.job.now c.in_ok-send.ensures.ports c.requires.node.gives c.requires.to

pub returns-clause-tasks : goal.returns-clause-tasks
returns-clause-tasks g c = record {
  owed = c.in_ok-stage.ensures.out;
  polled = c.in_ok-stage.ensures.can_poll;
  faults = λ fault fails. rw (c.in_ok-stage.ensures.begun.0, c.in_ok-stage.ensures.begun.1) at fails;
}
