use Rattle.std.proofs.Common.{◌≡◌, ap}
use Rattle.morsel_merge.specs.Ends.{IsNewReceiver}
use Rattle.morsel_ports.specs.Nodes.{NodeSeen}
use Rattle.morsel_node_stage.proofs.EndsLemmas.{ends_for-each}
use Rattle.morsel_node_stage.proofs.opening.open_ports.Goals as goal

pub returns-clause-out : goal.returns-clause-out
returns-clause-out g c = record {
  count = ap (λ (seen : NodeSeen). seen.units) c.in_ok-units.ensures.out;
  own = c.in_ok-units.ensures.are_units;
  fails = rw (c.of-begun.ensures, c.of-jobs.ensures) (c.in_ok-units.ensures.faults c.args.from.now.items c.args.to.now.items c.requires.fits
      (ends_for-each (λ job end. IsNewReceiver g.L.Receiver.LaneReceiver.home g.L.Receiver.LaneReceiver.job g.L.Receiver.LaneReceiver.taken g.L.Receiver.LaneReceiver.is_whole g.L.Receiver.LaneReceiver.is_cut (g.L.Board.Board.id c.args.board.now).lane_table job end)
      (λ job end. g.L.Receiver.LaneReceiver.job end ≡ job) (λ job end new. new.1) c.args.ports.recv.items c.args.from.now.items c.requires.from));
}
