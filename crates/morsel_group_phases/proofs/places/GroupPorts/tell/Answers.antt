use Rattle.morsel_group_phases.proofs.PortLemmas.{set_only}
use Rattle.morsel_group_phases.proofs.places.GroupPorts.tell.Goals as goal

pub returns-clause-recv : goal.returns-clause-recv
returns-clause-recv c = set_only c.args.recv.now c.args.self.taken c.requires.one_recv

pub returns-clause-send : goal.returns-clause-send
returns-clause-send c = set_only c.args.send.now c.args.self.sent c.requires.one_send
