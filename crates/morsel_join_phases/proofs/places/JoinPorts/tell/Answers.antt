use Rattle.morsel_join_phases.proofs.PortLemmas.{set_one, set_two}
use Rattle.morsel_join_phases.proofs.places.JoinPorts.tell.Goals as goal

pub returns-clause-recv : goal.returns-clause-recv
returns-clause-recv c = set_two c.args.recv.now c.args.self.kept c.args.self.asked c.requires.two

pub returns-clause-send : goal.returns-clause-send
returns-clause-send c = set_one c.args.send.now c.args.self.sent c.requires.one
