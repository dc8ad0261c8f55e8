use Rattle.morsel_pair.proofs.PairLemmas.{two_first_back, two_first_owed, two_second_back, two_second_owed}
use Rattle.morsel_pair.proofs.pair_stage.PairStageStage.give_back.Goals as goal

pub give_back-requires : goal.give_back-requires
give_back-requires g c = record { owed = two_first_owed g.S.Task.Task.gives g.T.Task.Task.gives (g.S.Stage.owes c.args.self.now.first) c.requires.owed.0 c.requires.owed.1 c.requires.owed.2 c.args.out c.in-First.out c.in-First.is c.requires.owed.3.0 c.requires.owed.4 }

pub give_back-requires-in-Second : goal.give_back-requires-in-Second
give_back-requires-in-Second g c = record { owed = two_second_owed g.S.Task.Task.gives g.T.Task.Task.gives (g.T.Stage.owes c.args.self.now.second) c.requires.owed.0 c.requires.owed.1 c.requires.owed.2 c.args.out c.in-Second.out c.in-Second.is c.requires.owed.3.1 c.requires.owed.4 }

pub returns-in-First-clause-owed : goal.returns-in-First-clause-owed
returns-in-First-clause-owed g c before after task owed gave =
    two_first_back g.S.Task.Task.gives g.T.Task.Task.gives (g.S.Stage.owes c.args.self.now.first) (g.T.Stage.owes c.args.self.now.second) (g.S.Stage.owes c.give_back.new.self) before after task c.args.out c.in-First.out c.in-First.is owed.0 owed.1 gave c.give_back.ensures.owed

pub returns-in-Second-clause-owed : goal.returns-in-Second-clause-owed
returns-in-Second-clause-owed g c before after task owed gave =
    two_second_back g.S.Task.Task.gives g.T.Task.Task.gives (g.S.Stage.owes c.args.self.now.first) (g.T.Stage.owes c.args.self.now.second) (g.T.Stage.owes c.give_back-in-Second.new.self) before after task c.args.out c.in-Second.out c.in-Second.is owed.0 owed.1 gave c.give_back-in-Second.ensures.owed

pub returns-in-First-clause-stays : goal.returns-in-First-clause-stays
returns-in-First-clause-stays g c begun was = (λ from at. c.give_back.ensures.stays from (was.0 from at), was.1)

pub returns-in-Second-clause-stays : goal.returns-in-Second-clause-stays
returns-in-Second-clause-stays g c begun was = (was.0, λ from at. c.give_back-in-Second.ensures.stays from (was.1 from at))
