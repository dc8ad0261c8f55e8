use Rattle.morsel_merge.proofs.distributor.DistSenderLaneSenderBoard.cut.Goals as goal

pub returns-clause-cut : goal.returns-clause-cut
returns-clause-cut g c = (c.cut_lanes.new.cx.wakes, c.cut_lanes.ensures.cut)
