use Rattle.morsel_merge.proofs.distributor.DistSenderLaneSenderBoard.finish.Goals as goal

pub returns-clause-finished : goal.returns-clause-finished
returns-clause-finished g c = (c.finish_lanes-receipts.new.cx.wakes, c.finish_lanes-receipts.ensures.finished)
