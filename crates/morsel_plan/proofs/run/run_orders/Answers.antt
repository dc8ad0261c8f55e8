use Rattle.morsel_plan.proofs.run.run_orders.Goals as goal

pub run_parts-requires-clause-spreading : goal.run_parts-requires-clause-spreading
run_parts-requires-clause-spreading g c = rw (c.pipe_tasks-merging.ensures.same_board, c.pipe_tasks-spreading.ensures.same_board) c.pipe_tasks-spreading.ensures.can_poll
