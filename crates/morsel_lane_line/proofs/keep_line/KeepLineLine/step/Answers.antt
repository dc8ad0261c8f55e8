use Rattle.std.proofs.Common.{sym, subst, Ok}
use Rattle.morsel_prims.specs.declared.lane.Ended.TheVariants.{Whole}
use Rattle.morsel_stage.proofs.UnjoinedLemmas.{unjoined_sweep}
use Rattle.morsel_lane_line.proofs.LeftLemmas.{none_left_if}
use Rattle.morsel_lane_line.proofs.keep_line.KeepLineLine.step.Goals as goal

pub join_ended-requires-clause-owed : goal.join_ended-requires-clause-owed
join_ended-requires-clause-owed g c = subst (g.S.Stage.owes c.self.inside.stage) (sym (unjoined_sweep g.S.Task.Task g.L.Board.Board c.self.inside.local.cx.wakes.numbers c.self.inside.local.tasks c.sweep-ended.new.self.tasks _ _ c.sweep-ended.ensures.swept)) c.self.invariant.owed

-- nothing is left, since all was joined
pub returns-clause-joined : goal.returns-clause-joined
returns-clause-joined g c = none_left_if (λ out. g.S.Stage.tells out (Ok Whole)) _ _ _ c.join_ended.result c.join_ended.ensures.whole
