use Rattle.std.proofs.Common.{rules, ap, ◌∙◌, true}
use Rattle.morsel_prims.specs.Marks.{lane_end, lane_values}
use Rattle.morsel_prims.specs.Rows.{list_of_row}
use Rattle.morsel_prims.proofs.EndLemmas.{end-last, values-end}
use Rattle.morsel_prims.proofs.plain_sender.PlainSenderLaneSenderPlainBoard.finish.Goals as goal

pub invariant_of-result : goal.invariant_of-result
invariant_of-result g c = record {
  placed = search rules;
  ended = ap lane_end c.close-task.ensures.ended ∙ end-last (list_of_row c.args.self.row.badge.views) true c.args.self.unclosed;
}

pub returns-clause-sent : goal.returns-clause-sent
returns-clause-sent g c = ap lane_values c.close-task.ensures.ended ∙ values-end (list_of_row c.args.self.row.badge.views) true
