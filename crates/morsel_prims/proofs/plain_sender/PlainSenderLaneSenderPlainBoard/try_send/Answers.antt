use Rattle.std.proofs.Common.{rules, ◌≡◌, true, Some}
use Rattle.morsel_prims.specs.Marks.{is_unclosed, lane_job, lane_room}
use Rattle.morsel_prims.specs.Rows.{list_of_row}
use Rattle.morsel_prims.proofs.MarkLemmas.{unclosed-value}
use Rattle.morsel_prims.proofs.EndLemmas.{by_answer, job-append, room-append, values-value}
use Rattle.morsel_prims.proofs.plain_sender.PlainSenderLaneSenderPlainBoard.try_send.Goals as goal

pub invariant_of-self : goal.invariant_of-self
invariant_of-self g c =
    let old = list_of_row c.args.self.now.row.badge.views in
    record {
      placed = search rules;
      unclosed = by_answer c.send.result (λ z. is_unclosed z ≡ true) old _ _ c.send.ensures.sent c.send.ensures.err (unclosed-value old _ c.args.self.now.unclosed) c.args.self.now.unclosed;
      of_job = by_answer c.send.result (λ z. lane_job z ≡ Some c.args.self.now.job.value) old _ _ c.send.ensures.sent c.send.ensures.err (job-append old _ _ c.args.self.now.of_job) c.args.self.now.of_job;
      of_room = by_answer c.send.result (λ z. lane_room z ≡ Some c.args.self.now.room) old _ _ c.send.ensures.sent c.send.ensures.err (room-append old _ _ c.args.self.now.of_room) c.args.self.now.of_room;
    }

pub returns-in-Ok-clause-ok : goal.returns-in-Ok-clause-ok
returns-in-Ok-clause-ok g c = search (rules, values-value)
