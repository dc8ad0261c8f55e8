use Rattle.std.proofs.Common.{subst}
use Rattle.morsel_words.specs.Ends.{SendSeen}
use Rattle.morsel_words.specs.Since.{FoundWaiter}
use Rattle.morsel_words.specs.declared.view.Found.TheVariants as found
use Rattle.morsel_words.proofs.sender.WordSender.finish.Goals as goal

pub returns-clause-waiter : goal.returns-clause-waiter
returns-clause-waiter g c = subst (λ (z : SendSeen _ _). FoundWaiter found.Closing z.found c.finish_seat-task.new.seat.me.0.found c.finish_seat-task.result) c.self.view_is c.finish_seat-task.ensures.waiter
