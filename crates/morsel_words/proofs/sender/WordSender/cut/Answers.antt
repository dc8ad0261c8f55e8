use Rattle.std.proofs.Common.{subst}
use Rattle.morsel_words.specs.Ends.{SendSeen}
use Rattle.morsel_words.specs.Since.{FoundWaiter}
use Rattle.morsel_words.specs.declared.view.Found.TheVariants as found
use Rattle.morsel_words.proofs.sender.WordSender.cut.Goals as goal

pub returns : goal.returns
returns g c = record { waiter = (c.cut_seat.new.seat.me.0.found, subst (λ (z : SendSeen _ _). FoundWaiter found.Closing z.found c.cut_seat.new.seat.me.0.found c.cut_seat.result) c.self.view_is c.cut_seat.ensures.waiter) }
