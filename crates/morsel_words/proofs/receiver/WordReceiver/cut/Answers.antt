use Rattle.std.proofs.Common.{subst}
use Rattle.morsel_words.specs.Ends.{TakeSeen}
use Rattle.morsel_words.specs.Since.{FoundWaiter}
use Rattle.morsel_words.specs.declared.view.Found.TheVariants as found
use Rattle.morsel_words.proofs.receiver.WordReceiver.cut.Goals as goal

pub returns : goal.returns
returns g c = record { waiter = (c.shut_seat.new.seat.me.0.found, subst (λ (z : TakeSeen _ _). FoundWaiter found.Closing z.found c.shut_seat.new.seat.me.0.found c.shut_seat.result) c.self.view_is c.shut_seat.ensures.waiter) }
