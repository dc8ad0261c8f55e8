use Rattle.std.proofs.Common.{rules}
use Rattle.morsel_words.proofs.CloseSteps.{joins, finds_agreed}
use Rattle.morsel_words.proofs.close_word.agree_seats.Goals as goal

pub join_seat-requires : goal.join_seat-requires
join_seat-requires g c = (search rules, search rules, c.requires.receiver.2, search rules, joins _ _ _ _ _ _ c.requires.sender.0 c.requires.receiver.0)

pub load-requires : goal.load-requires
load-requires g c = (search rules, search rules, finds_agreed _ _ _ _ _ (search rules) (search rules) (search rules))
