use Rattle.std.proofs.Common.{rules}
use Rattle.morsel_words.proofs.OpenSteps.{parts}
use Rattle.morsel_words.proofs.CloseSteps.{joins}
use Rattle.morsel_words.proofs.HistorySteps.{spares, finds_history}
use Rattle.morsel_words.proofs.history.look_both.Goals as goal

pub split_seat-spare-requires : goal.split_seat-spare-requires
split_seat-spare-requires g c = (search rules, search rules, spares _ _ _ _)

pub join_seat-requires : goal.join_seat-requires
join_seat-requires g c = (search rules, search rules, search rules, search rules, joins _ _ _ _ _ _ (search rules) (search rules))

pub load-requires : goal.load-requires
load-requires g c = (search rules, search rules, finds_history _ _ _ _ _ c.requires.receiver.1.0 (search rules) (search rules) (search rules))

pub split_seat-requires : goal.split_seat-requires
split_seat-requires g c = (search rules, search rules, parts _ _ _ _ (search rules))
