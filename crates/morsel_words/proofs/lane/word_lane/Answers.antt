use Rattle.std.proofs.Common.{rules}
use Rattle.morsel_words.proofs.OpenSteps.{opens, parts}
use Rattle.morsel_words.proofs.lane.word_lane.Goals as goal

pub vacant-requires : goal.vacant-requires
vacant-requires g c = opens _ _

pub split_seat-taking-requires : goal.split_seat-taking-requires
split_seat-taking-requires g c = (search rules, search rules, parts _ _ _ _ (search rules))
