use Rattle.morsel_meaning.proofs.NumberLemmas.{numbers_often, numbers_rise, numbers_stay, folds_by_number}
use Rattle.morsel_meaning.proofs.laws.things_come_by_number.Goals as goal

pub returns-clause-often : goal.returns-clause-often
returns-clause-often given c = numbers_often

pub returns-clause-rise : goal.returns-clause-rise
returns-clause-rise given c = numbers_rise

pub returns-clause-stay : goal.returns-clause-stay
returns-clause-stay given c = numbers_stay

pub returns-clause-folds : goal.returns-clause-folds
returns-clause-folds given c = folds_by_number
