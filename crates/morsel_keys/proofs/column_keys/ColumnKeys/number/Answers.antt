use Rattle.morsel_keys.proofs.NumberLemmas.{numbers_found}
use Rattle.morsel_keys.proofs.column_keys.ColumnKeys.number.Goals as goal

pub returns-then-all_found-clause-numbers : goal.returns-then-all_found-clause-numbers
returns-then-all_found-clause-numbers c = numbers_found c.args.self.now.values c.args.column.now.values c.look_up.new.out c.look_up.ensures c.if-all_found.ensures
