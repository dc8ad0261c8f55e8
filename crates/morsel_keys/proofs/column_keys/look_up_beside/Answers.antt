use Rattle.std.proofs.Common.{rules}
use Rattle.morsel_keys.proofs.FoundLemmas.{placed_all}
use Rattle.morsel_keys.proofs.column_keys.look_up_beside.Goals as goal

pub returns : goal.returns
returns c = placed_all c.args.null c.args.store.now c.valid.result.now c.args.column.now.values c.look_up.new.out c.place_each.new.out c.requires.keys c.valid.ensures.len (search rules) c.valid.ensures.values c.look_up.ensures c.place_each.ensures
