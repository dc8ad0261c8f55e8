use Rattle.std.proofs.Common.{arith}
use Rattle.morsel_ndjson.proofs.DigitLemmas.{group_put}
use Rattle.morsel_ndjson.proofs.digits.put_group.Goals as goal

pub returns-clause-written : goal.returns-clause-written
returns-clause-written c = group_put c.args.out.now c.put_entry.new.out c.args.at c.args.number c.requires.few (omega arith) (omega arith) c.put_entry.ensures
