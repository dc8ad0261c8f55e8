use Rattle.std.proofs.Common.{arith}
use Rattle.morsel_ndjson.proofs.DigitLemmas.{head_count, head_put}
use Rattle.morsel_ndjson.proofs.digits.put_head.Goals as goal

pub returns-clause-within : goal.returns-clause-within
returns-clause-within c = let most = head_count c.args.number c.requires.few in omega (arith, most)

pub returns-clause-written : goal.returns-clause-written
returns-clause-written c = head_put c.args.out.now c.put_entry.new.out c.args.at c.args.number c.requires.few (omega arith) (omega arith) c.put_entry.ensures
