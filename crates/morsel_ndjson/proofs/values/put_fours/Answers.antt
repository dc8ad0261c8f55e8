use Rattle.std.proofs.Common.{length, ◌-◌, arith}
use Rattle.morsel_ndjson.proofs.EscapeLemmas.{plain_both}
use Rattle.morsel_ndjson.proofs.PutLemmas.{two_words}
use Rattle.morsel_ndjson.proofs.values.put_fours.Goals as goal

pub returns-clause-plain : goal.returns-clause-plain
returns-clause-plain c =
    plain_both c.args.text.now 4 (length c.args.text.now - 4) (length c.args.text.now) c.put_four-front.result c.put_four-back.result (omega arith) (omega arith)
    c.put_four-front.ensures.plain c.put_four-back.ensures.plain

pub returns-clause-written : goal.returns-clause-written
returns-clause-written c =
    two_words c.args.out.now c.put_four-front.new.out c.put_four-back.new.out c.args.text.now c.args.at 4 c.requires.long (omega arith) c.requires.room
    (omega arith) (omega arith) c.put_four-front.ensures.written c.put_four-back.ensures.written
