use Rattle.std.proofs.Common.{◌≡◌, ◌+◌, length, take, drop, arith}
use Rattle.std.proofs.lemmas.Simd.{take_more_put_chunk, length-chunk}
use Rattle.morsel_ndjson.proofs.EscapeLemmas.{plain_lane}
use Rattle.morsel_ndjson.proofs.values.put_four.Goals as goal

pub returns-clause-plain : goal.returns-clause-plain
returns-clause-plain c = plain_lane 4 c.args.text.now c.args.from c.requires.text (omega arith)

pub returns-clause-written : goal.returns-clause-written
returns-clause-written c =
    let lane = take 4 (drop c.args.from c.args.text.now)
    in let long : length lane ≡ 4 = length-chunk c.args.from 4 c.args.text.now c.requires.text
    in take_more_put_chunk c.args.at c.args.out.now lane (c.args.at + 4) (omega arith) c.requires.room
