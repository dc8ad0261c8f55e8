use Rattle.std.proofs.Common.{◌≡◌, ◌+◌, length, take, arith}
use Rattle.std.proofs.lemmas.Simd.{take_more_put_chunk, length-chunk}
use Rattle.morsel_ndjson.proofs.EscapeLemmas.{plain_lane_none, plain_to_first}
use Rattle.morsel_ndjson.proofs.values.put_plain_lane.Goals as goal

pub returns-then-escapes-eq0-clause-plain : goal.returns-then-escapes-eq0-clause-plain
returns-then-escapes-eq0-clause-plain c = plain_lane_none 16 c.args.bytes.now 0 c.requires.long (omega arith) c.if-escapes-eq0.true

pub returns-then-escapes-eq0-clause-written : goal.returns-then-escapes-eq0-clause-written
returns-then-escapes-eq0-clause-written c =
    let long : length (take 16 c.args.bytes.now) ≡ 16 = length-chunk 0 16 c.args.bytes.now c.requires.long
    in take_more_put_chunk c.args.at c.args.out.now (take 16 c.args.bytes.now) (c.args.at + 16) (omega arith) c.requires.room

pub returns-clause-plain : goal.returns-clause-plain
returns-clause-plain c = plain_to_first 16 c.args.bytes.now c.requires.long (omega arith) (omega (arith, c.if-escapes-eq0.false))

pub returns-clause-written : goal.returns-clause-written
returns-clause-written c =
    let long : length (take 16 c.args.bytes.now) ≡ 16 = length-chunk 0 16 c.args.bytes.now c.requires.long
    in take_more_put_chunk c.args.at c.args.out.now (take 16 c.args.bytes.now) (c.args.at + 16) (omega arith) c.requires.room
