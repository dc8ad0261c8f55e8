use Rattle.std.proofs.Common.{◌≡◌, ◌+◌, length, take, drop, arith}
use Rattle.std.proofs.lemmas.Simd.{take_more_put_chunk, length-chunk}
use Rattle.morsel_ndjson.proofs.digits.put_entry.Goals as goal

pub returns : goal.returns
returns c =
    let entry = take 4 (drop c.args.from c.args.table.now)
    in let long : length entry ≡ 4 = length-chunk c.args.from 4 c.args.table.now c.requires.table
    in take_more_put_chunk c.args.at c.args.out.now entry (c.args.at + 4) (omega arith) c.requires.room
