use Rattle.std.proofs.Common.{◌≡◌, ◌+◌, length, take, drop, arith}
use Rattle.std.proofs.lemmas.Simd.{take_more_put_chunk, length-chunk}
use Rattle.morsel_text.proofs.text_room.put_word.Goals as goal

pub returns-clause-written : goal.returns-clause-written
returns-clause-written c =
    let word = take 16 (drop c.args.from c.args.padded.now)
    in let long : length word ≡ 16 = length-chunk c.args.from 16 c.args.padded.now c.requires.padded
    in take_more_put_chunk c.args.at c.args.out.now word (c.args.at + 16) (omega arith) c.requires.room
