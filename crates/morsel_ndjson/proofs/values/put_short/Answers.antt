use Rattle.std.proofs.Common.{◌≡◌, ℕ, ◌+◌, ◌∙◌, take, ap, arith}
use Rattle.morsel_ndjson.proofs.EscapeLemmas.{quoted_lane, quoted_front}
use Rattle.morsel_ndjson.proofs.values.put_short.Goals as goal

pub returns-then-plain-len-clause-written : goal.returns-then-plain-len-clause-written
returns-then-plain-len-clause-written c =
    quoted_front c.args.out.now c.put_byte-begin.new.out c.put_plain_lane-plain.new.out c.put_rest.new.out c.args.bytes.now c.args.at c.put_byte-begin.result
    c.put_plain_lane-plain.result c.args.len c.put_rest.result
    (omega (arith, c.if-plain-len.true)) c.requires.short c.requires.long (omega arith) (omega arith)
    c.put_plain_lane-plain.ensures.plain c.put_byte-begin.ensures.written c.put_plain_lane-plain.ensures.written c.put_rest.ensures.written

pub returns-clause-written : goal.returns-clause-written
returns-clause-written c =
    let place : c.put_byte.result ≡ c.args.at + c.args.len + 2 = omega (arith, c.put_byte.ensures.end, c.put_byte-begin.ensures.end) in
    ap (λ (n : ℕ). take n c.put_byte.new.out) place
    ∙ quoted_lane c.args.out.now c.put_byte-begin.new.out c.put_plain_lane-plain.new.out c.put_byte.new.out c.args.bytes.now c.args.at c.put_byte-begin.result c.args.len
    c.put_plain_lane-plain.result c.put_byte.result
    c.put_byte-begin.ensures.end c.put_byte.ensures.end (omega (arith, c.if-plain-len.false)) c.requires.short c.requires.long (omega arith) (omega arith)
    c.put_plain_lane-plain.ensures.plain c.put_byte-begin.ensures.written c.put_plain_lane-plain.ensures.written c.put_byte.ensures.written
