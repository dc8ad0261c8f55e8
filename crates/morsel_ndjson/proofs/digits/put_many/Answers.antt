use Rattle.std.proofs.Common.{◌≤◌, length, decimal, arith}
use Rattle.std.proofs.lemmas.Fmt.{length-decimal-le}
use Rattle.morsel_ndjson.proofs.PutLemmas.{digits_to}
use Rattle.morsel_ndjson.proofs.digits.put_many.Goals as goal

pub overflow_add-end : goal.overflow_add-end
overflow_add-end c =
    let short : length (decimal c.args.number) ≤ 19 = length-decimal-le 19 c.args.number (omega arith) c.requires.short (omega arith)
    in omega (arith, c.digit_count.ensures, short)

pub write_digits-start-requires : goal.write_digits-start-requires
write_digits-start-requires c =
    let short : length (decimal c.args.number) ≤ 19 = length-decimal-le 19 c.args.number (omega arith) c.requires.short (omega arith)
    in (omega (arith, c.digit_count.ensures), omega (arith, c.digit_count.ensures, short))

pub returns-clause-within : goal.returns-clause-within
returns-clause-within c =
    let short : length (decimal c.args.number) ≤ 19 = length-decimal-le 19 c.args.number (omega arith) c.requires.short (omega arith)
    in omega (arith, c.digit_count.ensures, short)

pub returns-clause-written : goal.returns-clause-written
returns-clause-written c =
    let short : length (decimal c.args.number) ≤ 19 = length-decimal-le 19 c.args.number (omega arith) c.requires.short (omega arith)
    in digits_to c.args.out.now c.write_digits-start.new.buf (decimal c.args.number) c.args.at c.write_digits-start.result c.digit_count.result
    c.digit_count.ensures c.write_digits-start.ensures.start (omega (arith, c.digit_count.ensures, short))
    c.write_digits-start.ensures.written c.write_digits-start.ensures.before
