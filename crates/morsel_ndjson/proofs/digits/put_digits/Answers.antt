use Rattle.std.proofs.Common.{◌/◌, ◌%◌, ◌++◌, decimal, refl, arith}
use Rattle.morsel_ndjson.specs.Digits.{group}
use Rattle.morsel_ndjson.proofs.DigitLemmas.{two_parts, of_group, of_groups}
use Rattle.morsel_ndjson.proofs.digits.put_digits.Goals as goal

pub returns-then-number-lt1000000-clause-written : goal.returns-then-number-lt1000000-clause-written
returns-then-number-lt1000000-clause-written c =
    two_parts c.args.out.now _ _ c.args.at (decimal (c.args.number / 1000)) (group (c.args.number % 1000)) (decimal c.args.number)
    c.put_head-at.ensures.written c.put_group.ensures.written (of_group c.args.number (omega arith) (omega arith))

pub returns-then-number-lt1000000000-clause-written : goal.returns-then-number-lt1000000000-clause-written
returns-then-number-lt1000000000-clause-written c =
    let first = decimal (c.args.number / 1000000) in
    let second = group (c.args.number / 1000 % 1000) in
    two_parts c.args.out.now _ _ c.args.at (first ++ second) (group (c.args.number % 1000)) (decimal c.args.number)
    (two_parts c.args.out.now _ _ c.args.at first second (first ++ second) c.put_head-at-then-number-lt1000000000.ensures.written c.put_group-at.ensures.written refl)
    c.put_group-then-number-lt1000000000.ensures.written (of_groups c.args.number (omega arith) (omega arith))
