use Rattle.std.proofs.Common.{◌<◌, ◌≤◌, ◌^◌, ◌∙◌, sym, length, take, arith}
use Rattle.std.proofs.lemmas.List.{length-take-le}
use Rattle.std.specs.Str.Parse.{digits_value}
use Rattle.morsel_text.proofs.IntLemmas.{below_power, one_more_digit, one_more_value, no_short_number}
use Rattle.morsel_text.proofs.cells.short_number.Goals as goal

pub returns-then-not-is_ascii_digit : goal.returns-then-not-is_ascii_digit
returns-then-not-is_ascii_digit c = sym (no_short_number c.args.digits.now c.loop-digit.digit-index c.loop-digit-test.true
    (sym c.is_ascii_digit.ensures.value ∙ c.if-not-is_ascii_digit.true))

pub overflow_mul-number : goal.overflow_mul-number
overflow_mul-number c =
    let before = take c.loop-digit.digit-index c.args.digits.now in
    let size : length before ≤ 17 = omega (arith, length-take-le c.loop-digit.digit-index c.args.digits.now (omega arith)) in
    let below : digits_value 10 before < 10 ^ 17 = below_power before 17 c.loop-digit.invariant.digits size in
    omega arith

pub overflow_add-number : goal.overflow_add-number
overflow_add-number c =
    let before = take c.loop-digit.digit-index c.args.digits.now in
    let size : length before ≤ 17 = omega (arith, length-take-le c.loop-digit.digit-index c.args.digits.now (omega arith)) in
    let below : digits_value 10 before < 10 ^ 17 = below_power before 17 c.loop-digit.invariant.digits size in
    omega arith

pub loop-digit-preserved : goal.loop-digit-preserved
loop-digit-preserved c = record {
  digits = one_more_digit c.args.digits.now c.loop-digit.digit-index c.loop-digit-test.true c.loop-digit.invariant.digits
      (sym c.is_ascii_digit.ensures.value ∙ c.if-not-is_ascii_digit.false);
  value = one_more_value c.args.digits.now c.loop-digit.digit-index c.loop-digit.number c.loop-digit-test.true
      (sym c.is_ascii_digit.ensures.value ∙ c.if-not-is_ascii_digit.false) c.loop-digit.invariant.value;
}
