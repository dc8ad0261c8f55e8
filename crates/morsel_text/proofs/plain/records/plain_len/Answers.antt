use Rattle.std.proofs.Common.{sym, ◌∙◌, arith, subst, ◌≡◌, ℕ, length}
use Rattle.morsel_text.specs.RawFields.{PassedTo}
use Rattle.morsel_text.proofs.SplitLemmas.{plain_stop, plain_all}
use Rattle.morsel_text.proofs.plain.records.plain_len.Goals as goal

pub returns-then-stops-clause-value : goal.returns-then-stops-clause-value
returns-then-stops-clause-value c = plain_stop c.args.options.now c.args.text.now c.loop-at.at c.loop-at-test.true c.loop-at.invariant
    (rw (sym c.separator.ensures, sym c.eol.ensures) (sym c.stops.ensures ∙ c.if-stops.true))

pub returns-clause-value : goal.returns-clause-value
returns-clause-value c =
    let whole : c.loop-at.at ≡ length c.args.text.now = omega arith in
    plain_all c.args.options.now c.args.text.now (subst (λ (n : ℕ). PassedTo c.args.options.now c.args.text.now n) whole c.loop-at.invariant)
