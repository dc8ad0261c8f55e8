use Rattle.std.proofs.Common.{◌+◌, sym, ap, add-one}
use Rattle.std.proofs.lemmas.List.{take_rest}
use Rattle.morsel_grammar.specs.Split.{in_quotes}
use Rattle.morsel_text.proofs.SplitLemmas.{quoted_never, quoted_lone}
use Rattle.morsel_text.proofs.split.quoted.Goals as goal

pub returns-in_default-clause-value : goal.returns-in_default-clause-value
returns-in_default-clause-value c = sym (ap in_quotes (quoted_never c.args.quote c.args.text.now c.in_default.ensures))

pub returns-in_default-strip-clause-value : goal.returns-in_default-strip-clause-value
returns-in_default-strip-clause-value c =
    let at = c.in-Some.at in
    sym (ap in_quotes (quoted_lone c.args.quote c.args.text.now at (at + 1) _ (add-one at) (take_rest c.args.text.now (at + 1))
    c.in-Some.ensures.0.high c.in-Some.ensures.0.before c.in-Some.ensures.1 c.in_default-strip.ensures.value))
