use Rattle.std.proofs.Common.{rules}
use Rattle.morsel_query.specs.RunOptions.{AreInRange}
use Rattle.morsel_query_text.specs.Borrowed.{numbers_of, query_of_text}
use Rattle.morsel_query_text.proofs.FlawLemmas.{flawless_is}
use Rattle.morsel_query_text.proofs.make.flawless_text.Goals as goal

pub returns-clause-flawless : goal.returns-clause-flawless
returns-clause-flawless c =
    let text = c.args.text in
    flawless_is (query_of_text text) c.args.out.now (λ (none : AreInRange (numbers_of text.options) → ⊥). let wrong = c.in_ok-options.ensures.option_range.1 none in cc) (search rules) c.in_ok-left.ensures.readable c.in_ok-join.ensures.readable
