use Rattle.morsel_cut.specs.Places.{delimiter_options}
use Rattle.morsel_cut.proofs.RunLemmas.{unquoted_front, quotes_run}
use Rattle.morsel_cut.proofs.pass.stretch_run.Goals as goal

pub returns-then-is_in_quotes-clause-run : goal.returns-then-is_in_quotes-clause-run
returns-then-is_in_quotes-clause-run c =
    quotes_run (delimiter_options c.args.delimiters) c.args.from _ (c.is_in_quotes.ensures.place.0 c.if-is_in_quotes.true)
    (unquoted_front c.args.delimiters.quote c.args.text.now c.unquoted_len.result c.unquoted_len.ensures.unquoted)
