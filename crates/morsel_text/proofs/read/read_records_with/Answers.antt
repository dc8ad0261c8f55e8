use Rattle.morsel_grammar.proofs.ResultLemmas.{answers_by_grammar}
use Rattle.morsel_text.proofs.read.read_records_with.Goals as goal

pub returns-clause-grammar : goal.returns-clause-grammar
returns-clause-grammar c = answers_by_grammar c.args.options.now c.comment-comment.ensures.fit
    c.args.file c.args.schema.now c.args.used.now c.args.head c.args.at c.args.bytes.now c.read_frame.result c.read_frame.ensures
