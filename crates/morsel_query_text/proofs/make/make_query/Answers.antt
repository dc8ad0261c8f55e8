use Rattle.std.proofs.Common.{sym, subst}
use Rattle.std.proofs.lemmas.Result.{err_from_is_err_and}
use Rattle.morsel_query_text.specs.Written.{WrittenQuery}
use Rattle.morsel_query_text.specs.TextFlaws.{IsFlawless}
use Rattle.morsel_query_text.specs.Borrowed.{query_of_text, query_of_flawless}
use Rattle.morsel_query_text.proofs.MadeLemmas.{refused_early, made_ok, made_err}
use Rattle.morsel_query_text.proofs.make.make_query.Goals as goal

pub returns-in_err-flawless-clause-refused : goal.returns-in_err-flawless-clause-refused
returns-in_err-flawless-clause-refused c =
    let p = err_from_is_err_and c.from_residual.result c.from_residual.ensures.1 in
    rw (p.1, p.2) (refused_early (query_of_text c.args.text) c.args.out.now c.in_err-flawless.field-0.0 c.in_err-flawless.ensures.refused)

pub make_flawless-requires-clause-flawless : goal.make_flawless-requires-clause-flawless
make_flawless-requires-clause-flawless c = subst (λ (w : WrittenQuery). IsFlawless w c.args.out.now) (sym c.in_ok-flawless.ensures.ok) c.in_ok-flawless.ensures.flawless

pub returns-clause-ok : goal.returns-clause-ok
returns-clause-ok c =
    made_ok c.make_flawless.result (query_of_flawless c.in_ok-flawless.flawless) (query_of_text c.args.text) c.args.out.now c.in_ok-flawless.ensures.ok c.in_ok-flawless.ensures.flawless c.make_flawless.ensures.ok

pub returns-clause-refused : goal.returns-clause-refused
returns-clause-refused c =
    made_err c.make_flawless.result (query_of_flawless c.in_ok-flawless.flawless) (query_of_text c.args.text) c.args.out.now c.in_ok-flawless.ensures.ok c.in_ok-flawless.ensures.flawless c.make_flawless.ensures.refused
