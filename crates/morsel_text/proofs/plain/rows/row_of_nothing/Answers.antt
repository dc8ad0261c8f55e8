use Rattle.std.proofs.Common.{◌∙◌, sym, ap, rules}
use Rattle.std.specs.Prelude.{Some}
use Rattle.morsel_text.proofs.PlainLemmas.{row_of_one, null_used, null_unused}
use Rattle.morsel_text.proofs.plain.rows.row_of_nothing.Goals as goal

pub returns-then-not-used-clause-row : goal.returns-then-not-used-clause-row
returns-then-not-used-clause-row c = λ kinds same.
    let one = c.if-used-ne1.false in
    row_of_one c.args.used.now kinds c.new-values.result.items same one (null_unused c.args.used.now one c.if-not-used.true ∙ ap Some (sym c.new-values.ensures.items))

pub returns-clause-row : goal.returns-clause-row
returns-clause-row c = λ kinds same.
    let one = c.if-used-ne1.false in
    row_of_one c.args.used.now kinds c.push.new.self.items same one (null_used c.args.used.now one c.if-not-used.false ∙ ap Some (search rules))
