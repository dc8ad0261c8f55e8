use Rattle.std.proofs.Common.{◌∙◌}
use Rattle.morsel_text.proofs.IntLemmas.{int_parsed}
use Rattle.morsel_text.proofs.plain.rows.int_of.Goals as goal

pub returns : goal.returns
returns c = c.ok.ensures.value ∙ int_parsed c.args.text.now c.parse.result c.parse.ensures.value.0
