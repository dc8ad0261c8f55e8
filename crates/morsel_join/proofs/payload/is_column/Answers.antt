use Rattle.std.proofs.Common.{◌∙◌}
use Rattle.morsel_join.proofs.payload.is_column.Goals as goal
use Rattle.morsel_join.proofs.PayloadLemmas.{any_name}

pub returns : goal.returns
returns c = c.has_name.ensures ∙ any_name c.args.name.now c.args.fields.now
