use Rattle.std.proofs.Common.{◌∙◌, ap, length, List, sym, subst}
use Rattle.morsel_meaning.specs.Values.{Table}
use Rattle.morsel_frame.specs.Columns.{Values}
use Rattle.morsel_frame.specs.Frames.{Fit}
use Rattle.morsel_frame.proofs.FrameLemmas.{length-rows}
use Rattle.morsel_group.proofs.FinishLemmas.{fit_finished}
use Rattle.morsel_group.proofs.finish.finished_rows.Goals as goal

pub new-requires : goal.new-requires
new-requires c =
    subst (λ (cs : List Values). Fit c.args.reduced c.args.count cs) (sym c.in-Ok.ensures.ok) (fit_finished c.args.reduced c.args.count c.args.parts.items c.requires.kinds c.requires.count)

pub returns-clause-len : goal.returns-clause-len
returns-clause-len c =
    ap (λ (t : Table). length t.rows) c.new.ensures
    ∙ length-rows c.args.reduced c.args.count c.in-Ok.columns.items
    (subst (λ (cs : List Values). Fit c.args.reduced c.args.count cs) (sym c.in-Ok.ensures.ok) (fit_finished c.args.reduced c.args.count c.args.parts.items c.requires.kinds c.requires.count))
