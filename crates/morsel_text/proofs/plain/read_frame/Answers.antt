use Rattle.std.proofs.Common.{◌∙◌, List, sym, ap, subst}
use Rattle.morsel_meaning.specs.Values.{kinds_of}
use Rattle.morsel_frame.specs.Columns.{Values}
use Rattle.morsel_text.specs.Pushes.{column_kinds}
use Rattle.morsel_text.specs.Steps.{AreHigh}
use Rattle.morsel_text.proofs.StepLemmas.{kinds-empty}
use Rattle.morsel_text.proofs.PlainLemmas.{kinds_of-chosen, high-none, fit-all}
use Rattle.morsel_text.proofs.plain.read_frame.Goals as goal

pub read_all-requires-clause-kinds : goal.read_all-requires-clause-kinds
read_all-requires-clause-kinds c =
    ap column_kinds c.in_ok-columns.ensures.ok ∙ kinds-empty _ ∙ ap kinds_of c.in_ok-chosen.ensures.ok
    ∙ kinds_of-chosen c.args.reader.now.used.now c.args.reader.now.schema.now

pub read_all-requires-clause-empty : goal.read_all-requires-clause-empty
read_all-requires-clause-empty c = subst (λ (cs : List Values). AreHigh 0 cs) (sym c.in_ok-columns.ensures.ok) (high-none _)

pub new-requires : goal.new-requires
new-requires c =
    let all = c.in_ok-height.ensures in
    fit-all _ _ c.read_all.new.columns.items
    (all.4 ∙ ap column_kinds c.in_ok-columns.ensures.ok ∙ kinds-empty _) all.3
