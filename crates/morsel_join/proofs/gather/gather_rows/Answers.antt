use Rattle.std.proofs.Common.{◌∙◌, List, map, length, subst, sym, ap}
use Rattle.morsel_meaning.specs.declared.value.Field.{Field}
use Rattle.morsel_frame.specs.Columns.{Values}
use Rattle.morsel_frame.specs.Frames.{Fit}
use Rattle.morsel_join.specs.declared.rules.JoinColumn.{JoinColumn}
use Rattle.morsel_join.specs.Rows.{marked_column}
use Rattle.morsel_join.proofs.gather.gather_rows.Goals as goal
use Rattle.morsel_join.proofs.RowLemmas.{gathered-fit}

pub new-requires : goal.new-requires
new-requires c =
    let left = c.args.left.now in
    let right = c.args.right.now in
    let lefts = c.args.lefts.now in
    let rights = c.args.rights.now in
    let rules = c.args.rules.now in
    subst (λ (fs : List Field). Fit fs (length lefts) c.in_ok-columns.columns.items) (sym c.in_ok-schema.ensures.same)
    (subst (λ (vs : List Values). Fit rules.output (length lefts) vs) (sym (c.in_ok-columns.ensures.ok ∙ ap (λ (cs : List JoinColumn). map (marked_column left right lefts rights) cs) c.deref.ensures.value))
    (gathered-fit left right lefts rights rules.output rules.columns.items c.requires.len c.requires.types))
