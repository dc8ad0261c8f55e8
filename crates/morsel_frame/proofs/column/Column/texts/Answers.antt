use Rattle.std.proofs.Common.{◌∙◌, ap, sym, length}
use Rattle.std.proofs.lemmas.List.{length-map}
use Rattle.morsel_frame.specs.Packing.{stored}
use Rattle.morsel_frame.proofs.ColumnLemmas.{length-marks, length-kept}
use Rattle.morsel_frame.proofs.column.Column.texts.Goals as goal

pub returns-in-Text-clause-valid_len : goal.returns-in-Text-clause-valid_len
returns-in-Text-clause-valid_len c =
    ap length c.as_slice.ensures.value ∙ length-marks c.self.inside.packed c.self.inside.valid.items c.args.self.now c.self.invariant c.self.view_is

pub returns-in-Text-clause-len : goal.returns-in-Text-clause-len
returns-in-Text-clause-len c =
    sym (length-map c.in-Text.texts _) ∙ ap (λ p. length (stored p)) (sym c.in-Text.is)
    ∙ length-kept c.self.inside.packed c.self.inside.valid.items c.args.self.now c.self.invariant c.self.view_is
