use Rattle.std.proofs.Common.{◌∙◌, ap, sym, length}
use Rattle.std.proofs.lemmas.List.{length-map}
use Rattle.morsel_frame.specs.Packing.{stored}
use Rattle.morsel_frame.proofs.ColumnLemmas.{length-marks, length-kept}
use Rattle.morsel_frame.proofs.column.Column.bools.Goals as goal

pub returns-in-Bool-clause-valid_len : goal.returns-in-Bool-clause-valid_len
returns-in-Bool-clause-valid_len c =
    ap length c.as_slice.ensures.value ∙ length-marks c.self.inside.packed c.self.inside.valid.items c.args.self.now c.self.invariant c.self.view_is

pub returns-in-Bool-clause-len : goal.returns-in-Bool-clause-len
returns-in-Bool-clause-len c =
    ap length c.as_slice-in-Bool.ensures.value ∙ sym (length-map c.in-Bool.flags.items _) ∙ ap (λ p. length (stored p)) (sym c.in-Bool.is)
    ∙ length-kept c.self.inside.packed c.self.inside.valid.items c.args.self.now c.self.invariant c.self.view_is
