use Rattle.std.proofs.Common.{◌∙◌, sym, map, refl}
use Rattle.morsel_text.specs.RawFields.{shown}
use Rattle.morsel_text.proofs.RowLemmas.{shown_length}
use Rattle.morsel_text.proofs.PlaceLemmas.{kind_null, kind_row, kind_misfit}
use Rattle.morsel_text.proofs.place.row_kind.Goals as goal

pub returns-then-width-eq1 : goal.returns-then-width-eq1
returns-then-width-eq1 c = λ o ks same. kind_null o ks (map shown c.args.fields.now) (sym c.is_empty.ensures ∙ c.if-is_empty.true) (same ∙ c.if-width-eq1.true)

pub returns-then-fields-width : goal.returns-then-fields-width
returns-then-fields-width c = λ o ks same. kind_misfit o ks (map shown c.args.fields.now) (sym c.is_empty.ensures ∙ c.if-is_empty.false)
    (λ e. c.if-fields-width.true (sym (shown_length c.args.fields.now _ refl) ∙ e ∙ same))

pub returns : goal.returns
returns c = λ o ks same. kind_row o ks (map shown c.args.fields.now) (sym c.is_empty.ensures ∙ c.if-is_empty.false)
    (shown_length c.args.fields.now _ refl ∙ c.if-fields-width.false ∙ sym same)
