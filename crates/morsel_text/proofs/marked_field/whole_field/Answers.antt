use Rattle.std.proofs.Common.{◌∙◌, sym, ap, true}
use Rattle.std.specs.Prelude.{Some}
use Rattle.std.proofs.lemmas.Bool.{eq-eqb}
use Rattle.morsel_text.specs.RawFields.{shown}
use Rattle.morsel_text.proofs.MarkedLemmas.{whole_one}
use Rattle.morsel_text.proofs.marked_field.whole_field.Goals as goal

pub returns : goal.returns
returns c =
    rw (c.if-not-is_last.false)
    (ap Some c.last.ensures
    ∙ sym (whole_one c.args.options.now (shown c.args.field) c.args.rest.now true true c.if-rest-ne1.false (eq-eqb _ 13 c.if-rest-ne13.false)
    (eq-eqb c.args.options.now.eol 10 (sym c.eol.ensures ∙ c.if-eol-ne10.false))))
