use Rattle.std.proofs.Common.{◌∙◌, sym, refl}
use Rattle.std.proofs.lemmas.Bool.{eq-eqb}
use Rattle.morsel_text.proofs.raw_field.last.Goals as goal

pub returns : goal.returns
returns c = rw c.in-Plain.is (rw (eq-eqb c.args.options.now.eol 10 (sym c.eol.ensures ∙ c.if-eol-ne10.false), c.content_len.ensures.value) refl)
