use Rattle.std.proofs.Common.{◌≡◌, ◌∙◌, sym, ap, arith}
use Rattle.std.proofs.lemmas.Int.{to_z_pos}
use Rattle.std.specs.Int.{w64}
use Rattle.std.specs.Prelude.{Some}
use Rattle.morsel_grammar.specs.Cells.{short_number}
use Rattle.morsel_text.proofs.IntLemmas.{int_parsed, short_is_int}
use Rattle.morsel_text.proofs.cells.int_of.Goals as goal

pub overflow_cast-result : goal.overflow_cast-result
overflow_cast-result c =
    let short : short_number c.args.text.now ≡ Some c.in-Some.number = ap short_number (sym c.as_bytes.ensures.value) ∙ sym c.in-Some.ensures in
    omega (arith, (short_is_int c.args.text.now c.in-Some.number short).1)

pub returns-in-Some : goal.returns-in-Some
returns-in-Some c =
    let short : short_number c.args.text.now ≡ Some c.in-Some.number = ap short_number (sym c.as_bytes.ensures.value) ∙ sym c.in-Some.ensures in
    let parts = short_is_int c.args.text.now c.in-Some.number short in
    ap Some (to_z_pos w64 c.in-Some.number (omega (arith, parts.1))) ∙ sym parts.0

pub returns : goal.returns
returns c = c.ok.ensures.value ∙ int_parsed c.args.text.now c.parse.result c.parse.ensures.value.0
