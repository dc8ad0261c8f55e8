use Rattle.std.proofs.Common.{rules, ◌∙◌, ap, ◌≡◌}
use Rattle.std.specs.Int.{w64, cast_signed, cast_unsigned}
use Rattle.std.proofs.lemmas.Int.{to_z-of_z}
use Rattle.morsel_keys.proofs.FoundLemmas.{found_int}
use Rattle.morsel_keys.proofs.words.number_of_int.Goals as goal

pub returns : goal.returns
returns c =
    let back : cast_signed w64 (cast_unsigned w64 c.args.number) ≡ c.args.number = to_z-of_z w64 c.args.number (search rules) in
    found_int c.args.words.now c.args.number c.cast_unsigned.result c.number_from.result (c.cast_unsigned.ensures ∙ ap (cast_unsigned w64) back)
    (ap (cast_signed w64) (c.cast_unsigned.ensures ∙ ap (cast_unsigned w64) back) ∙ back) c.requires.keys.fit c.number_from.ensures
