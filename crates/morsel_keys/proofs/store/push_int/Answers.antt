use Rattle.std.proofs.Common.{rules, ◌∙◌, ap, ◌≡◌, ℤ}
use Rattle.std.specs.Int.{w64, cast_signed, cast_unsigned}
use Rattle.std.proofs.lemmas.Int.{to_z-of_z}
use Rattle.morsel_meaning.specs.declared.value.Value.TheVariants as values
use Rattle.morsel_keys.specs.ColumnKeys.{int_held}
use Rattle.morsel_keys.proofs.HeldLemmas.{new_held}
use Rattle.morsel_keys.proofs.store.push_int.Goals as goal

pub push-requires-clause-new : goal.push-requires-clause-new
push-requires-clause-new c =
    let back : cast_signed w64 (cast_unsigned w64 c.args.number) ≡ c.args.number = to_z-of_z w64 c.args.number (search rules) in
    new_held int_held c.args.words.now c.cast_unsigned.result (values.Int c.args.number)
    (ap int_held c.cast_unsigned.ensures ∙ ap values.Int (ap (λ (n : ℤ). cast_signed w64 (cast_unsigned w64 n)) back ∙ back)) c.requires.new
