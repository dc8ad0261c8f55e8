use Rattle.std.proofs.Common.{◌∙◌, sym, ap, []}
use Rattle.morsel_meaning.specs.Values.{names_of}
use Rattle.morsel_frame.specs.Names.{first_repeated}
use Rattle.morsel_frame.proofs.SeenNames.{distinct-from_known}
use Rattle.morsel_frame.proofs.schema.Schema.new.Goals as goal

pub invariant_of-result : goal.invariant_of-result
invariant_of-result c =
    distinct-from_known [] (names_of c.args.fields.items)
    (ap (λ fields. first_repeated (names_of fields)) (sym c.as_slice.ensures.value) ∙ sym c.in_ok-name.ensures.value ∙ c.in-None.is)
