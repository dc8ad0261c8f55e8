use Rattle.morsel_frame.proofs.SelectLemmas.{names_at-distinct}
use Rattle.morsel_frame.proofs.selects.select_schema.Goals as goal

pub of_distinct-requires : goal.of_distinct-requires
of_distinct-requires c =
    rw (c.in_ok-fields.ensures.ok, c.fields.ensures)
    (names_at-distinct c.args.schema.now c.args.places.now c.len-width.ensures.distinct c.requires.once c.requires.within)
