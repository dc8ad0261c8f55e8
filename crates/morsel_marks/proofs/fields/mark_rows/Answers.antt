use Rattle.std.proofs.Common.{◌≡◌, ℕ, Option, subst, ap, take, true, false, MatchOption}
use Rattle.morsel_marks.specs.Marks.{is_well_quoted, field_ends}
use Rattle.morsel_marks.proofs.ReadLemmas.{places_within}
use Rattle.morsel_marks.proofs.fields.mark_rows.Goals as goal

pub count_rows-requires-clause-within : goal.count_rows-requires-clause-within
count_rows-requires-clause-within c =
    let o = c.args.options.now in
    let text = c.args.text.now in
    let places = c.mark_fields.new.places.items in
    let found = subst (λ (found : Option ℕ). MatchOption found (is_well_quoted o text ≡ false)
    (λ n. (is_well_quoted o text ≡ true) × (take n places ≡ field_ends o text))) c.in-Some.is c.in_ok-count.ensures.ok in
    places_within o text (take c.in-Some.count places) _ c.comment.ensures.fit found.0 (ap (take c.in-Some.count) c.as_slice.ensures.value) found.1
