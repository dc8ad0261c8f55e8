use Rattle.std.proofs.Common.{rules, refl, sym, ap, ◌∙◌, [], ◌∷◌}
use Rattle.morsel_prims.specs.Rows.{guest_view, holder_view, place_of_row, list_of_row}
use Rattle.morsel_prims.proofs.RowSteps.{lends, writes, cuts}
use Rattle.morsel_prims.proofs.roll.Roll.write.Goals as goal

pub join_seat-requires : goal.join_seat-requires
join_seat-requires g c = (search rules, search rules, search rules, search rules, lends _ _ _ _ (search rules))

pub compare_exchange_with-requires : goal.compare_exchange_with-requires
compare_exchange_with-requires g c = (search rules, search rules, writes _ _ _ _ _ (search rules) (search rules))

pub split_seat-seat-requires : goal.split_seat-seat-requires
split_seat-seat-requires g c = (search rules, search rules, cuts _ _ (ap (λ m. m.0.has) (c.compare_exchange_with.ensures.2.1 _ refl)))

pub invariant_of-self : goal.invariant_of-self
invariant_of-self g c = let w = c.compare_exchange_with.ensures.2.1 _ refl in let me = c.split_seat-seat.ensures.2 in record {
  one_word = search rules;
  seated = search rules;
  keeps = ap (λ m. m.0.keeps) me ∙ ap (λ m. m.0.keeps) w;
  holds = ap (λ m. m.1) me ∙ (ap (λ m. m.1) w ∙ search rules);
}

pub invariant_of-row : goal.invariant_of-row
invariant_of-row g c =
    let w = c.compare_exchange_with.ensures.2.1 _ refl in let e = c.into_badge.ensures.2 ∙ (ap (λ m. m.0 ∷ []) c.split_seat-seat.ensures.4 ∙ ap (λ m. guest_view m.0 ∷ []) w) in
    record { held = e ∙ sym (ap (λ vs. holder_view (place_of_row vs) (list_of_row vs) ∷ []) e) }

pub returns-clause-table : goal.returns-clause-table
returns-clause-table g c =
    let w = c.compare_exchange_with.ensures.2.1 _ refl in let e = c.into_badge.ensures.2 ∙ (ap (λ m. m.0 ∷ []) c.split_seat-seat.ensures.4 ∙ ap (λ m. guest_view m.0 ∷ []) w) in
    let was = sym (c.replace.ensures.value) in let h = c.args.row.now.held in
    (search rules, search rules, ap place_of_row e ∙ (ap (λ m. m.0.place) c.join_seat.ensures.2 ∙ (ap place_of_row (sym c.into_seat-seat.ensures.2) ∙ ap (λ b. place_of_row b.views) c.replace.ensures.value)))
