use Rattle.std.proofs.Common.{rules, sym, ap, ◌∙◌, ◌-◌, length, set, [], ◌∷◌, ◌++◌}
use lib.ListN.{get_elem?}
use Rattle.morsel_prims.specs.Rows.{guest_view, holder_view, place_of_row, list_of_row}
use Rattle.morsel_prims.proofs.RowSteps.{lends, copies, cuts}
use Rattle.morsel_prims.proofs.roll.Roll.copy.Goals as goal

pub join_seat-requires : goal.join_seat-requires
join_seat-requires g c = (search rules, search rules, search rules, search rules, lends _ _ _ _ (search rules))

pub load-requires : goal.load-requires
load-requires g c =
    let rows = ap (λ m. m.0.rows) c.join_seat.ensures.2 in
    let place = ap (λ m. m.0.place) c.join_seat.ensures.2 ∙ (ap place_of_row (sym c.into_seat-seat.ensures.2) ∙ ap (λ b. place_of_row b.views) c.replace.ensures.value) in
    let list = ap (λ m. m.0.list) c.join_seat.ensures.2 ∙ (ap list_of_row (sym c.into_seat-seat.ensures.2) ∙ ap (λ b. list_of_row b.views) c.replace.ensures.value) in
    let before = c.requires.next.0 in
    (search rules, search rules, copies _ _ _ _ before c.args.x.now (search rules) (search rules) ((λ i. get_elem? (rows i) (place i - 1)) ∙ c.requires.next.1) (ap (λ l. get_elem? before (length l)) list ∙ c.requires.next.2))

pub split_seat-seat-requires : goal.split_seat-seat-requires
split_seat-seat-requires g c =
    let rows = ap (λ m. m.0.rows) c.join_seat.ensures.2 in
    let place = ap (λ m. m.0.place) c.join_seat.ensures.2 ∙ (ap place_of_row (sym c.into_seat-seat.ensures.2) ∙ ap (λ b. place_of_row b.views) c.replace.ensures.value) in
    let list = ap (λ m. m.0.list) c.join_seat.ensures.2 ∙ (ap list_of_row (sym c.into_seat-seat.ensures.2) ∙ ap (λ b. list_of_row b.views) c.replace.ensures.value) in
    let w = c.load.ensures.2.1 c.requires.next.0 c.args.x.now ((λ i. get_elem? (rows i) (place i - 1)) ∙ c.requires.next.1) (ap (λ l. get_elem? c.requires.next.0 (length l)) list ∙ c.requires.next.2) in (search rules, search rules, cuts _ _ (ap (λ m. m.0.has) w))

pub invariant_of-self : goal.invariant_of-self
invariant_of-self g c =
    let rows = ap (λ m. m.0.rows) c.join_seat.ensures.2 in
    let place = ap (λ m. m.0.place) c.join_seat.ensures.2 ∙ (ap place_of_row (sym c.into_seat-seat.ensures.2) ∙ ap (λ b. place_of_row b.views) c.replace.ensures.value) in
    let list = ap (λ m. m.0.list) c.join_seat.ensures.2 ∙ (ap list_of_row (sym c.into_seat-seat.ensures.2) ∙ ap (λ b. list_of_row b.views) c.replace.ensures.value) in
    let w = c.load.ensures.2.1 c.requires.next.0 c.args.x.now ((λ i. get_elem? (rows i) (place i - 1)) ∙ c.requires.next.1) (ap (λ l. get_elem? c.requires.next.0 (length l)) list ∙ c.requires.next.2) in
    let me = c.split_seat-seat.ensures.2 in
    record {
      one_word = search rules;
      seated = search rules;
      keeps = ap (λ m. m.0.keeps) me ∙ ap (λ m. m.0.keeps) w;
      holds = ap (λ m. m.1) me ∙ (ap (λ m. m.1) w ∙ search rules);
    }

pub invariant_of-row : goal.invariant_of-row
invariant_of-row g c =
    let rows = ap (λ m. m.0.rows) c.join_seat.ensures.2 in
    let place = ap (λ m. m.0.place) c.join_seat.ensures.2 ∙ (ap place_of_row (sym c.into_seat-seat.ensures.2) ∙ ap (λ b. place_of_row b.views) c.replace.ensures.value) in
    let list = ap (λ m. m.0.list) c.join_seat.ensures.2 ∙ (ap list_of_row (sym c.into_seat-seat.ensures.2) ∙ ap (λ b. list_of_row b.views) c.replace.ensures.value) in
    let w = c.load.ensures.2.1 c.requires.next.0 c.args.x.now ((λ i. get_elem? (rows i) (place i - 1)) ∙ c.requires.next.1) (ap (λ l. get_elem? c.requires.next.0 (length l)) list ∙ c.requires.next.2) in
    let e = c.into_badge.ensures.2 ∙ (ap (λ m. m.0 ∷ []) c.split_seat-seat.ensures.4 ∙ ap (λ m. guest_view m.0 ∷ []) w) in record { held = e ∙ sym (ap (λ vs. holder_view (place_of_row vs) (list_of_row vs) ∷ []) e) }

pub returns-clause-table : goal.returns-clause-table
returns-clause-table g c =
    let rows = ap (λ m. m.0.rows) c.join_seat.ensures.2 in
    let place = ap (λ m. m.0.place) c.join_seat.ensures.2 ∙ (ap place_of_row (sym c.into_seat-seat.ensures.2) ∙ ap (λ b. place_of_row b.views) c.replace.ensures.value) in
    let list = ap (λ m. m.0.list) c.join_seat.ensures.2 ∙ (ap list_of_row (sym c.into_seat-seat.ensures.2) ∙ ap (λ b. list_of_row b.views) c.replace.ensures.value) in
    let w = c.load.ensures.2.1 c.requires.next.0 c.args.x.now ((λ i. get_elem? (rows i) (place i - 1)) ∙ c.requires.next.1) (ap (λ l. get_elem? c.requires.next.0 (length l)) list ∙ c.requires.next.2) in
    let e = c.into_badge.ensures.2 ∙ (ap (λ m. m.0 ∷ []) c.split_seat-seat.ensures.4 ∙ ap (λ m. guest_view m.0 ∷ []) w) in (search rules, search rules, ap place_of_row e ∙ place)

pub returns-clause-list : goal.returns-clause-list
returns-clause-list g c =
    let rows = ap (λ m. m.0.rows) c.join_seat.ensures.2 in
    let place = ap (λ m. m.0.place) c.join_seat.ensures.2 ∙ (ap place_of_row (sym c.into_seat-seat.ensures.2) ∙ ap (λ b. place_of_row b.views) c.replace.ensures.value) in
    let list = ap (λ m. m.0.list) c.join_seat.ensures.2 ∙ (ap list_of_row (sym c.into_seat-seat.ensures.2) ∙ ap (λ b. list_of_row b.views) c.replace.ensures.value) in
    let w = c.load.ensures.2.1 c.requires.next.0 c.args.x.now ((λ i. get_elem? (rows i) (place i - 1)) ∙ c.requires.next.1) (ap (λ l. get_elem? c.requires.next.0 (length l)) list ∙ c.requires.next.2) in
    let e = c.into_badge.ensures.2 ∙ (ap (λ m. m.0 ∷ []) c.split_seat-seat.ensures.4 ∙ ap (λ m. guest_view m.0 ∷ []) w) in ap list_of_row e ∙ ap (λ l. l ++ c.args.x.now ∷ []) list

pub returns-clause-rows : goal.returns-clause-rows
returns-clause-rows g c =
    let rows = ap (λ m. m.0.rows) c.join_seat.ensures.2 in
    let place = ap (λ m. m.0.place) c.join_seat.ensures.2 ∙ (ap place_of_row (sym c.into_seat-seat.ensures.2) ∙ ap (λ b. place_of_row b.views) c.replace.ensures.value) in
    let list = ap (λ m. m.0.list) c.join_seat.ensures.2 ∙ (ap list_of_row (sym c.into_seat-seat.ensures.2) ∙ ap (λ b. list_of_row b.views) c.replace.ensures.value) in
    let w = c.load.ensures.2.1 c.requires.next.0 c.args.x.now ((λ i. get_elem? (rows i) (place i - 1)) ∙ c.requires.next.1) (ap (λ l. get_elem? c.requires.next.0 (length l)) list ∙ c.requires.next.2) in
    ap (λ m. m.0.rows) c.split_seat-seat.ensures.2 ∙ (ap (λ m. m.0.rows) w ∙ (λ i. set (rows i) (place i) (list i ++ c.args.x.now ∷ [])))
