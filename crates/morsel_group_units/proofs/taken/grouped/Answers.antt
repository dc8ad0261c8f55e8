use Rattle.std.proofs.Common.{rules, ◌≡◌, ◌≤◌, ◌++◌, ◌∷◌, [], None, List, get_or, length, inl, inr, subst}
use Rattle.morsel_group.specs.Grouping.{Grouped, RowAt, in_order}
use Rattle.morsel_group.specs.Locals.{AreFewEnough, HasShape, HasSums, IsGroupFault, IsSumFault}
use Rattle.morsel_group_units.specs.GroupAsks.{rules_shape}
use Rattle.morsel_group_units.proofs.FinishLemmas.{alike_all, all_are, enough_taken, first_is, rows_in, rows_none, shape_together, taken_none}
use Rattle.morsel_group_units.proofs.TakingLemmas.{has_shape, output_same}
use Rattle.morsel_group_units.proofs.taken.grouped.Goals as goal

pub combine-requires-clause-alike : goal.combine-requires-clause-alike
combine-requires-clause-alike c =
    let r = c.args.rules.now in
    let pushed : c.push.new.self.items ≡ c.args.locals.items ++ c.in-Ok.none ∷ [] = search rules in
    alike_all r.columns r.asked c.push.new.self.items (all_are r.columns r.asked c.args.locals.items c.push.new.self.items c.in-Ok.none pushed c.requires.group_by c.in-Ok.ensures.group_by)

pub returns-in-Err-combine-clause-refused : goal.returns-in-Err-combine-clause-refused
returns-in-Err-combine-clause-refused c =
    let r = c.args.rules.now in
    let pushed : c.push.new.self.items ≡ c.args.locals.items ++ c.in-Ok.none ∷ [] = search rules in
    let all = all_are r.columns r.asked c.args.locals.items c.push.new.self.items c.in-Ok.none pushed c.requires.group_by c.in-Ok.ensures.group_by in
    let first = first_is r.columns r.asked c.args.locals.items c.push.new.self.items c.in-Ok.none pushed all in
    λ lists taken.
    inl (subst (λ (rows : List RowAt). IsGroupFault (rules_shape r) rows c.in-Err-combine.fault) (rows_none lists)
    (c.in-Err-combine.ensures.refused (lists ++ [] ∷ []) (rules_shape r) (taken_none c.args.locals.items c.push.new.self.items c.in-Ok.none lists pushed taken c.in-Ok.ensures.empty) (has_shape r.columns r.asked (get_or c.push.new.self.items 0 None) first)))

pub returns-in-Ok-into_frame-clause-columns : goal.returns-in-Ok-into_frame-clause-columns
returns-in-Ok-into_frame-clause-columns c =
    let r = c.args.rules.now in
    let pushed : c.push.new.self.items ≡ c.args.locals.items ++ c.in-Ok.none ∷ [] = search rules in
    let all = all_are r.columns r.asked c.args.locals.items c.push.new.self.items c.in-Ok.none pushed c.requires.group_by c.in-Ok.ensures.group_by in
    let first = first_is r.columns r.asked c.args.locals.items c.push.new.self.items c.in-Ok.none pushed all in
    output_same r.columns c.in-Ok-into_frame.frame.schema r.asked (get_or c.push.new.self.items 0 None) c.in-Ok-combine.whole first c.in-Ok-combine.ensures.same c.in-Ok-into_frame.ensures.schema

pub returns-in-Ok-into_frame-clause-rows : goal.returns-in-Ok-into_frame-clause-rows
returns-in-Ok-into_frame-clause-rows c =
    let r = c.args.rules.now in
    let pushed : c.push.new.self.items ≡ c.args.locals.items ++ c.in-Ok.none ∷ [] = search rules in
    let all = all_are r.columns r.asked c.args.locals.items c.push.new.self.items c.in-Ok.none pushed c.requires.group_by c.in-Ok.ensures.group_by in
    let first = first_is r.columns r.asked c.args.locals.items c.push.new.self.items c.in-Ok.none pushed all in
    let shape : HasShape c.in-Ok-combine.whole (rules_shape r) = shape_together r (get_or c.push.new.self.items 0 None) c.in-Ok-combine.whole first c.in-Ok-combine.ensures.same in
    λ lists taken.
    subst (λ (rows : List RowAt). Grouped (rules_shape r) (in_order rows) c.in-Ok-into_frame.frame.rows) (rows_none lists)
    (c.in-Ok-into_frame.ensures.rows (rows_in (lists ++ [] ∷ [])) (rules_shape r) (c.in-Ok-combine.ensures.rows (lists ++ [] ∷ []) (taken_none c.args.locals.items c.push.new.self.items c.in-Ok.none lists pushed taken c.in-Ok.ensures.empty)) shape)

pub returns-in-Ok-into_frame-clause-few : goal.returns-in-Ok-into_frame-clause-few
returns-in-Ok-into_frame-clause-few c =
    let pushed : c.push.new.self.items ≡ c.args.locals.items ++ c.in-Ok.none ∷ [] = search rules in
    λ lists taken.
    subst (λ (rows : List RowAt). length c.in-Ok-into_frame.frame.rows ≤ length rows) (rows_none lists)
    (c.in-Ok-into_frame.ensures.few (rows_in (lists ++ [] ∷ [])) (c.in-Ok-combine.ensures.rows (lists ++ [] ∷ []) (taken_none c.args.locals.items c.push.new.self.items c.in-Ok.none lists pushed taken c.in-Ok.ensures.empty)))

pub returns-in-Ok-into_frame-clause-enough : goal.returns-in-Ok-into_frame-clause-enough
returns-in-Ok-into_frame-clause-enough c =
    let r = c.args.rules.now in
    let pushed : c.push.new.self.items ≡ c.args.locals.items ++ c.in-Ok.none ∷ [] = search rules in
    let all = all_are r.columns r.asked c.args.locals.items c.push.new.self.items c.in-Ok.none pushed c.requires.group_by c.in-Ok.ensures.group_by in
    let first = first_is r.columns r.asked c.args.locals.items c.push.new.self.items c.in-Ok.none pushed all in
    let shape : HasShape c.in-Ok-combine.whole (rules_shape r) = shape_together r (get_or c.push.new.self.items 0 None) c.in-Ok-combine.whole first c.in-Ok-combine.ensures.same in
    λ lists taken.
    subst (λ (rows : List RowAt). AreFewEnough (rules_shape r) rows) (rows_none lists)
    (enough_taken c.in-Ok-combine.whole (rules_shape r) (rows_in (lists ++ [] ∷ [])) (c.in-Ok-combine.ensures.rows (lists ++ [] ∷ []) (taken_none c.args.locals.items c.push.new.self.items c.in-Ok.none lists pushed taken c.in-Ok.ensures.empty)) shape)

pub returns-in-Ok-into_frame-clause-sums : goal.returns-in-Ok-into_frame-clause-sums
returns-in-Ok-into_frame-clause-sums c =
    let r = c.args.rules.now in
    let pushed : c.push.new.self.items ≡ c.args.locals.items ++ c.in-Ok.none ∷ [] = search rules in
    let all = all_are r.columns r.asked c.args.locals.items c.push.new.self.items c.in-Ok.none pushed c.requires.group_by c.in-Ok.ensures.group_by in
    let first = first_is r.columns r.asked c.args.locals.items c.push.new.self.items c.in-Ok.none pushed all in
    let shape : HasShape c.in-Ok-combine.whole (rules_shape r) = shape_together r (get_or c.push.new.self.items 0 None) c.in-Ok-combine.whole first c.in-Ok-combine.ensures.same in
    λ lists taken.
    subst (λ (rows : List RowAt). HasSums (rules_shape r) rows) (rows_none lists)
    (c.in-Ok-into_frame.ensures.fits (rows_in (lists ++ [] ∷ [])) (rules_shape r) (c.in-Ok-combine.ensures.rows (lists ++ [] ∷ []) (taken_none c.args.locals.items c.push.new.self.items c.in-Ok.none lists pushed taken c.in-Ok.ensures.empty)) shape)

pub returns-in-Err-into_frame-clause-refused : goal.returns-in-Err-into_frame-clause-refused
returns-in-Err-into_frame-clause-refused c =
    let r = c.args.rules.now in
    let pushed : c.push.new.self.items ≡ c.args.locals.items ++ c.in-Ok.none ∷ [] = search rules in
    let all = all_are r.columns r.asked c.args.locals.items c.push.new.self.items c.in-Ok.none pushed c.requires.group_by c.in-Ok.ensures.group_by in
    let first = first_is r.columns r.asked c.args.locals.items c.push.new.self.items c.in-Ok.none pushed all in
    let shape : HasShape c.in-Ok-combine.whole (rules_shape r) = shape_together r (get_or c.push.new.self.items 0 None) c.in-Ok-combine.whole first c.in-Ok-combine.ensures.same in
    λ lists taken.
    inr (subst (λ (rows : List RowAt). IsSumFault (rules_shape r) rows c.in-Err-into_frame.fault) (rows_none lists)
    (c.in-Err-into_frame.ensures.refused (rows_in (lists ++ [] ∷ [])) (rules_shape r) (c.in-Ok-combine.ensures.rows (lists ++ [] ∷ []) (taken_none c.args.locals.items c.push.new.self.items c.in-Ok.none lists pushed taken c.in-Ok.ensures.empty)) shape))
