use Rattle.std.proofs.Common.{rules, ap, sym, refl, ◌∙◌, ◌≡◌, subst, None, [], ◌∷◌, ◌++◌}
use Rattle.morsel_prims.specs.Marks.{AreFor, is_shut, is_unclosed, lane_end, lane_job, lane_values}
use Rattle.morsel_prims.specs.Rows.{list_of_row}
use Rattle.morsel_prims.specs.declared.plain_item.Mark.TheVariants.{Value, End}
use Rattle.morsel_prims.proofs.EndLemmas.{end-last, end-value, job-append, unclosed_unended, unshut-taken, value_for, values-end, values-value}
use Rattle.morsel_prims.proofs.plain_receiver.PlainReceiverLaneReceiverPlainBoard.try_recv.Goals as goal

pub returns-in_default-take-clause-refused : goal.returns-in_default-take-clause-refused
returns-in_default-take-clause-refused g c =
    let none : c.args.self.now.ended ≡ None = search rules in let same : list_of_row c.take.new.mine.badge.views ≡ list_of_row c.args.self.now.row.badge.views = search rules in
    (search rules, search rules, ap is_unclosed same ∙ unclosed_unended (list_of_row c.args.self.now.row.badge.views) c.args.self.now.unshut (c.args.self.now.at_end ∙ none))

pub invariant_of-self-in-Value-1 : goal.invariant_of-self-in-Value-1
invariant_of-self-in-Value-1 g c =
    let took : list_of_row c.take.new.mine.badge.views ≡ list_of_row c.args.self.now.row.badge.views ++ Value c.in-Value.suited ∷ [] = search rules in
    record {
      placed = search rules;
      unshut = ap is_shut took ∙ unshut-taken (list_of_row c.args.self.now.row.badge.views) (Value c.in-Value.suited) refl c.args.self.now.unshut;
      of_job = ap lane_job took ∙ job-append (list_of_row c.args.self.now.row.badge.views) _ _ c.args.self.now.of_job;
      at_end = ap lane_end took ∙ (end-value (list_of_row c.args.self.now.row.badge.views) c.in-Value.suited ∙ c.args.self.now.at_end);
    }

pub returns-in-Value-clause-ok : goal.returns-in-Value-clause-ok
returns-in-Value-clause-ok g c =
    let took : list_of_row c.take.new.mine.badge.views ≡ list_of_row c.args.self.now.row.badge.views ++ Value c.in-Value.suited ∷ [] = search rules in
    ap lane_values took ∙ (values-value (list_of_row c.args.self.now.row.badge.views) c.in-Value.suited ∙ ap (λ x. lane_values (list_of_row c.args.self.now.row.badge.views) ++ x ∷ []) (sym c.into_value.ensures.same))

pub returns-in-Value-clause-suits : goal.returns-in-Value-clause-suits
returns-in-Value-clause-suits g c =
    let for_job = c.in-Some-take.ensures.job _ c.args.self.now.of_job in let is : c.in-Some-take.mark ≡ Value c.in-Value.suited = search rules in
    subst (λ job. g.T.Message.suits job c.into_value.result) (value_for _ c.in-Value.suited (subst (λ m. AreFor c.args.self.now.job.value (m ∷ [])) is for_job)) c.into_value.ensures.suits

pub told_end-requires-in-End-clause-unshut : goal.told_end-requires-in-End-clause-unshut
told_end-requires-in-End-clause-unshut g c =
    let took : list_of_row c.take.new.mine.badge.views ≡ list_of_row c.args.self.now.row.badge.views ++ End c.in-End.whole ∷ [] = search rules in ap is_shut took ∙ unshut-taken (list_of_row c.args.self.now.row.badge.views) (End c.in-End.whole) refl c.args.self.now.unshut

pub told_end-requires-in-End-clause-ended : goal.told_end-requires-in-End-clause-ended
told_end-requires-in-End-clause-ended g c =
    let none : c.args.self.now.ended ≡ None = search rules in let took : list_of_row c.take.new.mine.badge.views ≡ list_of_row c.args.self.now.row.badge.views ++ End c.in-End.whole ∷ [] = search rules in
    ap lane_end took ∙ end-last (list_of_row c.args.self.now.row.badge.views) c.in-End.whole (unclosed_unended (list_of_row c.args.self.now.row.badge.views) c.args.self.now.unshut (c.args.self.now.at_end ∙ none))

pub invariant_of-self-in-End : goal.invariant_of-self-in-End
invariant_of-self-in-End g c =
    let none : c.args.self.now.ended ≡ None = search rules in
    let took : list_of_row c.told_end-in-End.new.mine.badge.views ≡ list_of_row c.args.self.now.row.badge.views ++ End c.in-End.whole ∷ [] = search rules in
    record {
      placed = search rules;
      unshut = ap is_shut took ∙ unshut-taken (list_of_row c.args.self.now.row.badge.views) (End c.in-End.whole) refl c.args.self.now.unshut;
      of_job = ap lane_job took ∙ job-append (list_of_row c.args.self.now.row.badge.views) _ _ c.args.self.now.of_job;
      at_end = ap lane_end took ∙ end-last (list_of_row c.args.self.now.row.badge.views) c.in-End.whole (unclosed_unended (list_of_row c.args.self.now.row.badge.views) c.args.self.now.unshut (c.args.self.now.at_end ∙ none));
    }

pub returns-in-End-clause-err : goal.returns-in-End-clause-err
returns-in-End-clause-err g c =
    let took : list_of_row c.told_end-in-End.new.mine.badge.views ≡ list_of_row c.args.self.now.row.badge.views ++ End c.in-End.whole ∷ [] = search rules in ap lane_values took ∙ values-end (list_of_row c.args.self.now.row.badge.views) c.in-End.whole
