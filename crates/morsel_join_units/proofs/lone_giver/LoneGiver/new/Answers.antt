use Rattle.std.proofs.Common.{rules, ◌≡◌, ◌∙◌, [], refl, sym, ap, subst}
use Rattle.std.specs.Arc.{arc_value}
use Rattle.std.proofs.lemmas.List.Elements.{All-nil}
use Rattle.morsel_load.specs.Loads.{LoadSeen, seen_seq}
use Rattle.morsel_join.specs.declared.build_side.Build.{Build}
use Rattle.morsel_join.specs.declared.hits.Hits.{Hits}
use Rattle.morsel_join.specs.BuildSides.{kept_side}
use Rattle.morsel_join.specs.Hits.{HaveHit}
use Rattle.morsel_join.specs.LoneRows.{rows_alone_from}
use Rattle.morsel_join.specs.Sides.{rows_alone}
use Rattle.morsel_join_units.proofs.lone_giver.LoneGiver.new.Goals as goal

pub returns-clause-left : goal.returns-clause-left
returns-clause-left c = λ asked hit. record { front = []; rest = rows_alone (kept_side (arc_value c.args.build)) asked; left = c.in_ok-lone.ensures.all asked hit; same = refl; many = refl }

pub returns-clause-none : goal.returns-clause-none
returns-clause-none c =
    let marks : c.of-marks.result.value ≡ c.args.hits = search rules in (
      refl,
      record {
        rest = rows_alone_from (arc_value c.in_ok-lone.lone.build) c.in_ok-lone.lone.hits.seen.items c.in_ok-lone.lone.at;
        left = refl;
        all = λ asked hit.
            let of_all : HaveHit (arc_value c.in_ok-lone.lone.build) c.args.hits.seen.items asked = subst (λ (hits : Hits). HaveHit (arc_value c.in_ok-lone.lone.build) hits.seen.items asked) marks hit in
            sym (c.in_ok-lone.ensures.all asked (subst (λ (build : Build). HaveHit build c.args.hits.seen.items asked) c.in_ok-lone.ensures.build of_all)) ∙ ap (λ (build : Build). rows_alone (kept_side build) asked) (sym c.in_ok-lone.ensures.build);
        none = λ last. absurd (cc);
        numbers = All-nil (λ (load : LoadSeen). seen_seq load ≡ c.args.seq);
      },
    )
