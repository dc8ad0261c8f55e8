use Rattle.std.proofs.Common.{◌≡◌, ◌∙◌, [], List, ap, length, subst, true, false}
use Rattle.std.specs.Arc.{arc_value}
use Rattle.morsel_meaning.specs.declared.value.Field.{Field}
use Rattle.morsel_join.specs.declared.build_side.Build.{Build}
use Rattle.morsel_join.specs.BuildSides.{kept_side}
use Rattle.morsel_join.specs.Sides.{wants_kept}
use Rattle.morsel_join.proofs.AloneLemmas.{alone-unmarked}
use Rattle.morsel_join.proofs.lone_rows.LoneRows.new.Goals as goal

pub returns-clause-lone : goal.returns-clause-lone
returns-clause-lone c = record {
  built = c.requires.built;
  marks = c.requires.marks;
  blank = c.empty.ensures ∙ ap (λ (fs : List Field). record { schema = fs; rows = [] }) (c.in_ok-columns.ensures.same ∙ ap (λ (b : Build). b.asked) c.deref.ensures);
}

pub returns-clause-all : goal.returns-clause-all
returns-clause-all c = λ asked hit.
    alone-unmarked (arc_value c.args.build) c.args.hits.seen.items asked c.first_alone-at.result c.requires.built hit
    (subst (λ (b : Build). wants_kept (kept_side b) ≡ true → c.first_alone-at.result ≡ 0) c.deref-2.ensures c.first_alone-at.ensures.wanted)
    (subst (λ (b : Build). wants_kept (kept_side b) ≡ false → c.first_alone-at.result ≡ length b.kept.rows) c.deref-2.ensures c.first_alone-at.ensures.unwanted)
