use Rattle.std.proofs.Common.{◌≡◌, [], Bool, List, sym, subst}
use Rattle.std.specs.Arc.{arc_value}
use Rattle.morsel_meaning.specs.Values.{Row}
use Rattle.morsel_join.specs.declared.build_side.Build.{Build}
use Rattle.morsel_join.specs.BuildSides.{IsBuild}
use Rattle.morsel_join.specs.Cuts.{GivesSome}
use Rattle.morsel_join.specs.LoneRows.{rows_alone_from}
use Rattle.morsel_join.proofs.lone_rows.LoneRows.next.Goals as goal

pub alone_from-requires-clause-built : goal.alone_from-requires-clause-built
alone_from-requires-clause-built c = subst IsBuild (sym c.deref.ensures) c.requires.lone.built

pub alone_from-requires-clause-blank : goal.alone_from-requires-clause-blank
alone_from-requires-clause-blank c = subst (λ (b : Build). c.args.self.now.none ≡ record { schema = b.asked; rows = [] }) (sym c.deref.ensures) c.requires.lone.blank

pub returns-clause-lone : goal.returns-clause-lone
returns-clause-lone c = record { built = c.requires.lone.built; marks = c.requires.lone.marks; blank = c.requires.lone.blank }

pub returns-clause-rows : goal.returns-clause-rows
returns-clause-rows c = λ rest left.
    let build = arc_value c.args.self.now.build in
    let seen = c.args.self.now.hits.seen.items in
    let from = c.args.self.now.at in
    let at = c.in_ok-some.at in
    subst (λ (rs : List Row). GivesSome (λ later. later ≡ rows_alone_from build seen at) c.args.rows rs c.in_ok-some.some) (sym left)
    (subst (λ (b : Build). GivesSome (λ later. later ≡ rows_alone_from b seen at) c.args.rows (rows_alone_from b seen from) c.in_ok-some.some) c.deref.ensures
    (subst (λ (marks : List Bool). GivesSome (λ later. later ≡ rows_alone_from c.deref.result.now marks at) c.args.rows (rows_alone_from c.deref.result.now marks from) c.in_ok-some.some) c.deref-2.ensures.value c.in_ok-some.ensures.rows))

pub returns-clause-columns : goal.returns-clause-columns
returns-clause-columns c = subst (λ (b : Build). c.in_ok-some.some.frame.schema ≡ b.rules.output) c.deref.ensures c.in_ok-some.ensures.columns
