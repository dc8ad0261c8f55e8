use Rattle.std.proofs.Common.{Bool, List, sym, subst, true, false}
use Rattle.morsel_meaning.specs.declared.value.Field.{Field}
use Rattle.morsel_join.specs.Rows.{FitRules}
use Rattle.morsel_join.specs.Sides.{FitSides}
use Rattle.morsel_join.proofs.build_side.Build.gather.Goals as goal

pub gather_exchanged-requires-clause-fit : goal.gather_exchanged-requires-clause-fit
gather_exchanged-requires-clause-fit c =
    let b = c.args.self.now in
    subst (λ (fs : List Field). FitRules b.kept.schema fs b.rules) (sym c.requires.columns) (subst (λ (t : Bool). FitSides t b.kept.schema b.asked b.rules) c.if-self.true c.requires.built.fit)

pub gather_straight-requires-clause-fit : goal.gather_straight-requires-clause-fit
gather_straight-requires-clause-fit c =
    let b = c.args.self.now in
    subst (λ (fs : List Field). FitRules fs b.kept.schema b.rules) (sym c.requires.columns) (subst (λ (t : Bool). FitSides t b.kept.schema b.asked b.rules) c.if-self.false c.requires.built.fit)

pub returns-then-self-clause-ok : goal.returns-then-self-clause-ok
returns-then-self-clause-ok c = λ items left right. rw c.if-self.true (c.in_ok-gather_exchanged.ensures.ok items left right)

pub returns-clause-ok : goal.returns-clause-ok
returns-clause-ok c = λ items left right. rw c.if-self.false (c.in_ok-gather_straight.ensures.ok items left right)
