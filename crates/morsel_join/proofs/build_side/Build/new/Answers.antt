use Rattle.std.proofs.Common.{Bool, List, ap, sym, subst}
use Rattle.morsel_meaning.specs.declared.value.Field.{Field}
use Rattle.morsel_meaning.specs.Values.{Table}
use Rattle.morsel_join.specs.Sides.{FitSides}
use Rattle.morsel_join.proofs.build_side.Build.new.Goals as goal

pub keyed_side-requires-clause-fit : goal.keyed_side-requires-clause-fit
keyed_side-requires-clause-fit c = (
  c.args.asked,
  subst (λ (fs : List Field). FitSides c.keeps_left-is_left.result fs c.args.asked c.args.rules) (sym (ap (λ (t : Table). t.schema) c.in_ok-kept.ensures.ok))
      (subst (λ (b : Bool). FitSides b c.args.columns c.args.asked c.args.rules) (sym c.keeps_left-is_left.ensures) c.requires.fit),
)

pub returns-clause-built : goal.returns-clause-built
returns-clause-built c = record {
  side = c.keeps_left-is_left.ensures;
  fit = subst (λ (fs : List Field). FitSides c.keeps_left-is_left.result fs c.args.asked c.args.rules) (sym (ap (λ (t : Table). t.schema) c.in_ok-kept.ensures.ok))
      (subst (λ (b : Bool). FitSides b c.args.columns c.args.asked c.args.rules) (sym c.keeps_left-is_left.ensures) c.requires.fit);
  short = c.in_ok-kept.ensures.short;
  keyed = c.in_ok-keyed.ensures.ok;
}

pub returns-clause-rows : goal.returns-clause-rows
returns-clause-rows c = ap (λ (t : Table). t.rows) c.in_ok-kept.ensures.ok
