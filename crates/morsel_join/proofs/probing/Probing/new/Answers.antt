use Rattle.std.proofs.Common.{[], refl, arith, sym, subst}
use Rattle.morsel_join.specs.declared.build_side.Build.{Build}
use Rattle.morsel_join.specs.BuildSides.{IsBuild}
use Rattle.morsel_join.specs.Probings.{AreNumbersOf}
use Rattle.morsel_join.proofs.probing.Probing.new.Goals as goal

pub numbers-requires-clause-built : goal.numbers-requires-clause-built
numbers-requires-clause-built c = subst IsBuild (sym c.deref.ensures) c.requires.built

pub returns-clause-probing : goal.returns-clause-probing
returns-clause-probing c = record {
  built = c.requires.built;
  columns = c.requires.columns;
  short = c.requires.short;
  numbers = subst (λ (b : Build). AreNumbersOf b c.args.frame.rows c.in_ok-numbers.numbers.items) c.deref.ensures c.in_ok-numbers.ensures.ok;
  within = omega arith;
}

pub returns-clause-all : goal.returns-clause-all
returns-clause-all c = record { chain = []; linked = refl; all = refl }
