use Rattle.std.proofs.Common.{◌≡◌, ◌≤◌, ℕ, List, length, sym, subst}
use Rattle.std.specs.Arc.{arc_value}
use Rattle.morsel_join.specs.declared.build_side.Build.{Build}
use Rattle.morsel_join.specs.BuildSides.{IsBuild}
use Rattle.morsel_join.specs.Cuts.{GivesSome}
use Rattle.morsel_join.specs.Probings.{AreFoundFrom, AreNumbersOf}
use Rattle.morsel_join.proofs.probing.Probing.next.Goals as goal

pub found_from-requires-clause-built : goal.found_from-requires-clause-built
found_from-requires-clause-built c = subst IsBuild (sym c.deref.ensures) c.requires.probing.built

pub found_from-requires-clause-columns : goal.found_from-requires-clause-columns
found_from-requires-clause-columns c = subst (λ (b : Build). c.args.self.now.frame.schema ≡ b.asked) (sym c.deref.ensures) c.requires.probing.columns

pub found_from-requires-clause-numbers : goal.found_from-requires-clause-numbers
found_from-requires-clause-numbers c =
    subst (λ (b : Build). AreNumbersOf b c.args.self.now.frame.rows c.deref-2.result.now) (sym c.deref.ensures)
    (subst (λ (ns : List ℕ). AreNumbersOf (arc_value c.args.self.now.build) c.args.self.now.frame.rows ns) (sym c.deref-2.ensures.value) c.requires.probing.numbers)

pub found_from-requires-clause-within : goal.found_from-requires-clause-within
found_from-requires-clause-within c = subst (λ (b : Build). c.args.self.now.cursor.link ≤ length b.keyed.next.items) (sym c.deref.ensures) c.requires.probing.within

pub returns-clause-probing : goal.returns-clause-probing
returns-clause-probing c =
    let probing = c.requires.probing in record {
      built = probing.built;
      columns = probing.columns;
      short = probing.short;
      numbers = probing.numbers;
      within = subst (λ (b : Build). c.in_ok-some.cursor.link ≤ length b.keyed.next.items) c.deref.ensures c.in_ok-some.ensures.within;
    }

pub returns-clause-rows : goal.returns-clause-rows
returns-clause-rows c = λ rest left.
    let rows = c.args.self.now.frame.rows in
    subst (λ (b : Build). GivesSome (AreFoundFrom b rows c.in_ok-some.cursor) c.args.rows rest c.in_ok-some.some) c.deref.ensures
    (c.in_ok-some.ensures.rows rest (subst (λ (b : Build). AreFoundFrom b rows c.args.self.now.cursor rest) (sym c.deref.ensures) left))

pub returns-clause-columns : goal.returns-clause-columns
returns-clause-columns c = subst (λ (b : Build). c.in_ok-some.some.frame.schema ≡ b.rules.output) c.deref.ensures c.in_ok-some.ensures.columns
