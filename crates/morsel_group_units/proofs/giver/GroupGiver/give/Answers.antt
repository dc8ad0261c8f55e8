use Rattle.std.proofs.Common.{rules, ◌≡◌, ◌≤◌, ◌-◌, length, take, drop, arith}
use Rattle.morsel_group_units.proofs.GiverLemmas.{cut_given}
use Rattle.morsel_group_units.proofs.giver.GroupGiver.give.Goals as goal

pub returns-clause-cut : goal.returns-clause-cut
returns-clause-cut g c =
    let old = c.args.self.now in
    let morsel = c.set_stretch.new.self in
    let some = c.min-some.result in
    let left = length old.frame.rows - old.at in
    let rows : morsel.frame.rows ≡ take some (drop old.at old.frame.rows) = search rules in
    let within : some ≤ left = search rules in
    cut_given old.frame.rows morsel.frame.rows old.at some left morsel.stretch rows (omega (arith, c.requires.within)) within (search rules) (search rules) (search rules) (search rules)
