use Rattle.std.proofs.Common.{◌++◌}
use Rattle.std.specs.Arc.{arc_value}
use Rattle.morsel_group_units.proofs.TakingLemmas.{all_along, placed_closed}
use Rattle.morsel_group_units.proofs.taken.TakenGroups.closed.Goals as goal

pub invariant_of-result : goal.invariant_of-result
invariant_of-result c =
    let inside = c.self.inside in
    all_along (arc_value inside.rules) inside.locals.items inside.fault (inside.ordered.items ++ inside.loads.items) (c.append.new.self.items ++ c.new.result.items)
    (placed_closed inside.ordered.items inside.loads.items c.in_ok-more.more.items c.append.new.self.items c.new.result.items c.in_ok-more.ensures.same c.in_ok-append.ensures.items c.new.ensures.items) c.self.invariant
