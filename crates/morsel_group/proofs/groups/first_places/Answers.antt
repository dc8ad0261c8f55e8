use Rattle.morsel_group.proofs.OthersLemmas.{places_more}
use Rattle.morsel_group.proofs.groups.first_places.Goals as goal

pub loop-at-preserved : goal.loop-at-preserved
loop-at-preserved c = places_more c.loop-at.at c.loop-at.places.items c.push.new.self.items c.loop-at.invariant c.in_ok-push.ensures.items
