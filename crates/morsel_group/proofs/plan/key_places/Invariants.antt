use Rattle.std.proofs.Common.{◌≡◌, ◌<◌, map, take, drop, length, All}
use Rattle.morsel_group.specs.Asked.{column_place}
use Rattle.morsel_group.specs.GroupFlaws.{key_absence}
use Rattle.morsel_group.proofs.plan.key_places.Given as goal

abbrev pub invariant-loop-name : goal.invariant-loop-name
invariant-loop-name l = record {
  places : l.places.items ≡ map (column_place l.input) (take l.name-index l.names);
  within : All (λ at. at < length l.input) l.places.items;
  absent : key_absence l.input l.names ≡ key_absence l.input (drop l.name-index l.names);
}
