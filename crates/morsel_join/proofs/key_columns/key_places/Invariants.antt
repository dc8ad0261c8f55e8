use Rattle.std.proofs.Common.{◌≡◌, ◌<◌, length, take, drop}
use Rattle.std.specs.List.{All}
use Rattle.morsel_join.specs.Payloads.{key_places, join_key_absence}
use Rattle.morsel_join.proofs.key_columns.key_places.Given as goal

abbrev pub invariant-loop-key : goal.invariant-loop-key
invariant-loop-key l = record {
  done : l.places.items ≡ key_places l.schema (take l.key-index l.keys);
  within : All (λ at. at < length l.schema) l.places.items;
  len : length l.places.items ≡ l.key-index;
  due : join_key_absence l.schema l.keys ≡ join_key_absence l.schema (drop l.key-index l.keys);
}
