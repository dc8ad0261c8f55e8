use Rattle.std.proofs.Common.{◌≡◌, ◌+◌, drop}
use Rattle.morsel_ndjson.specs.Members.{members_room}
use Rattle.morsel_ndjson.proofs.members.row_room.Given as goal

abbrev pub invariant-loop-at : goal.invariant-loop-at
invariant-loop-at l = l.room + members_room (drop l.at l.members) ≡ members_room l.members + 3
